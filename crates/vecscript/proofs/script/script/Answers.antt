use Rattle.std.proofs.Common.{inl, inr, ⊎_elim, refl, rules}
use Rattle.vecscript.specs.Runs.{script_calls}
use Rattle.vecscript.proofs.Restated.{printed-restated}
use Rattle.vecscript.proofs.script.script.Goals as goal

-- the closures are described as what they are
pub returns-in-Ok-clause-printed : goal.returns-in-Ok-clause-printed
returns-in-Ok-clause-printed g c =
    λ ends. printed-restated _ (script_calls _ _) (λ k x transcript l y restated. search rules) (λ s x l transcript r y k restated. search rules) (λ a b cloned. cloned) refl _ _ _ _ _ c.in-Ok.ensures.printed

pub returns-in-Ok-clause-part : goal.returns-in-Ok-clause-part
returns-in-Ok-clause-part g c =
    ⊎_elim inl (λ begun. inr (printed-restated _ (script_calls _ _) (λ k x transcript l y restated. search rules) (λ s x l transcript r y k restated. search rules) (λ a b cloned. cloned) refl _ _ _ _ _ begun)) c.run_script.ensures.part

pub returns-in-Err-clause-part : goal.returns-in-Err-clause-part
returns-in-Err-clause-part g c =
    ⊎_elim inl (λ begun. inr (printed-restated _ (script_calls _ _) (λ k x transcript l y restated. search rules) (λ s x l transcript r y k restated. search rules) (λ a b cloned. cloned) refl _ _ _ _ _ begun)) c.run_script.ensures.part
