use Rattle.std.proofs.Common.{refl, subst, sym, ◌≡◌}
use Rattle.std.specs.Map.Calls.{MayWrite, ModifiesValue}
use Rattle.std.specs.Prelude.{IfSome}
use Rattle.aa_ordered.specs.Entry.{writes}
use Rattle.aa_ordered.proofs.Stored.{inserted-some, inserted-value}
use Rattle.aa_ordered.proofs.entry.OccupiedEntry.modify.Goals as goal

at_both : {X : Type 0} (P : X → X → Type 0) (p q a b : X) → p ≡ a → q ≡ b → P a b → P p q
at_both P p q a b x y h = subst (λ r. P r q) (sym x) (subst (P a) (sym y) h)

pub invariant_of-self : goal.invariant_of-self
invariant_of-self g c = record {
  present = inserted-some g.K.Ord.cmp g.met.K.Ord.total c.args.self.now.map.now.entries c.args.self.now.key c.f.new.arg2;
}

pub returns-clause-called : goal.returns-clause-called
returns-clause-called g c =
    let u = c.f.new.arg2 in let o = c.args.self.now in
    let did : MayWrite g.F.FnOnce c.args.f c.stored_mut.result.now u
    = record { lent = c.stored_mut.result; result = c.f.result; left = _; before = refl; met = c.f.ensures; after = refl } in
    at_both (ModifiesValue g.F.FnOnce c.args.f) _ _ _ _ c.stored_mut.ensures.value (inserted-value g.K.Ord.cmp g.met.K.Ord.total o.map.now.entries o.key u) did

pub returns-clause-written : goal.returns-clause-written
returns-clause-written g c =
    let u = c.f.new.arg2 in let o = c.args.self.now in
    subst (λ r. IfSome r (λ v. writes g.K.Ord.cmp o.map.now o.key u ≡ writes g.K.Ord.cmp o.map.now o.key v)) (sym (inserted-value g.K.Ord.cmp g.met.K.Ord.total o.map.now.entries o.key u)) refl

pub returns-clause-keys : goal.returns-clause-keys
returns-clause-keys g c = c.stored_mut.ensures.keys c.f.new.arg2
