-- What follows where a call succeeded, and where it failed.
use Rattle.aa_vec.proofs.Common.{refl, Result, Ok, Err, OnOk, IfErr}
pub use Rattle.std.specs.Prelude.{IsOk}

pub on_ok : {X E P Q : Type 0} → (r : Result X E) → OnOk r P → (P → Q) → OnOk r Q
on_ok (Ok x) p f = f p
on_ok (Err e) p f = tt

pub if_err : {X E : Type 0} {P Q : E → Type 0} → (r : Result X E) → IfErr r P
    → ((e : E) → P e → Q e) → IfErr r Q
if_err (Ok x) p f = tt
if_err (Err e) p f = f e p

pub done_unless : {X E : Type 0} → (r : Result X E) → IfErr r (λ _. ⊥) → IsOk r
done_unless (Ok x) h = refl
done_unless (Err e) h = absurd h
