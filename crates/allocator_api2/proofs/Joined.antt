-- What was split off and appended again makes the same list.
use Rattle.allocator_api2.proofs.Common.{CutIsJoined, Vector, ap, arith, drop, refl, suc, take, take-append-drop, zero, ℕ, ◌<◌, ◌∙◌, ◌≡◌}
use Rattle.aa_vec.specs.Split.{Splits}

module _ {T A : Type 0} (size : ℕ) (old head tail : Vector T A) where
  parts_are : (at : ℕ) → Splits size old at head tail → (head.items ≡ take at old.items)
      × (tail.items ≡ drop at old.items)
  parts_are zero s = ((s.head_made refl).items, ap (λ v. v.items) (s.tail_all refl))
  parts_are (suc at) s = let some : 0 < suc at = omega arith in
      (ap (λ v. v.items) (s.head_kept some), (s.tail_made some).items)

pub cut_is_joined : {T A : Type 0} (size : ℕ) → CutIsJoined T A size
cut_is_joined size at main side head tail main' side' cut join =
    let parts = parts_are size main head tail at cut.1 in
    ap (λ v. v.items) join.1.0 ∙ rw (parts.0, parts.1) (take-append-drop at main.items)
