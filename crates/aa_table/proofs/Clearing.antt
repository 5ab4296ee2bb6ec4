-- A table whose keys were dropped, and whose slots were freed.
use Rattle.std.proofs.Common.{List, None, Option, arith, ap, get_or, inl, inr, length, replicate, sym, ℕ, ◌∙◌, ◌≡◌, ◌<◌, ◌≤◌, ◌≢◌}
use Rattle.std.proofs.lemmas.Bool.{cases_eq, cases_lt}
use Rattle.std.proofs.lemmas.List.{length-replicate}
use Rattle.aa_table.specs.Slots.{tag_at, IsIndex, IsSlots}
use Rattle.aa_table.specs.Places.{AreFree, hashes_of}
use Rattle.aa_table.specs.declared.slots.Overflow.{Overflow}
use Rattle.aa_table.proofs.Moving.{all-free, past}
use Rattle.aa_table.proofs.Naming.{none-taken}
use Rattle.aa_table.proofs.Placed.{hash-none, length-hashes}

module _ {K V : Type 0} (ts : List ℕ) (old new : List (Option (K × V))) where
  -- where each place with a tagged slot is emptied, and no other had a key, all are empty
  pub all-gone : AreFree ts old → ((s : ℕ) → 0 ≤ s → s < length ts → tag_at ts s ≢ 0 → get_or new s None ≡ None) → ((s : ℕ) → get_or old s None ≡ None → get_or new s None ≡ None) → (s : ℕ) → get_or new s None ≡ None
  all-gone free gone others s = elim (cases_eq (tag_at ts s) 0) [
    | inl z ↦ others s (free s z)
    | inr n ↦ elim (cases_lt s (length ts)) [ inl l ↦ gone s (omega arith) l n | inr m ↦ absurd (n (past ts s m)) ]
  ]

  -- freed slots index no key
  pub index-cleared : (h : K → ℕ) (bs : List Overflow) → IsSlots ts bs → length ts ≤ length new → ((s : ℕ) → get_or new s None ≡ None) → {ts' : List ℕ} {bs' : List Overflow} → ts' ≡ replicate (length ts) 0 → length bs' ≡ length bs → IsIndex ts' bs' (hashes_of h new)
  index-cleared h bs slots many none {ts'} {bs'} tags overflows =
      let same : length ts' ≡ length ts = ap length tags ∙ length-replicate (length ts) 0 in
      none-taken ts' bs' (hashes_of h new) (record { groups = rw same slots.groups; each = omega (arith, same, overflows, slots.each); more = omega (arith, same, slots.more) }) (omega (arith, same, many, length-hashes h new)) (hash-none h new none) (all-free ts' (tags ∙ ap (λ n. replicate n 0) (sym same)))
