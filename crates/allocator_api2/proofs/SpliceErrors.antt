-- A splice that failed did not fit.
use Rattle.allocator_api2.proofs.Common.{FitsRange, Gapped, List, SpliceFails, SplicesFront, TryReserveError, Vector, ap, arith, drop, gapped, inl, inr, len, length, length-append, length-drop, length-take, take, ℕ, ◌++◌, ◌+◌, ◌-◌, ◌<◌, ◌∙◌, ◌≡◌, ◌≤◌, ◌⊎◌}
use Rattle.allocator_api2.proofs.ExtendErrors.{stops-full}

abbrev pub without_range : {T A : Type 0} → Vector T A → (start end : ℕ) → Gapped T A
without_range v start end = gapped v (take start v.items) (end - start) (drop end v.items)

module _ {T A : Type 0} (size : ℕ) (lower : ℕ → ℕ) (old : Vector T A) (start end : ℕ)
    (ordered : start ≤ end) (within : end ≤ len old) (added : List T) (error : TryReserveError)
    (new : Vector T A) where
  ends : (length (take start old.items) ≡ start) × (length (drop end old.items) ≡ len old - end)
  ends = (omega (arith, length-take start old.items, ordered, within), length-drop end old.items)

  module _ {fails whole : Type 0}
      (front : SplicesFront size lower (without_range old start end) added fails whole error new)
    where
      count : length added ≡ length front.front + length front.others
      count = ap length front.begins ∙ length-append front.front front.others

      long_new : len new ≡ start + length front.front + (len old - end)
      long_new = omega (
        arith,
        ap length front.items,
        length-append (take start old.items)
            (front.front ++ drop end old.items),
        length-append front.front (drop end old.items),
        ends,
      )

      not_fits : ¬ ((length added < end - start)
          ⊎ (length added - (end - start) ≤ lower (length added - (end - start)))
          × (lower (length added - (end - start)) ≤ old.capacity - len old))
      not_fits fits = grind (arith, fits, front.why, count, long_new, ordered, within)

  pub short-full : {fails whole : Type 0}
      → SpliceFails size lower (without_range old start end) added fails whole error new
      → ¬ FitsRange old start end (length added) lower
  short-full (inl p) (inl h) = stops-full size lower old (take start old.items) added error new p.1
      (omega (arith, h.1, ends))
  short-full (inl p) (inr g) = grind (arith, g, ends, p.0)
  short-full (inr p) h = grind (arith, h, p.0, ends, not_fits p.1)
