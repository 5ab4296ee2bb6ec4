-- A range that was taken out of a vector and replaced by an `Items`.
use Rattle.allocator_api2.proofs.Common.{Done, List, LowerExactly, Option, Performs, PutsWithin, Refused, RemainingItems, Reply, SameBlock-becomes, Splice, SpliceFails, SplicesAll, TakesRange, TryReserveError, TryReserveErrorKind, Vector, ap, arith, drain_tail, drain_vec, drop, gapped, len, length, length-drop, length-take, lower_bound_of, range_len, refl, subst, take, takes_item, ℕ, ⊤, ◌*◌, ◌+◌, ◌-◌, ◌≡◌, ◌≤◌}
use Rattle.aa_vec.specs.declared.vec.drain.Drain.{Drain}
use Rattle.aa_vec.proofs.Counted.{items_lower}
use Rattle.aa_vec.proofs.SpliceByItems.{SplicesByAll, SplicesByFront, cut_off, SplicesAll-items, SpliceFails-items, SplicesAll-from, SpliceFails-from}
use Rattle.allocator_api2.proofs.ByKind.{failed_by_kind}
use Rattle.allocator_api2.proofs.SpliceErrors.{short-full, without_range}

module _ {T A : Type 0} (size : ℕ) (old : Vector T A) (start end : ℕ) (ordered : start ≤ end)
    (within : end ≤ len old)
    (items : Vector T A) (hint : Option ℕ) (d : Drain T A) (drains : TakesRange old start end d)
    (iter : RemainingItems T) (all : iter ≡ record { items = items.items; hint = hint })
    (new : Vector T A) where
  -- what holds of the parts of d holds of those of the range
  of_range : (P : List T → ℕ → List T → Type 0) → P (drain_vec d).items (range_len d) (drain_tail d)
      → P (take start old.items) (end - start) (drop end old.items)
  of_range P p =
      subst (λ h. P h (end - start) (drop end old.items)) (ap (λ v. v.items) drains.becomes)
      (subst (λ g. P (drain_vec d).items g (drop end old.items)) drains.range
      (subst (λ t. P (drain_vec d).items (range_len d) t) drains.tail p))

  few : PutsWithin (drain_vec d) (len (drain_vec d) + length (drain_tail d))
      (length (drain_tail d)) new → new.written
      ≤ old.written + (len new - (start + (len old - end)) + 2 * (len old - end))
  few w = omega (
    arith,
    ap len drains.becomes,
    ap (λ v. v.written) drains.becomes,
    length-take start old.items,
    ap length drains.tail,
    length-drop end old.items,
  )

  -- what it does of a command of the machine
  abbrev Splicing : (sure : Type 0) → Reply T → Type 0
  Splicing sure reply = (side : Vector T A)
      → Performs size sure old side (Splice start end items hint) reply new side

  pub Spliced-done : {sure : Type 0} → SplicesByAll takes_item (LowerExactly items_lower) size iter
      (cut_off (drain_vec d) (range_len d) (drain_tail d)) new
      → PutsWithin (drain_vec d) (len (drain_vec d) + length (drain_tail d))
      (length (drain_tail d)) new → Splicing sure Done
  Spliced-done s w side =
      let lent = SplicesAll-items (record { items = items.items; hint = hint }) size (drain_vec d)
      (range_len d) (drain_tail d) new (rw all at s) in
      let spliced = SplicesAll-from size (lower_bound_of hint)
      (SameBlock-becomes _ _ _ _ _ drains.becomes) (drain_vec d).items (range_len d)
      (drain_tail d) items.items new lent in
      record {
        replies = (
          (ordered, within),
          (
            of_range (λ h g t. SplicesAll size (lower_bound_of hint)
                (gapped old h g t) items.items new) spliced,
            refl,
          ),
        );
        writes = few w;
      }

  -- the clone of the allocator may fail if it is not infallible
  pub Spliced-failed : (infallible : A → Type 0) (error : TryReserveError)
      (kind : TryReserveErrorKind) → kind ≡ error.kind
      → SplicesByFront takes_item (LowerExactly items_lower) size iter
      (cut_off (drain_vec d) (range_len d) (drain_tail d)) (¬ (infallible (drain_vec d).alloc))
      error new
      → PutsWithin (drain_vec d) (len (drain_vec d) + length (drain_tail d))
      (length (drain_tail d)) new → Splicing (infallible old.alloc) (Refused kind)
  Spliced-failed infallible error kind is s w side =
      let xs : List T = items.items in let fails : A → Type 0 = λ a. ¬ (infallible a) in
      let lent = SpliceFails-items (record { items = xs; hint = hint }) size (drain_vec d)
      (range_len d) (drain_tail d) error new (rw all at s) in
      let spliced = SpliceFails-from size (lower_bound_of hint)
      (SameBlock-becomes _ _ _ _ _ drains.becomes) (drain_vec d).items (range_len d)
      (drain_tail d) xs error new lent in
      let of_old = of_range
      (λ h g t. SpliceFails size (lower_bound_of hint) (gapped old h g t) xs
      (fails (drain_vec d).alloc) ⊤ error new) spliced in
      let short = subst
      (λ a. SpliceFails size (lower_bound_of hint) (without_range old start end) xs
      (fails a) ⊤ error new) (ap (λ v. v.alloc) drains.becomes) of_old in
      failed_by_kind error is (ordered, within)
      (short-full size (lower_bound_of hint) old start end ordered within xs error new short)
      short refl (few w)
