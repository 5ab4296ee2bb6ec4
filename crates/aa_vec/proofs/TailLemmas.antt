-- Elements of the tail of a vector that are dropped, taken from either end, or moved down after
-- others.
use Rattle.aa_vec.proofs.Common.{Becomes, ClosesGap, ClosesTwoGaps, DropsTail, HasTail, IsRun, IsRun-part, List, None, Option, ShiftsDown, Vector, add_assoc, ap, append_assoc, arith, drop, drop-drop, drop_at, len, length-append, length-replicate, length-run, moved_over, refl, replicate, run, run-drop, run_count, subst, sym, tail_items, with_spare, ℕ, ◌++◌, ◌+◌, ◌-◌, ◌∙◌, ◌≡◌, ◌≤◌}
use Rattle.aa_vec.proofs.Gaps.{further, run-of_drop, IsRun-to_drop}

module _ {T A : Type 0} where
  -- elements in the places where others were, as many places above the items
  pub still_tail : (v w : Vector T A) (end later n : ℕ) → HasTail v end n → len w + later + n
      ≤ w.capacity → drop later w.spare ≡ drop end v.spare → HasTail w later n
  still_tail v w end later n has_tail room e =
      let P : List (Option T) → Type 0 = λ ds. IsRun ds 0 n in (room, subst P (sym e) has_tail.1)

  pub still_are : (v w : Vector T A) (end later n : ℕ) → drop later w.spare ≡ drop end v.spare
      → tail_items w later n ≡ tail_items v end n
  still_are v w end later n e = ap (λ ds. run ds 0 n) e

  -- some of the elements after a gap
  module _ (v : Vector T A) (gap n : ℕ) (has_tail : HasTail v gap n) (at k : ℕ) (low : gap ≤ at)
      (high : at + k ≤ gap + n) where
    deeper : drop at v.spare ≡ drop (at - gap) (drop gap v.spare)
    deeper = grind (arith, drop-drop)

    pub part_tail : HasTail v at k
    part_tail = (
      omega (arith, has_tail.0),
      rw deeper (IsRun-to_drop (drop gap v.spare) (at - gap) k
          (IsRun-part (drop gap v.spare) 0 n (at - gap) k (omega arith) (omega arith) has_tail.1)),
    )

    pub part_are : tail_items v at k ≡ run (drop gap v.spare) (at - gap) k
    part_are = ap (λ ds. run ds 0 k) deeper ∙ run-of_drop (drop gap v.spare) (at - gap) k

  -- the elements after the first n
  pub later_part : (v : Vector T A) (gap n m k : ℕ) → n + k ≡ m → HasTail v gap m
      → tail_items v (gap + n) k ≡ drop n (tail_items v gap m)
  later_part v gap n m k e has_tail =
      part_are v gap m has_tail (gap + n) k (omega arith) (omega (arith, e))
      ∙ ap (λ i. run (drop gap v.spare) i k) (omega arith)
      ∙ sym (run-drop (drop gap v.spare) 0 n n m k (omega arith) e has_tail.1)

  -- the places above a run that was dropped, and above one that was moved down
  pub above_dropped : (v w : Vector T A) (gap n end : ℕ) → gap + n ≤ end → DropsTail v gap n w
      → drop end w.spare ≡ drop end v.spare
  above_dropped v w gap n end h dropped =
      further w.spare v.spare (gap + n) (gap + n) end end h refl
      (sym (drop-drop n gap w.spare) ∙ ap (drop n) dropped.spare
      ∙ drop_at (replicate n None) (drop n (drop gap v.spare)) n (length-replicate n None)
      ∙ drop-drop n gap v.spare)

  pub above_lowered : (v w : Vector T A) (gap n end : ℕ) → gap + n ≤ end → ClosesGap v gap n w
      → drop (end - n) w.spare ≡ drop end v.spare
  above_lowered v w gap n end h first = further w.spare v.spare gap (gap + n) (end - n) end
      (omega (arith, h)) (omega (arith, h)) (first.spare ∙ drop-drop n gap v.spare)

  module _ (v w z : Vector T A) (gap n end m : ℕ) (h : gap + n ≤ end)
      (dropped : DropsTail v gap n w) where
    pub dropped_tail : HasTail v end m → HasTail w end m
    dropped_tail has_tail =
        still_tail v w end end m has_tail
        (omega (arith, has_tail.0, ap len dropped.same, ap (λ u. u.capacity) dropped.same))
        (above_dropped v w gap n end h dropped)

    pub dropped_are : tail_items w end m ≡ tail_items v end m
    dropped_are = still_are v w end end m (above_dropped v w gap n end h dropped)

    -- and a later run is moved down
    pub ShiftsDown-dropped : ClosesGap w end m z → ShiftsDown v end m z
    ShiftsDown-dropped closes = rw (← dropped_are) (rw dropped.same at closes.becomes)

  pub ClosesTwoGaps-lowered : (v w z : Vector T A) (gap n end m : ℕ) → gap + n ≤ end
      → ClosesGap v gap n w → ClosesGap w (end - n) m z → ClosesTwoGaps v gap n end m z
  ClosesTwoGaps-lowered v w z gap n end m h first second =
      rw (
        ← append_assoc v.items (tail_items v gap n) (tail_items v end m),
        ← still_are v w end (end - n) m (above_lowered v w gap n end h first),
        ← add_assoc v.written,
        ← add_assoc v.runs,
      )
      (rw first.becomes at second.becomes)

-- a run dropped or moved down, and a later one moved down
pub ruleset closing = (
  above_dropped,
  above_lowered,
  ShiftsDown-dropped,
  ClosesTwoGaps-lowered,
  length-run,
  length-append,
)
