-- The tail of a vector, after each of the calls that work on it.
use Rattle.aa_vec.proofs.Common.{◌≡◌, ℕ, ◌+◌, ◌-◌, ◌<◌, ◌≤◌, List, ◌++◌, length, map, take, drop, Option, Some, None, refl, subst, sym, ap, ◌∙◌, arith, length-append, slice_set, append-nil, drop-drop, length-map, take_at, take-append-drop, length-run, run-is, run-take, run-filled, run-zero, IsRun-long, HasTail, ClosesGap, tail_items, with_spare, Vector, len, moved_over, TakesNext}
use Rattle.aa_vec.proofs.Becoming.{Becomes-refl}
use Rattle.aa_vec.proofs.TailLemmas.{still_tail, still_are, part_tail, later_part}

module _ {T A : Type 0} (v : Vector T A) (gap n : ℕ) (has_tail : HasTail v gap n) where
  abbrev pub elements : List T
  elements = tail_items v gap n

  pub count : length elements ≡ n
  count = length-run (drop gap v.spare) 0 n has_tail.1

  -- the first of them
  pub first_tail : (k : ℕ) → k ≤ n → HasTail v gap k
  first_tail k h = part_tail v gap n has_tail gap k (omega arith) (omega (arith, h))

  pub first_are : (k : ℕ) → k ≤ n → tail_items v gap k ≡ take k elements
  first_are k h = sym (run-take (drop gap v.spare) 0 k n h has_tail.1)

  -- they, and what is after them
  pub parts : drop gap v.spare ≡ map Some elements ++ drop n (drop gap v.spare)
  parts = sym (take-append-drop n (drop gap v.spare))
      ∙ ap (λ ds. ds ++ drop n (drop gap v.spare)) (run-filled (drop gap v.spare) 0 n has_tail.1)

  -- others in their places
  module _ (w : Vector T A) (left : List T) (rest : List (Option T)) (same_len : len w ≡ len v)
      (same_capacity : w.capacity ≡ v.capacity) (long : length left ≡ n)
      (are : drop gap w.spare ≡ map Some left ++ rest) where
    pub replaced_are : tail_items w gap n ≡ left
    replaced_are = run-is (drop gap w.spare) 0 n left
        (ap (take n) are
        ∙ take_at (map Some left) rest n (length-map left (λ (x : T). Some x) ∙ long))

    pub replaced_tail : HasTail w gap n
    replaced_tail = (
      omega (arith, has_tail.0, same_len, same_capacity),
      IsRun-long (drop gap w.spare) 0 n (ap length replaced_are ∙ long)
          (omega (
            arith,
            ap length are,
            length-append (map Some left) rest,
            length-map left (λ (x : T). Some x),
            long,
          )),
    )

  -- the gap was closed by the first k of them
  module _ (k : ℕ) (h : k ≤ n) (w : Vector T A) (closes : ClosesGap v gap k w) where
    pub moved_len : len w ≡ len v + k
    moved_len = grind (
      arith,
      ap (λ u. u.items) closes.becomes,
      length-append,
      length-run (drop gap v.spare) 0 k
          (first_tail k h).1,
    )

    pub moved_items : w.items ≡ v.items ++ take k elements
    moved_items = ap (λ u. u.items) closes.becomes ∙ ap (λ l. v.items ++ l) (first_are k h)

    others : drop gap w.spare ≡ drop (gap + k) v.spare
    others = closes.spare ∙ drop-drop k gap v.spare

    pub others_are : tail_items w gap (n - k) ≡ drop k elements
    others_are = still_are v w (gap + k) gap (n - k) others
        ∙ later_part v gap k n (n - k) (omega (arith, h)) has_tail

    pub others_tail : HasTail w gap (n - k)
    others_tail = still_tail v w (gap + k) gap (n - k)
        (part_tail v gap n has_tail (gap + k) (n - k) (omega arith) (omega (arith, h)))
        (omega (arith, has_tail.0, h, moved_len, ap (λ u. u.capacity) closes.becomes)) others

-- a gap is closed by none
module _ {T A : Type 0} where
  pub closes_none : (v : Vector T A) (gap : ℕ) → ClosesGap v gap 0 v
  closes_none v gap =
      let none : moved_over gap 0 ≡ 0 = grind arith in
      record {
        becomes = rw (none, run-zero (drop gap v.spare) 0, append-nil v.items)
            (Becomes-refl v);
        spare = refl;
        few = omega arith;
      }

-- of the elements after a gap the first k were moved down
module _ {T A : Type 0} {v closed : Vector T A} {gap k : ℕ} (closes : ClosesGap v gap k closed)
  where
    -- the next can be taken out, if there is one
    pub others_first : (n : ℕ) → HasTail v gap n → k < n → HasTail closed gap 1
    others_first n has_tail less =
        first_tail closed gap (n - k)
        (others_tail v gap n has_tail k (omega (arith, less)) closed closes) 1 (omega (arith, less))

    pub takes_next : {new : Vector T A} {at end kept next : ℕ} → kept ≡ k → new
        ≡ with_spare closed (slice_set closed.spare gap None) → at + k < end → next ≡ at + k + 1
        → TakesNext v gap at end kept new next
    takes_next e taken more is = record {
      closed = closed;
      closes = subst (λ i. ClosesGap v gap i closed) (sym e) closes;
      removed = λ h. (taken, omega (arith, is, e));
      none = λ all. absurd (omega (arith, all, e, more));
    }

    pub takes_none : {at end kept : ℕ} → kept ≡ k → end ≤ at + k
        → TakesNext v gap at end kept closed end
    takes_none e all =
        record {
          closed = closed;
          closes = subst (λ i. ClosesGap v gap i closed) (sym e) closes;
          removed = λ h. absurd (omega (arith, h, e, all));
          none = λ h. (refl, refl);
        }
