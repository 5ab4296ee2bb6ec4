-- Turns of a loop in which a closure is called for elements after a gap, and the kept ones are
-- moved down. `Ends` says of all untested elements, where these items are kept so far: the results,
-- which are true where an element is kept, and then the closure's state and all the items. `May` is
-- that the closure may be called for them.
use Rattle.aa_vec.proofs.Common.{None, drop-set-lt, ◌≡◌, ℕ, ◌+◌, ◌-◌, ◌<◌, ◌≤◌, Bool, List, [], ◌∷◌, ◌++◌, length, length-drop, take, drop, sym, ap, ◌∙◌, subst, arith, inl, inr, min, drop_all, length-take-le, run-zero, HasTail, SetsTail, ClosesGap, tail_items, with_spare, kept_after_removed, TakesNext, Vector, len, Becomes, SameBlock, below_or_not}
use Rattle.aa_vec.proofs.Becoming.{Becomes-holds, SameBlock-becomes}
use Rattle.aa_vec.proofs.GrowthLemmas.{SameBlock-trans}
use Rattle.aa_vec.proofs.Closed.{still, still-none, few_runs, no_run, removed_count, marks, marks-are, marks-written}
use Rattle.aa_vec.proofs.Tails.{count, moved_items, moved_len, others_are, others_tail}
use Rattle.aa_vec.proofs.TailLemmas.{later_part, part_tail, still_are, still_tail}

drop-few : {T : Type 0} (xs : List T) (j : ℕ) → j ≡ min (length xs) 1 → drop j xs ≡ drop 1 xs
drop-few [] j e = drop_all j [] (omega arith)
drop-few (x ∷ xs) j e = ap (λ i. drop i (x ∷ xs)) {x = j} {y = 1} (omega (arith, e))

module _ {F T A : Type 0} (Ends : F → (items yet : List T) → List Bool → F → List T → Type 0)
    (May : F → (items yet : List T) → Type 0) where
  -- the closure was called for the first k of the n elements after the gap, which are kept, and the
  -- next, if there is one, is removed. `left` are all, as they were left
  pub record Turn (h : F) (v : Vector T A) (gap n k : ℕ) (g : F) (w : Vector T A)
      (left : List T) : Type 0 where
    pub within : k ≤ n
    pub has_tail : HasTail w gap n
    pub are : tail_items w gap n ≡ left
    pub long : len w ≡ len v
    pub becomes : (now : List T) × Becomes v now 0 0 w
    pub may : May h v.items (tail_items v gap n)
        → May g (w.items ++ take k left) (drop 1 (drop k left))
    pub ends : (results : List Bool) (t : F) (ys : List T)
        → Ends g (w.items ++ take k left) (drop 1 (drop k left)) results t ys
        → Ends h v.items (tail_items v gap n) (marks k n results) t ys

  module _ (f : F) (first yet : List T) (old : Vector T A) where
    -- the items of v are kept, after `gap` others were removed; `left` elements after the gap are
    -- untested, from the closure's state h on
    pub record On (h : F) (v : Vector T A) (gap left : ℕ) : Type 0 where
      pub has_tail : HasTail v gap left
      pub may : May h v.items (tail_items v gap left)
      pub ends : (results : List Bool) (g : F) (ys : List T)
          → Ends h v.items (tail_items v gap left) results g ys
          → (every : List Bool) × Ends f first yet every g ys
          × (old.written + kept_after_removed every ≡ v.written + still gap results)
          × (removed_count every ≡ gap + removed_count results)
      pub block : SameBlock old v
      pub runs : (old.runs ≤ v.runs) × (v.runs ≤ old.runs + (gap - min left 1))

    -- the untested elements are those in the places from `at` up to `end`
    pub record Stage (h : F) (v : Vector T A) (at end : ℕ) : Type 0 where
      pub here : len v ≤ at
      pub within : at ≤ end
      pub on : On h v (at - len v) (end - at)

    -- k more are kept of the elements in the places from `at` up to `end`, which are after the gap
    -- in w: what may come next, and what has then come
    abbrev pub Turned : (at end n k : ℕ) → F → (w : Vector T A) → Type 0
    Turned at end n k g w =
        (at + k ≤ end) × (n ≡ len w) × HasTail w (at - len w) (end - at)
        × ((z : Vector T A) (next : ℕ) → TakesNext w (at - len w) at end k z next
        → Stage g z next end × (at < end → at < next) × (next < end → len z < next))

    module _ (h : F) (v : Vector T A) (gap n : ℕ) (now : On h v gap n) (k : ℕ) (g : F)
        (w : Vector T A) (left : List T) (t : Turn h v gap n k g w left) where
      more : (u z : Vector T A) (i m : ℕ) → ClosesGap w gap k u → z ≡ with_spare u z.spare
          → HasTail z i m → tail_items z i m ≡ drop 1 (drop k left) → i ≡ gap + min (n - k) 1 → m
          ≡ n - (k + 1) → On g z i m
      more u z i m closes same has_tail are e l =
          grind (
            arith,
            moved_items,
            marks-written,
            marks-are,
            SameBlock-trans,
            SameBlock-becomes,
            few_runs,
            no_run,
          )

    -- a turn from there on, where n items are kept so far
    module _ {h : F} {v : Vector T A} {at end : ℕ} (s : Stage h v at end) {n : ℕ}
        (many : n ≡ len v) where
      pub stage-on : On h v (at - n) (end - at)
      stage-on = subst (λ i. On h v (at - i) (end - at)) (sym many) s.on

      module _ {k : ℕ} {g : F} {w : Vector T A} {left : List T}
          (turn : HasTail v (at - n) (end - at) → Turn h v (at - n) (end - at) k g w left) where
        t : Turn h v (at - n) (end - at) k g w left
        t = turn stage-on.has_tail

        turn-within : at + k ≤ end
        turn-within = omega (arith, t.within, s.within)

        module _ (z : Vector T A) (next : ℕ) (p : TakesNext w (at - n) at end k z next) where
          long : len p.closed ≡ len v + k
          long = moved_len w (at - n) (end - at) t.has_tail k t.within p.closed p.closes
              ∙ ap (λ l. l + k) t.long

          -- the next, if there is one, is taken out
          spare : (j : ℕ) → j ≡ min (end - at - k) 1 → next ≡ at + k + j → z
              ≡ with_spare p.closed z.spare → drop (at - n + j) z.spare
              ≡ drop (at - n + j) p.closed.spare → Stage g z next end
          spare j one is same above =
              let grown : len z ≡ len v + k = ap len same ∙ long in
              let i : next - len z ≡ at - n + j = omega (arith, is, grown, many, s.here) in
              let m : end - next ≡ end - at - k - j = omega (arith, is) in
              let rest = others_tail w (at - n) (end - at) t.has_tail k t.within p.closed p.closes
              in
              let there = part_tail p.closed (at - n) (end - at - k) rest (at - n + j)
              (end - at - k - j) (omega arith) (omega (arith, one)) in
              let left_of : length (drop k left) ≡ end - at - k =
              omega (
                arith,
                length-drop k left,
                ap length t.are,
                count w (at - n) (end - at) t.has_tail,
              ) in
              record {
                here = omega (arith, is, grown, s.here);
                within = omega (arith, is, one, turn-within);
                on = more h v (at - n) (end - at) stage-on k g w left t p.closed z _ _ p.closes same
                    (rw (i, m) (still_tail p.closed z (at - n + j) (at - n + j)
                    (end - at - k - j) there
                    (omega (arith, there.0, ap len same, ap (λ u. u.capacity) same)) above))
                    (rw (i, m) (still_are p.closed z (at - n + j) (at - n + j)
                    (end - at - k - j) above
                    ∙ later_part p.closed (at - n) j (end - at - k) (end - at - k - j)
                    (omega (arith, one)) rest
                    ∙ ap (drop j) (others_are w (at - n) (end - at) t.has_tail k t.within p.closed
                    p.closes ∙ ap (drop k) t.are)
                    ∙ drop-few (drop k left) j (omega (arith, one, left_of))))
                    (omega (arith, i, one)) (omega (arith, m, one));
              }

        -- the next place is after it, and where some remain, one was removed
        pub turned : Turned at end n k g w
        turned = let e : n ≡ len w = many ∙ sym t.long in (
          turn-within,
          e,
          subst (λ i. HasTail w (at - i) (end - at)) e t.has_tail,
          λ z next q. let p = subst (λ i. TakesNext w (at - i) at end k z next) (sym e) q in
              elim (below_or_not (at + k) end) [
                | inl less ↦ let q = p.removed less in (
                  spare z next p 1 (omega (arith, less)) q.1
                      (q.0 ∙ ap (with_spare p.closed) (sym (ap (λ s. s.spare) q.0)))
                      (ap (λ u. drop (at - n + 1) u.spare) q.0
                      ∙ drop-set-lt (at - n + 1) p.closed.spare (at - n) None (omega arith)),
                  λ some. omega (arith, q.1),
                  λ more. omega (arith, q.1, ap len q.0, long z next p, many, s.here),
                )
                | inr all ↦ let e : at + k ≡ end = omega (arith, all, turn-within) in
                    let q = p.none e in (
                      spare z next p 0 (omega (arith, e)) (omega (arith, q.1, e))
                          (q.0 ∙ ap (with_spare p.closed) (sym (ap (λ s. s.spare) q.0)))
                          (ap (λ u. drop (at - n + 0) u.spare) q.0),
                      λ some. omega (arith, q.1, some),
                      λ more. omega (arith, q.1, more),
                    )
              ],
        )

    -- the closure was called for all
    pub stage-ended : (g : F) (z : Vector T A) (at end : ℕ) → Stage g z at end → at ≡ end
        → ((yet : List T) → yet ≡ [] → May g z.items yet → Ends g z.items yet [] g z.items)
        → (every : List Bool) × Ends f first yet every g z.items × (runs : ℕ)
        × (runs ≤ removed_count every) × Becomes old z.items (kept_after_removed every) runs z
    stage-ended g z at end s e nil =
        let none : tail_items z (at - len z) (end - at)
        ≡ [] = ap (tail_items z (at - len z)) {x = end - at} {y = 0} (omega (arith, e))
        ∙ run-zero (drop (at - len z) z.spare) 0 in
        let q = s.on.ends [] g z.items (nil _ none s.on.may) in (
          q.0,
          q.1,
          z.runs - old.runs,
          omega (arith, q.3, s.on.runs),
          grind (arith, still-none, Becomes-holds, q, s.on),
        )

module _ {F T A : Type 0} (Ends : F → (items yet : List T) → List Bool → F → List T → Type 0)
    (May : F → (items yet : List T) → Type 0) {old v : Vector T A} {at end : ℕ}
    (set : SetsTail old at v) (within : at ≤ end) (all : end ≡ len old) where
  pub start-len : at ≡ len v
  start-len = sym (ap len set.becomes ∙ length-take-le at old.items (omega (arith, within, all)))

  -- it was called for none yet
  pub stage-start : {f : F} → May f (take at old.items) (drop at old.items)
      → Stage Ends May f (take at old.items) (drop at old.items) old f v at end
  stage-start {f} may = grind (arith, start-len, SameBlock-becomes)
