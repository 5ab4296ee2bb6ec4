-- Elements after a gap, for each of which a closure is called with the last one kept.
use Rattle.aa_vec.proofs.Common.{◌≡◌, ℕ, ◌+◌, ◌<◌, ◌≤◌, Bool, true, false, List, [], ◌∷◌, ◌++◌, length, map, drop, Some, refl, sym, ap, ◌∙◌, subst, arith, length-append, drop_at, drop_all, length-map, take-append-drop, HasTail, LeavesInTail, tail_items, MayChainFrom, MayDeduplicate, ChainsAlong, ChainsUntil, CallsOnLast, ChainsOnTail, Vector, len}
use Rattle.aa_vec.proofs.Gaps.{borrowed-is, refilled, LeavesInTail-view, seen, there, within, IsFront-restored}
use Rattle.aa_vec.proofs.Tails.{count, first_are, parts, replaced_are, replaced_tail}

module _ {T : Type 0} where
  -- a list that is not empty has a last element
  pub split_last : (xs : List T) → 0 < length xs → (front : List T) × (last : T)
      × (xs ≡ front ++ last ∷ [])
  split_last [] h = absurd (omega arith)
  split_last (x ∷ []) h = ([], x, refl)
  split_last (x ∷ y ∷ xs) h = let p = split_last (y ∷ xs) (omega arith) in
      (x ∷ p.0, p.1, ap (λ l. x ∷ l) p.2)

-- the closure was called for the `n` elements of `old` after the gap, each with the one before it
pub record ChainsInTail {F T A : Type 0} (Calls : F → T → T → Bool → F → T → T → Type 0) (f : F)
    (old : Vector T A) (gap n k : ℕ) (g : F) (new : Vector T A) : Type 0 where
  pub left : List T
  pub until : ChainsAlong Calls f (tail_items old gap n) k g left
  pub leaves : LeavesInTail old gap n left new

module _ {F T A : Type 0} (Calls : F → T → T → Bool → F → T → T → Type 0) (f : F) (v : Vector T A)
    (gap : ℕ) where
  module _ (n : ℕ) (some : 0 < n) (has_tail : HasTail v gap n) where
    pub first_is : (x : T) → tail_items v gap 1 ≡ x ∷ [] → tail_items v gap n
        ≡ x ∷ drop 1 (tail_items v gap n)
    first_is x e = let xs : List T = tail_items v gap n in
        sym (take-append-drop 1 xs)
        ∙ ap (λ l. l ++ drop 1 xs) (sym (first_are v gap n has_tail 1 (omega arith)) ∙ e)

    -- the closure was called for the first
    module _ (answer : Bool) (g : F) (w : Vector T A) (asked : CallsOnLast Calls f v gap answer g w)
      where
        abbrev others : List T
        others = drop 1 (tail_items v gap n)

        all : tail_items v gap n ≡ asked.next ∷ others
        all = first_is asked.next asked.had.1

        long : length (asked.next_left ∷ others) ≡ n
        long = omega (arith, count v gap n has_tail, ap length all)

        now_behind : drop gap w.spare ≡ map Some (asked.next_left ∷ others)
            ++ drop n (drop gap v.spare)
        now_behind = cc (asked.spare, parts v gap n has_tail, all)

        now_are : tail_items w gap n ≡ asked.next_left ∷ others
        now_are = replaced_are v gap n has_tail w (asked.next_left ∷ others) _
            (omega (arith, ap len asked.becomes, length-append {A = T}, ap length asked.had.0))
            (ap (λ s. s.capacity) asked.becomes) long now_behind

        pub now_tail : HasTail w gap n
        now_tail = replaced_tail v gap n has_tail w (asked.next_left ∷ others) _
            (omega (arith, ap len asked.becomes, length-append {A = T}, ap length asked.had.0))
            (ap (λ s. s.capacity) asked.becomes) long now_behind

        called : (b : Bool) → answer ≡ b
            → Calls f asked.next asked.last b g asked.next_left asked.last_left
        called b e = subst (λ a. Calls f asked.next asked.last a g asked.next_left asked.last_left) e
            asked.called

        still_behind : drop n (drop gap w.spare) ≡ drop n (drop gap v.spare)
        still_behind = ap (drop n) now_behind
            ∙ drop_at (map Some (asked.next_left ∷ others)) (drop n (drop gap v.spare)) n
            (length-map (asked.next_left ∷ others) (λ (x : T). Some x) ∙ long)

        itself : LeavesInTail w gap n (asked.next_left ∷ others) w
        itself = record {
          same = refl;
          below = refl;
          spare = now_behind
              ∙ ap (λ ds. map Some (asked.next_left ∷ others) ++ ds) (sym still_behind);
        }

        -- what follows leaves the others so
        module _ (k : ℕ) (h : F) (u : Vector T A) (left : List T)
            (leaves : LeavesInTail w gap n left u) where
          spare : ChainsUntil Calls f asked.last (asked.next ∷ others) k h (asked.last_left ∷ left)
              → ChainsOnTail Calls f v gap n k h u
          spare until = grind (
            arith,
            still_behind,
            all,
            asked.front,
            asked.last,
            asked.last_left,
            left,
            until,
          )

        -- it is removed
        pub ChainsOnTail-repeat : answer ≡ true → ChainsOnTail Calls f v gap n 0 g w
        ChainsOnTail-repeat e = spare 0 g w (asked.next_left ∷ others) itself
            (asked.next_left, asked.last_left, called true e, refl)

        -- it is kept
        module _ (e : answer ≡ false) where
          pub may_follow : (Takes : F → T → T → Type 0)
              → MayChainFrom Calls Takes f asked.last (tail_items v gap n)
              → MayDeduplicate Calls Takes g (tail_items w gap n)
          may_follow Takes may =
              rw now_are ((rw all at may).2 g asked.next_left asked.last_left (called false e))

          pub ChainsOnTail-more : (k : ℕ) (h : F) (u : Vector T A)
              → ChainsInTail Calls g w gap n k h u → ChainsOnTail Calls f v gap n (1 + k) h u
          ChainsOnTail-more k h u on = grind (arith, now_are, spare, called)

          -- and it was the only one
          pub ChainsOnTail-one : n ≤ 1 → ChainsOnTail Calls f v gap n 1 g w
          ChainsOnTail-one one =
              let no_others : others
              ≡ [] = drop_all 1 (tail_items v gap n) (omega (arith, count v gap n has_tail, one))
              in
              spare 1 g w (asked.next_left ∷ others) itself (
                g,
                asked.next_left,
                asked.last_left,
                asked.next_left ∷ others,
                called false e,
                rw no_others (refl, refl),
                refl,
              )

-- elements borrowed by a call for them
pub ruleset borrowed =
    (borrowed-is, refilled, LeavesInTail-view, seen, there, within, IsFront-restored)
