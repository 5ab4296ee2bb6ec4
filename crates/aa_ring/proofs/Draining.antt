-- Steps of a drain.
use borrow.Rule.Reborrow.{re_v}
use Rattle.std.proofs.Common.{inl, inr, ◌≡◌, ◌≢◌, ℕ, zero, suc, ◌+◌, ◌-◌, ◌<◌, ◌≤◌, List, [], ◌∷◌, ◌++◌, length, take, drop, Option, None, Some, refl, sym, ap, ◌∙◌, subst, arith, append_assoc, length-append, length-drop, length-take}
use Rattle.std.specs.Iterator.{Yields}
use Rattle.std.specs.Iterator.Runs.{YieldsInOrder, YieldsInReverse}
use Rattle.std.specs.Prelude.{min, MatchOption, slice_get, slice_set, slice_range}
use Rattle.std.proofs.iter.runs.Sources.{from_front, from_back, as_is, as_is_back}
use Rattle.std.proofs.lemmas.Bool.Decides.{nat_tests}
use Rattle.std.proofs.lemmas.List.{append-nil, drop_all, drop-append-le, take_all, take-append-le, drop-drop}
use Rattle.aa_ring.specs.Drain.{rotated, turned_on, drain_remaining, drain_ring, DrainKeeps, drains_first, drains_last}
use Rattle.aa_ring.specs.Ringed.{Ringed, with_written}
use Rattle.aa_ring.specs.declared.drain.Drain.{Drain}
use Rattle.aa_ring.proofs.Filling.{written-none, written-twice}
use Rattle.aa_ring.proofs.Searching.{split}

module _ {T A : Type 0} where
  -- nothing else is changed along the calls
  keeps-same : (d : Drain T A) → DrainKeeps d d
  keeps-same d = record { lender = refl; kept = refl; turn = refl; others = sym (written-none (drain_ring d)) }

  keeps-then : (d e f : Drain T A) → DrainKeeps d e → DrainKeeps e f → DrainKeeps d f
  keeps-then d e f h k = record {
    lender = k.lender ∙ h.lender;
    kept = k.kept ∙ h.kept;
    turn = k.turn ∙ h.turn;
    others = k.others ∙ ap (λ r. with_written r (drain_ring f).items 0) h.others ∙ written-twice (drain_ring d) (drain_ring e).items (drain_ring f).items 0 0;
  }

  pub keeps-along : (d : Drain T A) (xs : List T) (later : Drain T A) → Yields drains_first d xs later → DrainKeeps d later
  keeps-along d [] later y = subst (DrainKeeps d) y (keeps-same d)
  keeps-along d (x ∷ xs) later y = keeps-then d y.0 later y.1.0 (keeps-along y.0 xs later y.2)

  -- what calls of `next` return, and calls of `next_back`
  pub runs-in_order : YieldsInOrder (drains_first {T = T} {A = A}) drain_remaining
  runs-in_order p s = as_is p (drain_remaining p.from) (from_front (drains_first {T = T} {A = A}) (λ x. x) drain_remaining (λ d e h. ap length h.1.0) (λ d x e h. h.1) p s)

  pub runs-in_reverse : YieldsInReverse (drains_last {T = T} {A = A}) drain_remaining
  runs-in_reverse p s = as_is_back p (drain_remaining p.from) (from_back (drains_last {T = T} {A = A}) (λ x. x) drain_remaining (λ d e h. ap length h.0) (λ d x e h. h.0) p s)

module _ {X : Type 0} where
  -- the range is first after a rotation, and the others come in order by another one
  pub range-first : (xs : List X) (i j : ℕ) → i ≤ j → j ≤ length xs → take (j - i) (rotated xs i) ≡ slice_range xs i j
  range-first xs i j order within = take-append-le (j - i) (drop i xs) (take i xs) (omega (arith, order, within, length-drop i xs))

  pub others-rotated : (xs : List X) (i j : ℕ) → i ≤ j → j ≤ length xs → rotated (drop (j - i) (rotated xs i)) (length xs - j) ≡ take i xs ++ drop j xs
  others-rotated xs i j order within =
      let n : ℕ = length xs - j in let front : List X = take i xs in let back : List X = drop j xs in
      let rest : drop (j - i) (rotated xs i) ≡ back ++ front =
      drop-append-le (j - i) (drop i xs) front (omega (arith, order, within, length-drop i xs)) ∙ ap (λ ys. ys ++ front) (drop-drop (j - i) i xs ∙ ap (λ k. drop k xs) (omega (arith, order))) in
      let long : n ≡ length back = sym (length-drop j xs) in
      ap (λ ys. rotated ys n) rest
      ∙ (λ t. drop (long t) (back ++ front) ++ take (long t) (back ++ front))
      ∙ ap (λ ys. ys ++ take (length back) (back ++ front)) (drop-append-le (length back) back front (omega arith) ∙ ap (λ ys. ys ++ front) (drop_all (length back) back (omega arith)))
      ∙ ap (λ ys. front ++ ys) (take-append-le (length back) back front (omega arith) ∙ take_all (length back) back (omega arith))

  -- the first item is taken
  pub first-taken : (xs ys : List X) (x : X) (k : ℕ) → 0 < k → xs ≡ x ∷ ys → take k xs ≡ x ∷ take (k - 1) ys
  first-taken xs ys x zero some e = absurd (omega (arith, some))
  first-taken xs ys x (suc k) some e = let z : suc k - 1 ≡ k = omega arith in ap (take (suc k)) e ∙ sym (ap (λ m. x ∷ take m ys) z)

  pub others-left : (xs ys : List X) (x : X) (k : ℕ) → 0 < k → xs ≡ x ∷ ys → drop (k - 1) ys ≡ drop k xs
  others-left xs ys x zero some e = absurd (omega (arith, some))
  others-left xs ys x (suc k) some e = let z : suc k - 1 ≡ k = omega arith in ap (λ m. drop m ys) z ∙ sym (ap (drop (suc k)) e)

  -- the last item is taken, where no other is kept
  pub last-taken : (xs ys : List X) (x : X) (k : ℕ) → xs ≡ ys ++ x ∷ [] → length xs ≤ k → take k xs ≡ take (k - 1) ys ++ x ∷ []
  last-taken xs ys x k e few =
      let n : length ys ≤ k - 1 = omega (arith, few, ap length e, length-append ys (x ∷ [])) in
      take_all k xs few ∙ e ∙ sym (ap (λ zs. zs ++ x ∷ []) (take_all (k - 1) ys n))

  take-before : (ys : List X) (i : ℕ) (z : X) → take i (slice_set ys i z) ≡ take i ys
  take-before [] zero z = refl
  take-before [] (suc i) z = refl
  take-before (y ∷ ys) zero z = refl
  take-before (y ∷ ys) (suc i) z = ap (λ zs. y ∷ zs) (take-before ys i z)

  drop-from : (ys : List X) (i : ℕ) (z : X) → i < length ys → drop i (slice_set ys i z) ≡ z ∷ drop (suc i) ys
  drop-from [] i z few = absurd (omega (arith, few))
  drop-from (y ∷ ys) zero z few = refl
  drop-from (y ∷ ys) (suc i) z few = drop-from ys i z (omega (arith, few))

  take-at : (ys : List X) (i : ℕ) (x : X) → slice_get ys i ≡ Some x → take (suc i) ys ≡ take i ys ++ x ∷ []
  take-at [] i x e = cc
  take-at (y ∷ ys) zero x e = cc
  take-at (y ∷ ys) (suc i) x e = ap (λ zs. y ∷ zs) (take-at ys i x e)

  -- or the last of all takes its place
  pub last-exchanged : (xs ys : List X) (x z : X) (k : ℕ) → 0 < k → k < length xs → xs ≡ ys ++ z ∷ [] → slice_get ys (k - 1) ≡ Some x → take k xs ≡ take (k - 1) (slice_set ys (k - 1) z) ++ x ∷ []
  last-exchanged xs ys x z k some few e at =
      let next : k ≡ suc (k - 1) = omega (arith, some) in
      ap (take k) e ∙ take-append-le k ys (z ∷ []) (omega (arith, few, ap length e, length-append ys (z ∷ []))) ∙ ap (λ m. take m ys) next ∙ take-at ys (k - 1) x at
      ∙ sym (ap (λ zs. zs ++ x ∷ []) (take-before ys (k - 1) z))

  turned-back : (zs : List X) (z : X) (t : ℕ) → rotated (z ∷ zs) (turned_on (length zs + 1) t) ≡ rotated (zs ++ z ∷ []) t
  turned-back zs z t =
      let whole : List X = zs ++ z ∷ [] in let long : length whole ≡ length zs + 1 = length-append zs (z ∷ []) in
      elim (split t (length zs + 1)) [
        | inl few ↦
            let on : turned_on (length zs + 1) t ≡ suc t = grind (arith, nat_tests, few) in
            ap (rotated (z ∷ zs)) on ∙ sym (append_assoc (drop t zs) (z ∷ []) (take t zs))
            ∙ sym (λ i. drop-append-le t zs (z ∷ []) (omega (arith, few)) i ++ take-append-le t zs (z ∷ []) (omega (arith, few)) i)
        | inr past ↦
            let on : turned_on (length zs + 1) t ≡ suc 0 = grind (arith, nat_tests, past) in
            ap (rotated (z ∷ zs)) on ∙ sym (λ i. drop_all t whole (omega (arith, past, long)) i ++ take_all t whole (omega (arith, past, long)) i)
      ]

  pub kept-turned : (xs ys : List X) (z : X) (k n t : ℕ) → 0 < k → k < length xs → n ≡ length xs - k → xs ≡ ys ++ z ∷ [] → rotated (drop (k - 1) (slice_set ys (k - 1) z)) (turned_on n t) ≡ rotated (drop k xs) t
  kept-turned xs ys z k n t some few count e =
      let size : length xs ≡ length ys + 1 = ap length e ∙ length-append ys (z ∷ []) in
      let next : suc (k - 1) ≡ k = omega (arith, some) in let zs : List X = drop k ys in
      let moved : drop (k - 1) (slice_set ys (k - 1) z) ≡ z ∷ zs = drop-from ys (k - 1) z (omega (arith, few, size, some)) ∙ ap (λ m. z ∷ drop m ys) next in
      let many : n ≡ length zs + 1 = omega (arith, count, size, few, length-drop k ys) in
      let before : drop k xs ≡ zs ++ z ∷ [] = ap (drop k) e ∙ drop-append-le k ys (z ∷ []) (omega (arith, few, size)) in
      (λ i. rotated (moved i) (turned_on (many i) t)) ∙ turned-back zs z t ∙ sym (ap (λ ys. rotated ys t) before)

  pub count-kept : (xs : List X) (k t : ℕ) → length (rotated (drop k xs) t) ≡ length xs - k
  count-kept xs k t = length-rotated (drop k xs) t ∙ length-drop k xs
    where
      length-rotated : (zs : List X) (t : ℕ) → length (rotated zs t) ≡ length zs
      length-rotated zs t = omega (arith, length-append (drop t zs) (take t zs), length-drop t zs, length-take t zs)

  -- a rotation by no more than there are
  pub rotated-least : (xs : List X) (t by : ℕ) → by ≡ min t (length xs) → rotated xs by ≡ rotated xs t
  rotated-least xs t by e =
      elim (split t (length xs)) [
        | inl few ↦ ap (rotated xs) (omega (arith, few, e))
        | inr past ↦
            let all : by ≡ length xs = omega (arith, past, e) in
            (λ i. drop_all by xs (omega (arith, all)) i ++ take_all by xs (omega (arith, all)) i) ∙ sym (λ i. drop_all t xs past i ++ take_all t xs past i)
      ]

-- and moves as many
least-moved : (t n by : ℕ) → by ≡ min t n → min by (n - by) ≡ min t (n - t)
least-moved t n by e = omega (arith, e)

module _ {T A : Type 0} where
  -- the ring of a drain that has ended: what was not taken is dropped, and the others are rotated
  pub closed : (old mid new : Ringed T A) (removed t n by : ℕ) → mid ≡ with_written old (drop removed old.items) 0 → n ≡ length mid.items → by ≡ min t n
      → new ≡ with_written mid (rotated mid.items by) (min by (length mid.items - by))
      → new ≡ with_written old (rotated (drop removed old.items) t) (min t (length (drop removed old.items) - t))
  closed old mid new removed t n by left count least turned =
      let rest : List T = drop removed old.items in let m : ℕ = length rest in
      let by-is : by ≡ min t m = least ∙ ap (min t) (count ∙ ap (λ r. length r.items) left) in
      turned ∙ ap (λ r. with_written r (rotated r.items by) (min by (length r.items - by))) left
      ∙ written-twice old rest (rotated rest by) 0 (min by (m - by))
      ∙ (λ i. with_written old (rotated-least rest t by by-is i) (omega-sum (min by (m - by)) (min t (m - t)) (least-moved t m by by-is) i))
    where
      omega-sum : (a b : ℕ) → a ≡ b → 0 + a ≡ b
      omega-sum a b e = omega (arith, e)

  -- a drain after `next` took the first item of its ring
  pub steps-first : (s : Drain T A) (r : Option T) (y : Ringed T A) → s.left ≢ 0
      → MatchOption r ((s.ring.now.items ≡ []) × (y.items ≡ [])) (λ x. s.ring.now.items ≡ x ∷ y.items) → y ≡ with_written s.ring.now y.items 0
      → drains_first s r (record { ring = re_v y s.ring; left = s.left - 1; turn = s.turn })
  steps-first s None y some taken kept =
      let before : (k : ℕ) → drop k s.ring.now.items ≡ [] = λ k. drop_all k s.ring.now.items (omega (arith, ap length taken.0)) in
      let after : (k : ℕ) → drop k y.items ≡ [] = λ k. drop_all k y.items (omega (arith, ap length taken.1)) in (
        record { lender = refl; kept = ap (λ zs. rotated zs s.turn) (after (s.left - 1) ∙ sym (before s.left)); turn = refl; others = kept },
        (take_all s.left s.ring.now.items (omega (arith, ap length taken.0)) ∙ taken.0, take_all (s.left - 1) y.items (omega (arith, ap length taken.1)) ∙ taken.1),
      )
  steps-first s (Some x) y some taken kept =
      let left : 0 < s.left = omega (arith, some) in (
        record { lender = refl; kept = ap (λ zs. rotated zs s.turn) (others-left s.ring.now.items y.items x s.left left taken); turn = refl; others = kept },
        first-taken s.ring.now.items y.items x s.left left taken,
      )

  -- a drain after `next_back` exchanged the last item of its range for the last of the ring
  pub steps-last : (s : Drain T A) (y w : Ringed T A) (x z : T) (n t : ℕ) → s.left ≢ 0 → n ≡ length s.ring.now.items - s.left → n ≢ 0
      → s.ring.now.items ≡ y.items ++ z ∷ [] → y ≡ with_written s.ring.now y.items 0 → t ≡ turned_on n s.turn
      → slice_get y.items (s.left - 1) ≡ Some x → w ≡ with_written y (slice_set y.items (s.left - 1) z) 1
      → drains_last s (Some x) (record { ring = re_v w (re_v y s.ring); left = s.left - 1; turn = t })
  steps-last s y w x z n t some count any last popped turn at put =
      let xs : List T = s.ring.now.items in let k : ℕ = s.left in
      let left : 0 < k = omega (arith, some) in let few : k < length xs = omega (arith, count, any) in
      let items : w.items ≡ slice_set y.items (k - 1) z = ap (λ r. r.items) put in (
        last-exchanged xs y.items x z k left few last at ∙ sym (ap (λ zs. take (k - 1) zs ++ x ∷ []) items),
        λ none. absurd (omega (arith, ap length none, count-kept xs k s.turn, few)),
        λ kept. record {
          lender = refl;
          kept = (λ i. rotated (drop (k - 1) (items i)) (turn i)) ∙ kept-turned xs y.items z k n s.turn left few count last;
          turn = turn ∙ ap (λ m. turned_on m s.turn) (count ∙ sym (count-kept xs k s.turn));
          others = put ∙ ap (λ r. with_written r (slice_set y.items (k - 1) z) 1) popped ∙ written-twice s.ring.now y.items (slice_set y.items (k - 1) z) 0 1 ∙ ap (λ zs. with_written s.ring.now zs 1) (sym items);
        },
      )

pub ruleset drains = (keeps-along, runs-in_order, runs-in_reverse, range-first, others-rotated)

pub ruleset taken = (nat_tests, first-taken, others-left, last-taken, last-exchanged, kept-turned, count-kept, drop_all)
