-- Lists before and after a full one, in the terms of the functions that move items.
use Rattle.std.proofs.Common.{◌≡◌, ◌⊎◌, ◌+◌, ◌-◌, ◌*◌, ◌/◌, ◌≤◌, ◌<◌, ◌++◌, ℕ, suc, zero, List, [], ◌∷◌, inl, inr, arith, length, take, drop, get_or, max, sym, ap, subst, ◌∙◌}
use Rattle.std.specs.Prelude.{slice_set}
use Rattle.std.proofs.lemmas.Bool.Decides.{nat_tests}
use Rattle.std.proofs.lemmas.Bool.{cases_lt}
use Rattle.std.proofs.lemmas.List.{drop_all, length-map}
use Rattle.aa_ordered.specs.Balance.{first, joined, last, lengths, position, HasRoom, IsBalanced}
use Rattle.aa_ordered.specs.Capacity.{capacity_of, leaves_for}
use Rattle.aa_ordered.specs.Leaves.{replaced, room_for, LeavesView}
use Rattle.aa_ordered.proofs.Balance.{first-drop, last-some, last-take, balanced-left}
use Rattle.aa_ordered.proofs.Flat.{lengths-one}
use Rattle.aa_ordered.proofs.Mending.{back-balanced, back-place, back-same, back-within}
use Rattle.aa_ordered.proofs.Moving.{back-first, back-second, some-after}

-- the index of a list that has one before it
module _ {T : Type 0} (ls : List (List T)) (j : ℕ) (h : j < length ls) where
  pub positive : last (take j (lengths ls)) < 64 → 0 < j
  positive l = from j l
    where
      from : (i : ℕ) → last (take i (lengths ls)) < 64 → 0 < i
      from zero l = absurd (omega (arith, l))
      from (suc i) l = omega arith

  up : 0 < j → j - 1 + 1 ≡ j
  up p = omega (arith, p)

  up-two : 0 < j → j - 1 + 2 ≡ j + 1
  up-two p = omega (arith, p)

  pub mended-few : last (take j (lengths ls)) + length (get_or ls j []) < 64 → length (get_or ls (j - 1) []) + length (get_or ls (j - 1 + 1) []) ≤ 64
  mended-few l = let p = positive (omega (arith, l)) in rw (up p) (omega (arith, l, last-take ls j p h))

  module _ (p : 0 < j) (at : ℕ) (w : at ≤ length (get_or ls j [])) where
    next : j - 1 + 1 < length ls
    next = rw (up p) h

    w' : at ≤ length (get_or ls (j - 1 + 1) [])
    w' = rw (up p) w

    pub mended-within : last (take j (lengths ls)) + at ≤ length (get_or (replaced ls (j - 1) 2 ((get_or ls (j - 1) [] ++ get_or ls (j - 1 + 1) []) ∷ [])) (j - 1) [])
    mended-within = rw (last-take ls j p h) (back-within ls (j - 1) next at w')

    pub mended-place : position (replaced ls (j - 1) 2 ((get_or ls (j - 1) [] ++ get_or ls (j - 1 + 1) []) ∷ [])) (j - 1) (last (take j (lengths ls)) + at) ≡ position ls j at
    mended-place = rw (last-take ls j p h) (back-place ls (j - 1) next at w' ∙ ap (λ i. position ls i at) (up p))

  module _ (p : 0 < j) (b : IsBalanced (slice_set (lengths ls) j (length (get_or ls j []) + 1))) where
    there : j - 1 + 1 < length ls
    there = rw (up p) h

    near : IsBalanced (slice_set (lengths ls) (j - 1 + 1) (length (get_or ls (j - 1 + 1) []) + 1))
    near = rw (up p) b

    pub mended-same : joined (replaced ls (j - 1) 2 ((get_or ls (j - 1) [] ++ get_or ls (j - 1 + 1) []) ∷ [])) ≡ joined ls
    mended-same = back-same ls (j - 1) there near

    pub mended-balanced : IsBalanced (lengths (replaced ls (j - 1) 2 ((get_or ls (j - 1) [] ++ get_or ls (j - 1 + 1) []) ∷ [])))
    mended-balanced = back-balanced ls (j - 1) there near

  module _ (l : last (take j (lengths ls)) < 32) where
    pos : 0 < j
    pos = positive (omega (arith, l))

    pub shifted-few : length (get_or ls (j - 1) []) < 32
    shifted-few = omega (arith, l, last-take ls j pos h)

    module _ (b : IsBalanced (lengths ls)) where
      inside : j - 1 + 1 < length ls
      inside = rw (up pos) h

      pub shifted-some : 0 < first (drop (j + 1) (lengths ls))
      shifted-some = rw (up-two pos) at (some-after ls (j - 1) inside b)

      module _ (full : length (get_or ls j []) ≡ 64) (k : ℕ) (some : 0 < k) (few : length (get_or ls (j - 1) []) + 2 * k ≤ 64) (next : k ≤ first (drop (j + 1) (lengths ls))) where
        full' : length (get_or ls (j - 1 + 1) []) ≡ 64
        full' = rw (up pos) full

        next' : k ≤ first (drop (j - 1 + 2) (lengths ls))
        next' = rw (up-two pos) next

        abbrev after-shift : List (List T)
        after-shift = replaced ls (j - 1) 2 ((get_or ls (j - 1) [] ++ take k (get_or ls (j - 1 + 1) [])) ∷ drop k (get_or ls (j - 1 + 1) []) ∷ [])

        pub shifted-first : (at : ℕ) → at < k → HasRoom ls (position ls j at) after-shift (j - 1) (length (get_or ls (j - 1) []) + at)
        shifted-first at w = subst (λ i. HasRoom ls (position ls i at) after-shift (j - 1) (length (get_or ls (j - 1) []) + at)) (up pos) (back-first ls (j - 1) inside b full' k some few next' at w)

        pub shifted-second : (at : ℕ) → k ≤ at → at ≤ 64 → HasRoom ls (position ls j at) after-shift j (at - k)
        shifted-second at w v = subst (λ i. HasRoom ls (position ls i at) after-shift i (at - k)) (up pos) (back-second ls (j - 1) inside b full' k some few next' at w v)

-- the list after index `i`
module _ {T : Type 0} (ls : List (List T)) (i : ℕ) where
  pub next-there : first (drop (i + 1) (lengths ls)) < 32 → i + 1 < length ls
  next-there l = elim (cases_lt (i + 1) (length ls)) [
    | inl y ↦ y
    | inr n ↦ let e = ap first (drop_all (i + 1) (lengths ls) (omega (arith, n, length-map ls length))) in absurd (omega (arith, l, e))
  ]

  pub next-few : first (drop (i + 1) (lengths ls)) < 32 → length (get_or ls (i + 1) []) < 32
  next-few l = omega (arith, l, first-drop ls (i + 1) (next-there l))

  pub next-some : i < length ls → IsBalanced (lengths ls) → 0 < last (take i (lengths ls))
  next-some h b = last-some (take i (lengths ls)) (balanced-left (take i (lengths ls)) (length (get_or ls i []) ∷ drop (i + 1) (lengths ls)) (subst IsBalanced (lengths-one ls i h) b))

-- the leaves that are needed where a full list has no neighbour with room
module _ {T : Type 0} (v : LeavesView T) (within : length v.lists ≤ v.room) (n : ℕ) (enough : 32 * (length v.lists + 1) ≤ n) where
  pub needs-room : n < capacity_of v.room → length v.lists + 1 ≤ v.room
  needs-room less = grind (arith, nat_tests, within, enough, less)

  pub needs-same : length v.lists + 1 ≤ v.room → room_for v 1 ≡ v.room
  needs-same l = grind (arith, nat_tests, l)

  leaves-more : leaves_for (n + 1) ≡ max 1 (n / 32)
  leaves-more = let e : n + 1 - 1 ≡ n = omega arith in grind (arith, nat_tests, e)

  more : v.room < length v.lists + 1 → room_for v 1 ≡ max (2 * v.room) (length v.lists + 1)
  more l = grind (arith, nat_tests, l)

  needs-leaves : v.room < length v.lists + 1 → n ≤ 64 * length v.lists → room_for v 1 ≡ max (2 * v.room) (leaves_for (n + 1))
  needs-leaves l most =
      let same : max (2 * v.room) (length v.lists + 1) ≡ max (2 * v.room) (max 1 (n / 32)) = omega (arith, within, enough, l, most) in
      more l ∙ same ∙ ap (max (2 * v.room)) (sym leaves-more)

  pub needs-number : v.room < length v.lists + 1 → n ≤ 64 * length v.lists → room_for v 1 * 64 ≡ max (2 * v.room) (leaves_for (n + 1)) * 64
  needs-number l most = ap (λ k. k * 64) (needs-leaves l most)

  pub needs-either : n ≤ 64 * length v.lists → (r : ℕ) → r ≡ room_for v 1 → (r ≡ v.room) ⊎ (r ≡ max (2 * v.room) (leaves_for (n + 1)))
  needs-either most r is = elim (cases_lt v.room (length v.lists + 1)) [ inl l ↦ inr (is ∙ needs-leaves l most) | inr g ↦ inl (is ∙ needs-same g) ]
