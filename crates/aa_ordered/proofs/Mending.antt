-- Lists that are balanced again, once an item was removed or inserted.
use Rattle.std.proofs.Common.{◌≡◌, ◌+◌, ◌-◌, ◌≤◌, ◌<◌, ◌++◌, ℕ, List, [], ◌∷◌, Some, arith, length, take, drop, get_or, insert, sym, ap, subst, ◌∙◌, append-nil, length-append, length-drop, length-take-le, get_or-set_same, set-set}
use Rattle.std.specs.Prelude.{slice_get, slice_set}
use Rattle.std.proofs.lemmas.List.{get_or_past, length-map, map-set, nil_from_length, take-set, take_all, set-append_right, set-get_or, set_at}
use Rattle.aa_ordered.specs.Balance.{first, joined, last, lengths, position, HasRoom, IsAt, IsBalanced}
use Rattle.aa_ordered.specs.Leaves.{replaced}
use Rattle.aa_ordered.proofs.Balance.{drop-one, first-drop, first-some, join-two, one-joint, one-next, set-one, two-after, two-joint, two-next, two-some, two-sum}
use Rattle.aa_ordered.proofs.Flat.{joined-inserted, joined-same-one, joined-same-two, lengths-one, lengths-replaced, lengths-set, lengths-two, position-first, position-next, position-within, read-first, read-joined}
use Rattle.aa_ordered.proofs.Placing.{some-each}
use Rattle.aa_ordered.proofs.Reading.{get-from, got}

-- the list at index `i` has lost an item
module _ {T : Type 0} (ls : List (List T)) (i : ℕ) (h : i < length ls) (b : IsBalanced (slice_set (lengths ls) i (length (get_or ls i []) + 1))) where
  abbrev n : ℕ
  n = length (get_or ls i [])

  count : length (take i (lengths ls)) ≡ i
  count = length-take-le i (lengths ls) (omega (arith, h, length-map ls length))

  one : IsBalanced (take i (lengths ls) ++ ((n + 1) ∷ drop (i + 1) (lengths ls)))
  one = subst IsBalanced (ap (λ ns. slice_set ns i (n + 1)) (lengths-one ls i h) ∙ set_at (take i (lengths ls)) n (drop (i + 1) (lengths ls)) (n + 1) i count) b

  joint : 64 ≤ last (take i (lengths ls)) + (n + 1)
  joint = one-joint (take i (lengths ls)) (drop (i + 1) (lengths ls)) (n + 1) one

  next : 64 ≤ (n + 1) + first (drop (i + 1) (lengths ls))
  next = one-next (take i (lengths ls)) (drop (i + 1) (lengths ls)) (n + 1) one

  -- it is empty
  pub emptied-same : n ≡ 0 → joined (replaced ls i 1 []) ≡ joined ls
  emptied-same z = joined-same-one ls i h [] (sym (nil_from_length (get_or ls i []) z))

  pub emptied-balanced : n ≡ 0 → IsBalanced (lengths (replaced ls i 1 []))
  emptied-balanced z = rw (lengths-replaced ls i 1 []) (drop-one (take i (lengths ls)) (drop (i + 1) (lengths ls)) (n + 1) one (omega (arith, joint, next, z)))

  -- it is long enough
  pub still-balanced : 0 < n → 64 ≤ last (take i (lengths ls)) + n → 64 ≤ n + first (drop (i + 1) (lengths ls)) → IsBalanced (lengths ls)
  still-balanced z p q = rw (lengths-one ls i h) (set-one (take i (lengths ls)) (drop (i + 1) (lengths ls)) (n + 1) one n z p q)

  -- it is joined to the next one
  module _ (g : i + 1 < length ls) where
    abbrev m : ℕ
    m = length (get_or ls (i + 1) [])

    two : IsBalanced (take i (lengths ls) ++ ((n + 1) ∷ m ∷ drop (i + 2) (lengths ls)))
    two = subst IsBalanced (ap (λ ns. slice_set ns i (n + 1)) (lengths-two ls i g) ∙ set_at (take i (lengths ls)) n (m ∷ drop (i + 2) (lengths ls)) (n + 1) i count) b

    pub next-length : first (drop (i + 1) (lengths ls)) ≡ m
    next-length = first-drop ls (i + 1) g

    pub next-same : joined (replaced ls i 2 ((get_or ls i [] ++ get_or ls (i + 1) []) ∷ [])) ≡ joined ls
    next-same = joined-same-two ls i g ((get_or ls i [] ++ get_or ls (i + 1) []) ∷ []) (append-nil (get_or ls i [] ++ get_or ls (i + 1) []))

    pub next-balanced : IsBalanced (lengths (replaced ls i 2 ((get_or ls i [] ++ get_or ls (i + 1) []) ∷ [])))
    next-balanced =
        let sums = length-append (get_or ls i []) (get_or ls (i + 1) []) in
        let some = two-some (take i (lengths ls)) (drop (i + 2) (lengths ls)) (n + 1) m two in
        let after = two-next (take i (lengths ls)) (drop (i + 2) (lengths ls)) (n + 1) m two in
        rw (lengths-replaced ls i 2 ((get_or ls i [] ++ get_or ls (i + 1) []) ∷ []))
        (join-two (take i (lengths ls)) (drop (i + 2) (lengths ls)) (n + 1) m two (length (get_or ls i [] ++ get_or ls (i + 1) [])) (omega (arith, sums, some.1)) (omega (arith, sums, some.1, joint)) (omega (arith, sums, after)))

-- the list after index `i` has lost an item, and is joined to the one at `i`
module _ {T : Type 0} (ls : List (List T)) (i : ℕ) (h : i + 1 < length ls) (b : IsBalanced (slice_set (lengths ls) (i + 1) (length (get_or ls (i + 1) []) + 1))) where
  abbrev k : ℕ
  k = length (get_or ls i [])

  abbrev l : ℕ
  l = length (get_or ls (i + 1) [])

  set-second : slice_set (lengths ls) (i + 1) (l + 1) ≡ take i (lengths ls) ++ (k ∷ (l + 1) ∷ drop (i + 2) (lengths ls))
  set-second =
      let e : i + 1 - i ≡ 1 = omega arith in
      let c : length (take i (lengths ls)) ≡ i = length-take-le i (lengths ls) (omega (arith, h, length-map ls length)) in
      ap (λ ns. slice_set ns (i + 1) (l + 1)) (lengths-two ls i h)
      ∙ rw e at (set-append_right (take i (lengths ls)) (k ∷ l ∷ drop (i + 2) (lengths ls)) i (i + 1) (l + 1) c (omega arith))

  both : IsBalanced (take i (lengths ls) ++ (k ∷ (l + 1) ∷ drop (i + 2) (lengths ls)))
  both = subst IsBalanced set-second b

  pub back-same : joined (replaced ls i 2 ((get_or ls i [] ++ get_or ls (i + 1) []) ∷ [])) ≡ joined ls
  back-same = joined-same-two ls i h ((get_or ls i [] ++ get_or ls (i + 1) []) ∷ []) (append-nil (get_or ls i [] ++ get_or ls (i + 1) []))

  pub back-balanced : IsBalanced (lengths (replaced ls i 2 ((get_or ls i [] ++ get_or ls (i + 1) []) ∷ [])))
  back-balanced =
      let sums = length-append (get_or ls i []) (get_or ls (i + 1) []) in
      let some = two-some (take i (lengths ls)) (drop (i + 2) (lengths ls)) k (l + 1) both in
      let rest = first-some (drop (i + 2) (lengths ls)) (two-after (take i (lengths ls)) (drop (i + 2) (lengths ls)) k (l + 1) both) in
      let sum = two-sum (take i (lengths ls)) (drop (i + 2) (lengths ls)) k (l + 1) both in
      let before = two-joint (take i (lengths ls)) (drop (i + 2) (lengths ls)) k (l + 1) both in
      let after = two-next (take i (lengths ls)) (drop (i + 2) (lengths ls)) k (l + 1) both in
      rw (lengths-replaced ls i 2 ((get_or ls i [] ++ get_or ls (i + 1) []) ∷ []))
      (join-two (take i (lengths ls)) (drop (i + 2) (lengths ls)) k (l + 1) both (length (get_or ls i [] ++ get_or ls (i + 1) [])) (omega (arith, sums, some.0)) (omega (arith, sums, before)) (omega (arith, sums, sum, rest)))

-- an item is removed from a list
module _ {T : Type 0} (ls : List (List T)) (i at : ℕ) (a : IsAt ls i at) where
  abbrev vs : List T
  vs = get_or ls i []

  fewer : length (take at vs ++ drop (at + 1) vs) + 1 ≡ length vs
  fewer = omega (arith, length-append (take at vs) (drop (at + 1) vs), length-take-le at vs (omega (arith, a.within)), length-drop (at + 1) vs, a.within)

  pub nearly : IsBalanced (lengths ls) → IsBalanced (slice_set (lengths (slice_set ls i (take at vs ++ drop (at + 1) vs))) i (length (get_or (slice_set ls i (take at vs ++ drop (at + 1) vs)) i []) + 1))
  nearly b =
      rw (get_or-set_same ls i (take at vs ++ drop (at + 1) vs) [] a.list, fewer, map-set length ls i (take at vs ++ drop (at + 1) vs), set-set (lengths ls) i (length (take at vs ++ drop (at + 1) vs)) (length vs))
      (subst IsBalanced (ap lengths (sym (set-get_or ls i [])) ∙ map-set length ls i vs) b)

  pub removed-item : (x : T) → slice_get vs at ≡ Some x → slice_get (joined ls) (position ls i at) ≡ Some x
  removed-item x r =
      get-from (joined ls) (position ls i at) x (position-within ls i a.list at a.within)
      ∙ ap Some (read-joined ls i a.list at x a.within ∙ got vs at x x r)

-- an item is inserted into a list that has room
module _ {T : Type 0} (ls : List (List T)) (q : ℕ) (new : List (List T)) (i at : ℕ) (r : HasRoom ls q new i at) (x : T) where
  abbrev os : List T
  os = get_or new i []

  pub inserted-there : joined (slice_set new i (take at os ++ x ∷ drop at os)) ≡ insert (joined ls) q x
  inserted-there = joined-inserted new i r.list at x r.within ∙ (λ j. insert (r.same j) (r.place j) x)

  more : length (take at os ++ x ∷ drop at os) ≡ length os + 1
  more = omega (arith, length-append (take at os) (x ∷ drop at os), length-take-le at os r.within, length-drop at os, r.within)

  pub inserted-balanced : IsBalanced (lengths (slice_set new i (take at os ++ x ∷ drop at os)))
  inserted-balanced =
      let one = subst IsBalanced (lengths-one new i r.list) r.balanced in
      let before = one-joint (take i (lengths new)) (drop (i + 1) (lengths new)) (length os) one in
      let after = one-next (take i (lengths new)) (drop (i + 1) (lengths new)) (length os) one in
      rw (lengths-set new i r.list (take at os ++ x ∷ drop at os))
      (set-one (take i (lengths new)) (drop (i + 1) (lengths new)) (length os) one (length (take at os ++ x ∷ drop at os)) (omega (arith, more)) (omega (arith, more, before)) (omega (arith, more, after)))

-- where a spot is after its list was dropped or joined
module _ {T : Type 0} (ls : List (List T)) (i : ℕ) (h : i < length ls) (at : ℕ) (w : at ≤ length (get_or ls i [])) where
  pub emptied-within : length (get_or ls i []) ≡ 0 → (xs : List T) → at ≤ length xs
  emptied-within z xs = omega (arith, w, z)

  pub emptied-place : position (replaced ls i 1 []) i at ≡ position ls i at
  emptied-place = position-first ls i h 1 [] at

  pub next-within : at ≤ length (get_or (replaced ls i 2 ((get_or ls i [] ++ get_or ls (i + 1) []) ∷ [])) i [])
  next-within = rw (read-first ls i h 2 (get_or ls i [] ++ get_or ls (i + 1) []) []) (omega (arith, w, length-append (get_or ls i []) (get_or ls (i + 1) [])))

  pub next-place : position (replaced ls i 2 ((get_or ls i [] ++ get_or ls (i + 1) []) ∷ [])) i at ≡ position ls i at
  next-place = position-first ls i h 2 ((get_or ls i [] ++ get_or ls (i + 1) []) ∷ []) at

module _ {T : Type 0} (ls : List (List T)) (i : ℕ) (h : i + 1 < length ls) (at : ℕ) (w : at ≤ length (get_or ls (i + 1) [])) where
  pub back-within : length (get_or ls i []) + at ≤ length (get_or (replaced ls i 2 ((get_or ls i [] ++ get_or ls (i + 1) []) ∷ [])) i [])
  back-within = rw (read-first ls i (omega (arith, h)) 2 (get_or ls i [] ++ get_or ls (i + 1) []) []) (omega (arith, w, length-append (get_or ls i []) (get_or ls (i + 1) [])))

  pub back-place : position (replaced ls i 2 ((get_or ls i [] ++ get_or ls (i + 1) []) ∷ [])) i (length (get_or ls i []) + at) ≡ position ls (i + 1) at
  back-place = position-first ls i (omega (arith, h)) 2 ((get_or ls i [] ++ get_or ls (i + 1) []) ∷ []) (length (get_or ls i []) + at) ∙ (let p = position-next ls i (omega (arith, h)) at in omega (arith, p))

-- a spot in a list that has lost its item
module _ {T : Type 0} (ls : List (List T)) (i at : ℕ) (a : IsAt ls i at) where
  pub left-within : at ≤ length (get_or (slice_set ls i (take at (get_or ls i []) ++ drop (at + 1) (get_or ls i []))) i [])
  left-within = rw (get_or-set_same ls i (take at (get_or ls i []) ++ drop (at + 1) (get_or ls i [])) [] a.list) (omega (arith, fewer ls i at a, a.within))

  pub left-place : (xs : List T) → position (slice_set ls i xs) i at ≡ position ls i at
  left-place xs = ap (λ zs. length (joined zs) + at) (take-set ls i xs)

-- the next item
module _ {T : Type 0} (ls : List (List T)) (i at : ℕ) (w : at ≤ length (get_or ls i [])) where
  pub past-end : length ls ≤ i → position ls i at ≡ length (joined ls)
  past-end h = let z = ap length (get_or_past ls i [] h) in let e = ap (λ zs. length (joined zs)) (take_all i ls h) in omega (arith, w, z, e)

  module _ (h : i < length ls) (end : length (get_or ls i []) ≤ at) where
    pub over-place : position ls (i + 1) 0 ≡ position ls i at
    over-place = let p = position-next ls i h 0 in omega (arith, p, w, end)

    pub over-at : IsBalanced (lengths ls) → i + 1 < length ls → IsAt ls (i + 1) 0
    over-at b g = record { list = g; within = some-each ls (i + 1) b g }

    pub over-end : length ls ≤ i + 1 → position ls i at ≡ length (joined ls)
    over-end g = sym over-place ∙ (let e = ap (λ zs. length (joined zs)) (take_all (i + 1) ls g) in omega (arith, e))
