-- The items of lists, one list after another, where some of the lists are replaced.
use Rattle.std.proofs.Common.{◌≡◌, ◌+◌, ◌≤◌, ◌<◌, ◌++◌, ℕ, suc, zero, List, [], ◌∷◌, refl, arith, length, take, drop, get_or, insert, remove, add-one, sym, ap, ◌∙◌, append-nil, append_assoc, length-append, length-take-le, take-append-drop}
use Rattle.std.specs.Prelude.{slice_set}
use Rattle.std.proofs.lemmas.List.{drop-append-le, drop_more, get_or_at, get_or_append_left, get_or-append-add, map-append, set_split, take-append-le, take_at, take_more, take-map}
use Rattle.std.proofs.lemmas.List.Concat.{flat_map-append}
use Rattle.aa_ordered.specs.Balance.{joined, lengths, position}
use Rattle.aa_ordered.specs.Leaves.{replaced}

-- a list of three parts, cut within the second
module _ {T : Type 0} where
  pub take-middle : (bs xs cs : List T) (at : ℕ) → at ≤ length xs → take (length bs + at) (bs ++ (xs ++ cs)) ≡ bs ++ take at xs
  take-middle [] xs cs at h = let e : 0 + at ≡ at = omega arith in rw e (take-append-le at xs cs h)
  take-middle (b ∷ bs) xs cs at h = let e : suc (length bs) + at ≡ suc (length bs + at) = omega arith in rw e (ap (λ ys. b ∷ ys) (take-middle bs xs cs at h))

  pub drop-middle : (bs xs cs : List T) (at : ℕ) → at ≤ length xs → drop (length bs + at) (bs ++ (xs ++ cs)) ≡ drop at xs ++ cs
  drop-middle [] xs cs at h = let e : 0 + at ≡ at = omega arith in rw e (drop-append-le at xs cs h)
  drop-middle (b ∷ bs) xs cs at h = let e : suc (length bs) + at ≡ suc (length bs + at) = omega arith in rw e (drop-middle bs xs cs at h)

  pub long-middle : (bs xs cs : List T) → length (bs ++ (xs ++ cs)) ≡ length bs + (length xs + length cs)
  long-middle bs xs cs = omega (arith, length-append bs (xs ++ cs), length-append xs cs)

  regroup : (bs xs ys cs : List T) (x : T) → bs ++ ((xs ++ x ∷ ys) ++ cs) ≡ (bs ++ xs) ++ x ∷ (ys ++ cs)
  regroup bs xs ys cs x = ap (λ zs. bs ++ zs) (append_assoc xs (x ∷ ys) cs) ∙ sym (append_assoc bs xs (x ∷ (ys ++ cs)))

  pub insert-middle : (bs xs cs : List T) (at : ℕ) (x : T) → at ≤ length xs → bs ++ ((take at xs ++ x ∷ drop at xs) ++ cs) ≡ insert (bs ++ (xs ++ cs)) (length bs + at) x
  insert-middle bs xs cs at x h = rw (take-middle bs xs cs at h, drop-middle bs xs cs at h) (regroup bs (take at xs) (drop at xs) cs x)

  pub remove-middle : (bs xs cs : List T) (at : ℕ) → at < length xs → bs ++ ((take at xs ++ drop (at + 1) xs) ++ cs) ≡ remove (bs ++ (xs ++ cs)) (length bs + at)
  remove-middle bs xs cs at h =
      let e : suc (length bs + at) ≡ length bs + (at + 1) = omega arith in
      rw (e, take-middle bs xs cs at (omega (arith, h)), drop-middle bs xs cs (at + 1) (omega (arith, h)))
      (ap (λ zs. bs ++ zs) (append_assoc (take at xs) (drop (at + 1) xs) cs) ∙ sym (append_assoc bs (take at xs) (drop (at + 1) xs ++ cs)))

  pub set-middle : (bs xs cs : List T) (at : ℕ) (x : T) → at < length xs → bs ++ (slice_set xs at x ++ cs) ≡ slice_set (bs ++ (xs ++ cs)) (length bs + at) x
  set-middle bs xs cs at x h =
      let e : suc (length bs + at) ≡ length bs + suc at = omega arith in
      rw (
        set_split xs at x h,
        set_split (bs ++ (xs ++ cs)) (length bs + at) x (omega (arith, h, long-middle bs xs cs)),
        e,
        take-middle bs xs cs at (omega (arith, h)),
        drop-middle bs xs cs (suc at) (omega (arith, h)),
      )
      (regroup bs (take at xs) (drop (suc at) xs) cs x)

module _ {T : Type 0} (ls : List (List T)) (i : ℕ) where
  -- the items of lists of which some are replaced
  pub joined-replaced : (n : ℕ) (os : List (List T)) → joined (replaced ls i n os) ≡ joined (take i ls) ++ (joined os ++ joined (drop (i + n) ls))
  joined-replaced n os = flat_map-append (λ l. l) (take i ls) (os ++ drop (i + n) ls) ∙ ap (λ zs. joined (take i ls) ++ zs) (flat_map-append (λ l. l) os (drop (i + n) ls))

  drop-map : (n : ℕ) (xs : List (List T)) → drop n (lengths xs) ≡ lengths (drop n xs)
  drop-map zero xs = refl
  drop-map (suc n) [] = refl
  drop-map (suc n) (x ∷ xs) = drop-map n xs

  pub lengths-replaced : (n : ℕ) (os : List (List T)) → lengths (replaced ls i n os) ≡ take i (lengths ls) ++ (lengths os ++ drop (i + n) (lengths ls))
  lengths-replaced n os =
      rw (take-map length i ls, drop-map (i + n) ls)
      (map-append length (take i ls) (os ++ drop (i + n) ls) ∙ ap (λ zs. lengths (take i ls) ++ zs) (map-append length os (drop (i + n) ls)))

  pub joined-split : joined ls ≡ joined (take i ls) ++ joined (drop i ls)
  joined-split = ap joined (sym (take-append-drop i ls)) ∙ flat_map-append (λ l. l) (take i ls) (drop i ls)

  module _ (h : i < length ls) where
    pub joined-one : joined ls ≡ joined (take i ls) ++ (get_or ls i [] ++ joined (drop (i + 1) ls))
    joined-one = joined-split ∙ ap (λ zs. joined (take i ls) ++ joined zs) (drop_more ls i [] h)

    pub lengths-one : lengths ls ≡ take i (lengths ls) ++ (length (get_or ls i []) ∷ drop (i + 1) (lengths ls))
    lengths-one =
        rw (take-map length i ls, drop-map (i + 1) ls)
        (ap lengths (sym (take-append-drop i ls)) ∙ map-append length (take i ls) (drop i ls) ∙ ap (λ zs. lengths (take i ls) ++ lengths zs) (drop_more ls i [] h))

    set-replaced : (xs : List T) → slice_set ls i xs ≡ replaced ls i 1 (xs ∷ [])
    set-replaced xs = rw (← (add-one i)) at (set_split ls i xs h)

    pub lengths-set : (xs : List T) → lengths (slice_set ls i xs) ≡ take i (lengths ls) ++ (length xs ∷ drop (i + 1) (lengths ls))
    lengths-set xs = ap lengths (set-replaced xs) ∙ lengths-replaced 1 (xs ∷ [])

    pub joined-set : (xs : List T) → joined (slice_set ls i xs) ≡ joined (take i ls) ++ (xs ++ joined (drop (i + 1) ls))
    joined-set xs = ap joined (set-replaced xs) ∙ joined-replaced 1 (xs ∷ []) ∙ ap (λ zs. joined (take i ls) ++ (zs ++ joined (drop (i + 1) ls))) (append-nil xs)

    pub joined-inserted : (at : ℕ) (x : T) → at ≤ length (get_or ls i []) → joined (slice_set ls i (take at (get_or ls i []) ++ x ∷ drop at (get_or ls i []))) ≡ insert (joined ls) (position ls i at) x
    joined-inserted at x w = joined-set _ ∙ insert-middle (joined (take i ls)) (get_or ls i []) (joined (drop (i + 1) ls)) at x w ∙ ap (λ zs. insert zs (position ls i at) x) (sym joined-one)

    pub joined-removed : (at : ℕ) → at < length (get_or ls i []) → joined (slice_set ls i (take at (get_or ls i []) ++ drop (at + 1) (get_or ls i []))) ≡ remove (joined ls) (position ls i at)
    joined-removed at w = joined-set _ ∙ remove-middle (joined (take i ls)) (get_or ls i []) (joined (drop (i + 1) ls)) at w ∙ ap (λ zs. remove zs (position ls i at)) (sym joined-one)

    pub joined-written : (at : ℕ) (x : T) → at < length (get_or ls i []) → joined (slice_set ls i (slice_set (get_or ls i []) at x)) ≡ slice_set (joined ls) (position ls i at) x
    joined-written at x w = joined-set _ ∙ set-middle (joined (take i ls)) (get_or ls i []) (joined (drop (i + 1) ls)) at x w ∙ ap (λ zs. slice_set zs (position ls i at) x) (sym joined-one)

    pub position-within : (at : ℕ) → at < length (get_or ls i []) → position ls i at < length (joined ls)
    position-within at w = omega (arith, w, ap length joined-one, long-middle (joined (take i ls)) (get_or ls i []) (joined (drop (i + 1) ls)))

    pub read-joined : (at : ℕ) (d : T) → at < length (get_or ls i []) → get_or (joined ls) (position ls i at) d ≡ get_or (get_or ls i []) at d
    read-joined at d w = rw joined-one (get_or-append-add (joined (take i ls)) (get_or ls i [] ++ joined (drop (i + 1) ls)) at d ∙ get_or_append_left (get_or ls i []) (joined (drop (i + 1) ls)) d at w)

    -- one list is replaced by others with the same items
    pub joined-same-one : (os : List (List T)) → joined os ≡ get_or ls i [] → joined (replaced ls i 1 os) ≡ joined ls
    joined-same-one os e = joined-replaced 1 os ∙ ap (λ zs. joined (take i ls) ++ (zs ++ joined (drop (i + 1) ls))) e ∙ sym joined-one

    -- the positions in those
    count : length (take i ls) ≡ i
    count = length-take-le i ls (omega (arith, h))

    pub take-replaced : (n : ℕ) (os : List (List T)) → take i (replaced ls i n os) ≡ take i ls
    take-replaced n os = take_at (take i ls) (os ++ drop (i + n) ls) i count

    pub position-first : (n : ℕ) (os : List (List T)) (at : ℕ) → position (replaced ls i n os) i at ≡ position ls i at
    position-first n os at = ap (λ zs. length (joined zs) + at) (take-replaced n os)

    pub read-first : (n : ℕ) (o : List T) (os : List (List T)) → get_or (replaced ls i n (o ∷ os)) i [] ≡ o
    read-first n o os = get_or_at (take i ls) o (os ++ drop (i + n) ls) [] i count

    pub read-second : (n : ℕ) (o p : List T) (os : List (List T)) → get_or (replaced ls i n (o ∷ p ∷ os)) (i + 1) [] ≡ p
    read-second n o p os = rw (count) at (get_or-append-add (take i ls) (o ∷ p ∷ (os ++ drop (i + n) ls)) 1 [])

    joined-push : (xs : List (List T)) (o : List T) → length (joined (xs ++ o ∷ [])) ≡ length (joined xs) + length o
    joined-push xs o = ap length (flat_map-append (λ l. l) xs (o ∷ [])) ∙ length-append (joined xs) (o ++ []) ∙ ap (λ zs. length (joined xs) + length zs) (append-nil o)

    pub position-next : (at : ℕ) → position ls (i + 1) at ≡ length (joined (take i ls)) + length (get_or ls i []) + at
    position-next at = ap (λ zs. length (joined zs) + at) (take_more ls i [] h) ∙ ap (λ n. n + at) (joined-push (take i ls) (get_or ls i []))

    pub position-second : (n : ℕ) (o : List T) (os : List (List T)) (at : ℕ) → position (replaced ls i n (o ∷ os)) (i + 1) at ≡ length (joined (take i ls)) + length o + at
    position-second n o os at =
        let long : i < length (replaced ls i n (o ∷ os)) = omega (arith, count, length-append (take i ls) (o ∷ (os ++ drop (i + n) ls))) in
        ap (λ zs. length (joined zs) + at) (take_more (replaced ls i n (o ∷ os)) i [] long ∙ ap (λ zs. zs ++ get_or (replaced ls i n (o ∷ os)) i [] ∷ []) (take-replaced n (o ∷ os))
        ∙ ap (λ z. take i ls ++ z ∷ []) (read-first n o os)) ∙ ap (λ n. n + at) (joined-push (take i ls) o)

  module _ (h : i + 1 < length ls) where
    rest-two : drop i ls ≡ get_or ls i [] ∷ get_or ls (i + 1) [] ∷ drop (i + 2) ls
    rest-two = let e : i + 1 + 1 ≡ i + 2 = omega arith in drop_more ls i [] (omega (arith, h)) ∙ ap (λ zs. get_or ls i [] ∷ zs) (rw e at (drop_more ls (i + 1) [] h))

    pub joined-two : joined ls ≡ joined (take i ls) ++ ((get_or ls i [] ++ get_or ls (i + 1) []) ++ joined (drop (i + 2) ls))
    joined-two = joined-split ∙ ap (λ zs. joined (take i ls) ++ joined zs) rest-two ∙ ap (λ zs. joined (take i ls) ++ zs) (sym (append_assoc (get_or ls i []) (get_or ls (i + 1) []) (joined (drop (i + 2) ls))))

    pub lengths-two : lengths ls ≡ take i (lengths ls) ++ (length (get_or ls i []) ∷ length (get_or ls (i + 1) []) ∷ drop (i + 2) (lengths ls))
    lengths-two =
        rw (take-map length i ls, drop-map (i + 2) ls)
        (ap lengths (sym (take-append-drop i ls)) ∙ map-append length (take i ls) (drop i ls) ∙ ap (λ zs. lengths (take i ls) ++ lengths zs) rest-two)

    pub joined-same-two : (os : List (List T)) → joined os ≡ get_or ls i [] ++ get_or ls (i + 1) [] → joined (replaced ls i 2 os) ≡ joined ls
    joined-same-two os e = joined-replaced 2 os ∙ ap (λ zs. joined (take i ls) ++ (zs ++ joined (drop (i + 2) ls))) e ∙ sym joined-two
