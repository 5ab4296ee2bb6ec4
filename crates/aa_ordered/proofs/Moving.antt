-- Lists that remain balanced where items move between neighbours.
use Rattle.std.proofs.Common.{◌≡◌, ◌+◌, ◌-◌, ◌*◌, ◌≤◌, ◌<◌, ◌++◌, ℕ, List, [], ◌∷◌, refl, arith, length, take, drop, get_or, sym, ap, subst, ◌∙◌, append-nil, append_assoc, length-append, length-drop, length-take-le, take-append-drop}
use Rattle.std.proofs.lemmas.List.{length-map}
use Rattle.aa_ordered.specs.Balance.{first, joined, last, lengths, position, HasRoom, IsBalanced}
use Rattle.aa_ordered.specs.Leaves.{replaced}
use Rattle.aa_ordered.proofs.Balance.{first-some, set-two, split-many, split-one, total-joined, two-after, two-joint, two-next, two-sum}
use Rattle.aa_ordered.proofs.Flat.{joined-same-one, joined-same-two, lengths-one, lengths-replaced, lengths-two, position-first, position-next, position-second, read-first, read-second}

-- two neighbours are replaced by two others with the same items
module _ {T : Type 0} (ls : List (List T)) (i : ℕ) (h : i + 1 < length ls) (b : IsBalanced (lengths ls)) where
  parts : IsBalanced (take i (lengths ls) ++ (length (get_or ls i []) ∷ length (get_or ls (i + 1) []) ∷ drop (i + 2) (lengths ls)))
  parts = subst IsBalanced (lengths-two ls i h) b

  within : i < length ls
  within = omega (arith, h)

  pub some-after : 0 < first (drop (i + 2) (lengths ls))
  some-after = first-some (drop (i + 2) (lengths ls)) (two-after (take i (lengths ls)) (drop (i + 2) (lengths ls)) (length (get_or ls i [])) (length (get_or ls (i + 1) [])) parts)

  module _ (o p : List T) (e : o ++ p ≡ get_or ls i [] ++ get_or ls (i + 1) []) (po : 0 < length o) (pp : 0 < length p) (jo : 64 ≤ last (take i (lengths ls)) + length o) (jp : 64 ≤ length p + first (drop (i + 2) (lengths ls))) where
    same : joined (replaced ls i 2 (o ∷ p ∷ [])) ≡ joined ls
    same = joined-same-two ls i h (o ∷ p ∷ []) (ap (λ zs. o ++ zs) (append-nil p) ∙ e)

    sums : length o + length p ≡ length (get_or ls i []) + length (get_or ls (i + 1) [])
    sums = sym (length-append o p) ∙ ap length e ∙ length-append (get_or ls i []) (get_or ls (i + 1) [])

    balanced : IsBalanced (lengths (replaced ls i 2 (o ∷ p ∷ [])))
    balanced =
        let s = two-sum (take i (lengths ls)) (drop (i + 2) (lengths ls)) (length (get_or ls i [])) (length (get_or ls (i + 1) [])) parts in
        rw (lengths-replaced ls i 2 (o ∷ p ∷ []))
        (set-two (take i (lengths ls)) (drop (i + 2) (lengths ls)) (length (get_or ls i [])) (length (get_or ls (i + 1) [])) parts (length o) (length p) po pp (omega (arith, s, sums)) jo jp)

    long : i + 1 < length (replaced ls i 2 (o ∷ p ∷ []))
    long = omega (arith, length-append (take i ls) (o ∷ p ∷ drop (i + 2) ls), length-take-le i ls (omega (arith, h)))

    pub to-first : (q at : ℕ) → at ≤ length o → length o < 64 → position ls i at ≡ q → HasRoom ls q (replaced ls i 2 (o ∷ p ∷ [])) i at
    to-first q at w r e = record {
      list = omega (arith, long);
      within = rw (read-first ls i within 2 o (p ∷ [])) w;
      room = rw (read-first ls i within 2 o (p ∷ [])) r;
      place = position-first ls i within 2 (o ∷ p ∷ []) at ∙ e;
      same = same;
      balanced = balanced;
    }

    pub to-second : (q at : ℕ) → at ≤ length p → length p < 64 → length (joined (take i ls)) + length o + at ≡ q → HasRoom ls q (replaced ls i 2 (o ∷ p ∷ [])) (i + 1) at
    to-second q at w r e = record {
      list = long;
      within = rw (read-second ls i within 2 o p []) w;
      room = rw (read-second ls i within 2 o p []) r;
      place = position-second ls i within 2 o (p ∷ []) at ∙ e;
      same = same;
      balanced = balanced;
    }

-- the first `k` items of a full list move to the end of the list before it
module _ {T : Type 0} (ls : List (List T)) (i : ℕ) (h : i + 1 < length ls) (b : IsBalanced (lengths ls)) (full : length (get_or ls (i + 1) []) ≡ 64) (k : ℕ) (some : 0 < k) (few : length (get_or ls i []) + 2 * k ≤ 64) (next : k ≤ first (drop (i + 2) (lengths ls))) where
  abbrev xs : List T
  xs = get_or ls i []

  abbrev ys : List T
  ys = get_or ls (i + 1) []

  taken : length (take k ys) ≡ k
  taken = length-take-le k ys (omega (arith, full, few))

  left : length (drop k ys) ≡ 64 - k
  left = length-drop k ys ∙ ap (λ n. n - k) full

  grown : length (xs ++ take k ys) ≡ length xs + k
  grown = length-append xs (take k ys) ∙ ap (λ n. length xs + n) taken

  moved : (xs ++ take k ys) ++ drop k ys ≡ xs ++ ys
  moved = append_assoc xs (take k ys) (drop k ys) ∙ ap (λ zs. xs ++ zs) (take-append-drop k ys)

  before : 64 ≤ last (take i (lengths ls)) + length xs
  before = two-joint (take i (lengths ls)) (drop (i + 2) (lengths ls)) (length xs) (length ys) (parts ls i h b)

  pub back-first : (at : ℕ) → at < k → HasRoom ls (position ls (i + 1) at) (replaced ls i 2 ((xs ++ take k ys) ∷ drop k ys ∷ [])) i (length xs + at)
  back-first at w =
      to-first ls i h b (xs ++ take k ys) (drop k ys) moved (omega (arith, grown, some)) (omega (arith, left, few, some)) (omega (arith, grown, before)) (omega (arith, left, next, few))
      (position ls (i + 1) at) (length xs + at) (omega (arith, grown, w)) (omega (arith, grown, few, some))
      (sym (position-next ls i (omega (arith, h)) at ∙ omega arith))

  pub back-second : (at : ℕ) → k ≤ at → at ≤ 64 → HasRoom ls (position ls (i + 1) at) (replaced ls i 2 ((xs ++ take k ys) ∷ drop k ys ∷ [])) (i + 1) (at - k)
  back-second at w v =
      to-second ls i h b (xs ++ take k ys) (drop k ys) moved (omega (arith, grown, some)) (omega (arith, left, few, some)) (omega (arith, grown, before)) (omega (arith, left, next, few))
      (position ls (i + 1) at) (at - k) (omega (arith, left, v)) (omega (arith, left, some))
      (let p = position-next ls i (omega (arith, h)) at in omega (arith, p, grown, w))

-- the last `k` items of a full list move to the front of the list after it
module _ {T : Type 0} (ls : List (List T)) (i : ℕ) (h : i + 1 < length ls) (b : IsBalanced (lengths ls)) (full : length (get_or ls i []) ≡ 64) (k : ℕ) (some : 0 < k) (few : length (get_or ls (i + 1) []) + 2 * k ≤ 64) (next : k ≤ last (take i (lengths ls))) where
  abbrev zs : List T
  zs = get_or ls i []

  abbrev us : List T
  us = get_or ls (i + 1) []

  rest : length zs - k ≤ length zs
  rest = omega arith

  kept : length (take (length zs - k) zs) ≡ 64 - k
  kept = length-take-le (length zs - k) zs rest ∙ ap (λ n. n - k) full

  put : length (drop (length zs - k) zs ++ us) ≡ k + length us
  put = length-append (drop (length zs - k) zs) us ∙ ap (λ n. n + length us) (length-drop (length zs - k) zs ∙ omega (arith, full, few))

  moved-on : take (length zs - k) zs ++ (drop (length zs - k) zs ++ us) ≡ zs ++ us
  moved-on = sym (append_assoc (take (length zs - k) zs) (drop (length zs - k) zs) us) ∙ ap (λ ws. ws ++ us) (take-append-drop (length zs - k) zs)

  after : 64 ≤ length us + first (drop (i + 2) (lengths ls))
  after = two-next (take i (lengths ls)) (drop (i + 2) (lengths ls)) (length zs) (length us) (parts ls i h b)

  pub on-first : (at : ℕ) → at ≤ 64 - k → HasRoom ls (position ls i at) (replaced ls i 2 (take (length zs - k) zs ∷ (drop (length zs - k) zs ++ us) ∷ [])) i at
  on-first at w =
      to-first ls i h b (take (length zs - k) zs) (drop (length zs - k) zs ++ us) moved-on (omega (arith, kept, few, some)) (omega (arith, put, some)) (omega (arith, kept, next, few)) (omega (arith, put, after))
      (position ls i at) at (omega (arith, kept, w)) (omega (arith, kept, some, few)) refl

  pub on-second : (at : ℕ) → 64 - k < at → at ≤ 64 → HasRoom ls (position ls i at) (replaced ls i 2 (take (length zs - k) zs ∷ (drop (length zs - k) zs ++ us) ∷ [])) (i + 1) (at - (64 - k))
  on-second at w v =
      to-second ls i h b (take (length zs - k) zs) (drop (length zs - k) zs ++ us) moved-on (omega (arith, kept, few, some)) (omega (arith, put, some)) (omega (arith, kept, next, few)) (omega (arith, put, after))
      (position ls i at) (at - (64 - k)) (omega (arith, put, v, few)) (omega (arith, put, some, few))
      (omega (arith, kept, w))

-- a full list is split into halves
module _ {T : Type 0} (ls : List (List T)) (i : ℕ) (h : i < length ls) (b : IsBalanced (lengths ls)) (full : length (get_or ls i []) ≡ 64) (before : 32 ≤ last (take i (lengths ls))) (after : 32 ≤ first (drop (i + 1) (lengths ls))) where
  abbrev ws : List T
  ws = get_or ls i []

  lower : length (take 32 ws) ≡ 32
  lower = length-take-le 32 ws (omega (arith, full))

  upper : length (drop 32 ws) ≡ 32
  upper = length-drop 32 ws ∙ ap (λ n. n - 32) full

  one : IsBalanced (take i (lengths ls) ++ (length ws ∷ drop (i + 1) (lengths ls)))
  one = subst IsBalanced (lengths-one ls i h) b

  halves : joined (take 32 ws ∷ drop 32 ws ∷ []) ≡ ws
  halves = ap (λ vs. take 32 ws ++ vs) (append-nil (drop 32 ws)) ∙ take-append-drop 32 ws

  balanced-halves : IsBalanced (lengths (replaced ls i 1 (take 32 ws ∷ drop 32 ws ∷ [])))
  balanced-halves =
      rw (lengths-replaced ls i 1 (take 32 ws ∷ drop 32 ws ∷ []))
      (split-one (take i (lengths ls)) (drop (i + 1) (lengths ls)) (length ws) one (length (take 32 ws)) (length (drop 32 ws)) (omega (arith, lower)) (omega (arith, upper)) (omega (arith, lower, upper)) (omega (arith, lower, before)) (omega (arith, upper, after)))

  long-halves : i + 1 < length (replaced ls i 1 (take 32 ws ∷ drop 32 ws ∷ []))
  long-halves = omega (arith, length-append (take i ls) (take 32 ws ∷ drop 32 ws ∷ drop (i + 1) ls), length-take-le i ls (omega (arith, h)))

  pub half-first : (at : ℕ) → at ≤ 32 → HasRoom ls (position ls i at) (replaced ls i 1 (take 32 ws ∷ drop 32 ws ∷ [])) i at
  half-first at w = record {
    list = omega (arith, long-halves);
    within = rw (read-first ls i h 1 (take 32 ws) (drop 32 ws ∷ [])) (omega (arith, lower, w));
    room = rw (read-first ls i h 1 (take 32 ws) (drop 32 ws ∷ [])) (omega (arith, lower));
    place = position-first ls i h 1 (take 32 ws ∷ drop 32 ws ∷ []) at;
    same = joined-same-one ls i h (take 32 ws ∷ drop 32 ws ∷ []) halves;
    balanced = balanced-halves;
  }

  pub half-second : (at : ℕ) → 32 < at → at ≤ 64 → HasRoom ls (position ls i at) (replaced ls i 1 (take 32 ws ∷ drop 32 ws ∷ [])) (i + 1) (at - 32)
  half-second at w v = record {
    list = long-halves;
    within = rw (read-second ls i h 1 (take 32 ws) (drop 32 ws) []) (omega (arith, upper, v));
    room = rw (read-second ls i h 1 (take 32 ws) (drop 32 ws) []) (omega (arith, upper));
    place = position-second ls i h 1 (take 32 ws) (drop 32 ws ∷ []) (at - 32) ∙ omega (arith, lower, w);
    same = joined-same-one ls i h (take 32 ws ∷ drop 32 ws ∷ []) halves;
    balanced = balanced-halves;
  }

  -- where this is needed there are many items
  pub many : 32 * (length ls + 1) ≤ length (joined ls)
  many =
      let t = split-many (take i (lengths ls)) (drop (i + 1) (lengths ls)) (subst (λ n. IsBalanced (take i (lengths ls) ++ (n ∷ drop (i + 1) (lengths ls)))) full one) before after in
      let e = lengths-one ls i h ∙ ap (λ n. take i (lengths ls) ++ (n ∷ drop (i + 1) (lengths ls))) full in
      omega (arith, rw (← e) at t, length-map ls length, total-joined ls)
