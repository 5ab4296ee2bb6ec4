-- Lists of sorted items, cut in one of them.
use Rattle.std.proofs.Common.{◌≡◌, ◌+◌, ◌-◌, ◌≤◌, ◌<◌, ◌++◌, ℕ, List, [], ◌∷◌, Bool, true, false, ap, sym, subst, arith, length, take, drop, get_or, append_assoc, length-append, take-append-drop, ◌∙◌}
use Rattle.std.specs.Prelude.{All, filter, not}
use Rattle.std.specs.List.{HoldsAt}
use Rattle.std.proofs.lemmas.List.{get_or_at, get_or-append-add, length-take-le, length_push}
use Rattle.std.proofs.lemmas.List.Concat.{flat_map-append}
use Rattle.std.proofs.lemmas.List.Elements.{All-append, All-cons, All-nil}
use Rattle.aa_ordered.specs.Balance.{lengths, IsBalanced}
use Rattle.aa_ordered.specs.Ranges.{items_of}
use Rattle.aa_ordered.specs.Ranges.{Begins, IsPrefixTest}
use Rattle.aa_ordered.proofs.Ranging.{Fails, Passes, filter-split, keep-split, passes-before, prefix-left, prefix-right}

-- no list of a map is empty
pub lists-filled : {X : Type 0} (ls : List (List X)) → IsBalanced (lengths ls) → All (λ l. 0 < length l) ls
lists-filled {X} [] b = All-nil (λ (l : List X). 0 < length l)
lists-filled {X} (l ∷ []) b = All-cons (λ (m : List X). 0 < length m) l [] b (All-nil (λ (m : List X). 0 < length m))
lists-filled {X} (l ∷ m ∷ ls) b = All-cons (λ (n : List X). 0 < length n) l (m ∷ ls) b.0 (lists-filled (m ∷ ls) b.2)

-- the list at which lists are cut, and those on either side of it
module _ {L : Type 0} (ls : List L) (n : ℕ) (within : n ≤ length ls) (l : L) where
  pub skipped-is : (rest : List L) → drop (n - 1) ls ≡ l ∷ rest → ls ≡ take (n - 1) ls ++ l ∷ rest
  skipped-is rest e = sym (take-append-drop (n - 1) ls) ∙ ap (λ ms. take (n - 1) ls ++ ms) e

  pub skipped-count : 0 < n → n ≡ length (take (n - 1) ls) + 1
  skipped-count some = let is = length-take-le (n - 1) ls (omega (arith, within)) in omega (arith, some, is)

  pub kept-is : (init : List L) → take n ls ≡ init ++ l ∷ [] → ls ≡ init ++ l ∷ drop n ls
  kept-is init e = sym (take-append-drop n ls) ∙ ap (λ ms. ms ++ drop n ls) e ∙ append_assoc init (l ∷ []) (drop n ls)

  pub kept-count : (init : List L) → take n ls ≡ init ++ l ∷ [] → n ≡ length init + 1
  kept-count init e = sym (length-take-le n ls within) ∙ ap length e ∙ length_push init l

pub none-kept : {L : Type 0} (ls : List L) (n : ℕ) → n ≤ length ls → take n ls ≡ [] → n ≡ 0
none-kept ls n within e = sym (length-take-le n ls within) ∙ ap length e

module _ {X : Type 0} (t : X → Bool) where
  lists-passing : (bs l es : List X) → Begins t true l → IsPrefixTest t (bs ++ (l ++ es)) → All (Passes t) bs
  lists-passing bs [] es b h = absurd b
  lists-passing bs (y ∷ ys) es b h = passes-before t bs y (ys ++ es) h b

  pub lists-failing : (ls : List (List X)) → (0 < length ls → HoldsAt (Begins t false) ls 0) → IsPrefixTest t (items_of ls) → All (Fails t) (items_of ls)
  lists-failing [] f h = All-nil (Fails t)
  lists-failing ([] ∷ ls) f h = absurd (f (omega arith) [])
  lists-failing ((y ∷ ys) ∷ ls) f h = let p : t y ≡ false = f (omega arith) [] in All-cons (Fails t) y (ys ++ items_of ls) p (h.0 p)

  -- where no list begins before the cut, it is in the front
  module _ (front : List X) (ls : List (List X)) where
    pub front-prefix : IsPrefixTest t (front ++ items_of ls) → IsPrefixTest t front
    front-prefix h = prefix-left t front (items_of ls) h

    pub front-alone : (0 < length ls → HoldsAt (Begins t false) ls 0) → IsPrefixTest t (front ++ items_of ls) → (i : ℕ) → All (Passes t) (take i front) → All (Fails t) (drop i front) → take i front ≡ filter t (front ++ items_of ls)
    front-alone f h i a b =
        let es = items_of ls in
        let all = All-append (Fails t) (drop i front) es b (lists-failing ls f (prefix-right t front es h)) in
        sym (ap (λ xs. filter t (xs ++ es)) (sym (take-append-drop i front)) ∙ ap (filter t) (append_assoc (take i front) (drop i front) es) ∙ filter-split t (take i front) (drop i front ++ es) a all)

  module _ (front : List X) (ls init : List (List X)) (l : List X) (rest : List (List X)) (n : ℕ) (is : ls ≡ init ++ l ∷ rest) (count : n ≡ length init + 1) (before : 0 < n → HoldsAt (Begins t true) ls (n - 1)) (after : n < length ls → HoldsAt (Begins t false) ls n) (prefix : IsPrefixTest t (front ++ items_of ls)) where
    whole : front ++ items_of ls ≡ (front ++ items_of init) ++ (l ++ items_of rest)
    whole = ap (λ ms. front ++ items_of ms) is ∙ ap (λ es. front ++ es) (flat_map-append (λ m. m) init (l ∷ rest)) ∙ sym (append_assoc front (items_of init) (l ++ items_of rest))

    parted : IsPrefixTest t ((front ++ items_of init) ++ (l ++ items_of rest))
    parted = subst (IsPrefixTest t) whole prefix

    begins : Begins t true l
    begins =
        let at : length init ≡ n - 1 = omega (arith, count) in
        subst (Begins t true) (ap (λ ms. get_or ms (n - 1) l) is ∙ get_or_at init l rest l (n - 1) at) (before (omega (arith, count)) l)

    ends : 0 < length rest → HoldsAt (Begins t false) rest 0
    ends some d =
        let more : n < length ls = rw is (rw (length-append init (l ∷ rest)) (omega (arith, count, some))) in
        let at : n ≡ length init + 1 = count in
        subst (Begins t false) (ap (λ ms. get_or ms n d) is ∙ ap (λ i. get_or (init ++ l ∷ rest) i d) at ∙ get_or-append-add init (l ∷ rest) 1 d) (after more d)

    passing : All (Passes t) (front ++ items_of init)
    passing = lists-passing (front ++ items_of init) l (items_of rest) begins parted

    failing : All (Fails t) (items_of rest)
    failing = lists-failing rest ends (prefix-right t l (items_of rest) (prefix-right t (front ++ items_of init) (l ++ items_of rest) parted))

    pub inner-prefix : IsPrefixTest t l
    inner-prefix = prefix-left t l (items_of rest) (prefix-right t (front ++ items_of init) (l ++ items_of rest) parted)

    module _ (i : ℕ) (a : All (Passes t) (take i l)) (b : All (Fails t) (drop i l)) where
      halves : front ++ items_of ls ≡ (front ++ items_of init ++ take i l) ++ (drop i l ++ items_of rest)
      halves =
          whole ∙ ap (λ m. (front ++ items_of init) ++ (m ++ items_of rest)) (sym (take-append-drop i l))
          ∙ ap (λ m. (front ++ items_of init) ++ m) (append_assoc (take i l) (drop i l) (items_of rest))
          ∙ sym (append_assoc (front ++ items_of init) (take i l) (drop i l ++ items_of rest))

      low : All (Passes t) (front ++ items_of init ++ take i l)
      low = All-append (Passes t) (front ++ items_of init) (take i l) passing a

      high : All (Fails t) (drop i l ++ items_of rest)
      high = All-append (Fails t) (drop i l) (items_of rest) b failing

      pub cut-before : front ++ items_of init ++ take i l ≡ filter t (front ++ items_of ls)
      cut-before = sym (ap (filter t) halves ∙ filter-split t (front ++ items_of init ++ take i l) (drop i l ++ items_of rest) low high)

      pub cut-after : drop i l ++ items_of rest ≡ filter (λ x. not (t x)) (front ++ items_of ls)
      cut-after = sym (ap (filter (λ x. not (t x))) halves ∙ keep-split t (front ++ items_of init ++ take i l) (drop i l ++ items_of rest) low high)
