-- A filter of a sorted list by a bound is a part of it.
use Rattle.std.proofs.Common.{◌-◌, add-one, take-append-drop, ◌≡◌, ◌+◌, ◌≤◌, ◌<◌, ◌++◌, ℕ, suc, zero, List, [], ◌∷◌, Bool, true, false, refl, ap, sym, subst, arith, length, take, drop, get_or, append-nil, true≢false, ◌∙◌}
use Rattle.std.specs.Prelude.{All, filter, not, cond, ◌&&◌}
use Rattle.std.specs.Cmp.{IsTotalOrder}
use Rattle.std.specs.List.{AllByRecursion, HoldsAt}
use Rattle.std.specs.List.Sorted.{IsStrictlySortedBy}
use Rattle.std.specs.Map.{keys_of}
use Rattle.std.specs.BTreeMap.Range.{is_from_start, is_past_end}
use Rattle.std.specs.Ordering.{is_le, is_lt, match_ordering}
use Rattle.std.specs.declared.ops.Bound.TheVariants.{Excluded, Included}
use Rattle.std.specs.declared.cmp.Ordering.{Ordering}
use Rattle.std.specs.declared.cmp.Ordering.TheVariants.{Less, Equal, Greater}
use Rattle.std.proofs.lemmas.List.Elements.{All-cons, All-head, All-tail, All-more, All-nil, filter-append, filter_agree}
use Rattle.std.proofs.lemmas.List.{drop_more}
use Rattle.aa_ordered.specs.Ranges.{entries_after, entries_before, is_before, IsPrefixTest}

module _ {X : Type 0} (t : X → Bool) where
  abbrev pub Passes : X → Type 0
  Passes x = t x ≡ true

  abbrev pub Fails : X → Type 0
  Fails x = t x ≡ false

  both : {A : Type 0} (b : Bool) → b ≡ true → b ≡ false → A
  both b p q = absurd (true≢false (sym p ∙ q))

  All-left : (P : X → Type 0) (xs ys : List X) → All P (xs ++ ys) → All P xs
  All-left P [] ys a = All-nil P
  All-left P (x ∷ xs) ys a = All-cons P x xs (All-head P x (xs ++ ys) a) (All-left P xs ys (All-tail P x (xs ++ ys) a))

  pub All-right : (P : X → Type 0) (xs ys : List X) → All P (xs ++ ys) → All P ys
  All-right P [] ys a = a
  All-right P (x ∷ xs) ys a = All-right P xs ys (All-tail P x (xs ++ ys) a)

  -- all items before one that passes pass, and all after one that fails fail
  pub passes-before : (xs : List X) (y : X) (ys : List X) → IsPrefixTest t (xs ++ y ∷ ys) → t y ≡ true → All Passes xs
  passes-before [] y ys h p = All-nil Passes
  passes-before (x ∷ xs) y ys h p = All-cons Passes x xs (by (t x) refl) (passes-before xs y ys h.1 p)
    where
      by : (b : Bool) → t x ≡ b → t x ≡ true
      by true e = e
      by false e = both (t y) p (All-head Fails y ys (All-right Fails xs (y ∷ ys) (h.0 e)))

  pub fails-after : (xs : List X) (y : X) (ys : List X) → IsPrefixTest t (xs ++ y ∷ ys) → t y ≡ false → All Fails ys
  fails-after [] y ys h p = h.0 p
  fails-after (x ∷ xs) y ys h p = fails-after xs y ys h.1 p

  pub prefix-right : (xs ys : List X) → IsPrefixTest t (xs ++ ys) → IsPrefixTest t ys
  prefix-right [] ys h = h
  prefix-right (x ∷ xs) ys h = prefix-right xs ys h.1

  pub prefix-left : (xs ys : List X) → IsPrefixTest t (xs ++ ys) → IsPrefixTest t xs
  prefix-left [] ys h = tt
  prefix-left (x ∷ xs) ys h = (λ e. All-left Fails xs ys (h.0 e), prefix-left xs ys h.1)

  -- a filter of items that all pass, or all fail
  pub filter-all : (xs : List X) → All Passes xs → filter t xs ≡ xs
  filter-all [] a = refl
  filter-all (x ∷ xs) a = let p = All-head Passes x xs a in rw p (ap (λ ys. x ∷ ys) (filter-all xs (All-tail Passes x xs a)))

  pub filter-none : (xs : List X) → All Fails xs → filter t xs ≡ []
  filter-none [] a = refl
  filter-none (x ∷ xs) a = let p = All-head Fails x xs a in rw p (filter-none xs (All-tail Fails x xs a))

  pub keep-all : (xs : List X) → All Fails xs → filter (λ x. not (t x)) xs ≡ xs
  keep-all [] a = refl
  keep-all (x ∷ xs) a = let p = All-head Fails x xs a in rw p (ap (λ ys. x ∷ ys) (keep-all xs (All-tail Fails x xs a)))

  pub keep-none : (xs : List X) → All Passes xs → filter (λ x. not (t x)) xs ≡ []
  keep-none [] a = refl
  keep-none (x ∷ xs) a = let p = All-head Passes x xs a in rw p (keep-none xs (All-tail Passes x xs a))

  -- where all pass up to a place and all fail from it on, a filter is one of the two parts
  pub filter-split : (xs ys : List X) → All Passes xs → All Fails ys → filter t (xs ++ ys) ≡ xs
  filter-split xs ys a b = filter-append t xs ys ∙ (λ i. filter-all xs a i ++ filter-none ys b i) ∙ append-nil xs

  pub keep-split : (xs ys : List X) → All Passes xs → All Fails ys → filter (λ x. not (t x)) (xs ++ ys) ≡ ys
  keep-split xs ys a b = filter-append (λ x. not (t x)) xs ys ∙ (λ i. keep-none xs a i ++ keep-all ys b i)

-- a filter of a filter
module _ {X : Type 0} (s t : X → Bool) where
  pub filter-filter : (xs : List X) → filter t (filter s xs) ≡ filter (λ x. s x && t x) xs
  filter-filter [] = refl
  filter-filter (x ∷ xs) = by (s x) refl (filter-filter xs)
    where
      by : (b : Bool) → s x ≡ b → filter t (filter s xs) ≡ filter (λ y. s y && t y) xs → filter t (cond b (x ∷ filter s xs) (filter s xs)) ≡ filter (λ y. s y && t y) (x ∷ xs)
      by true e r = rw e (ap (λ ys. cond (t x) (x ∷ ys) ys) r)
      by false e r = rw e r

-- a cut at a key is a prefix test of the entries of a map
module _ {K V : Type 0} {cmp : K → K → Ordering} (o : IsTotalOrder cmp) (k : K) where
  later : (after : Bool) (x y : K × V) → cmp x.0 y.0 ≡ Less → is_before cmp k after x ≡ false → is_before cmp k after y ≡ false
  later after x y l h = by (cmp k x.0) refl
    where
      by : (r : Ordering) → cmp k x.0 ≡ r → is_before cmp k after y ≡ false
      by Less e = ap (λ r. match_ordering r false after true) (o.trans k x.0 y.0 e l)
      by Equal e = ap (λ r. match_ordering r false after true) (o.congr k x.0 y.0 e ∙ l)
      by Greater e = absurd (true≢false (ap (λ r. match_ordering r false after true) (sym e) ∙ h))

  all-later : (after : Bool) (x : K × V) (es : List (K × V)) → AllByRecursion (λ q. cmp x.0 q ≡ Less) (keys_of es) → is_before cmp k after x ≡ false → All (λ y. is_before cmp k after y ≡ false) es
  all-later after x [] a h = All-nil (λ y. is_before cmp k after y ≡ false)
  all-later after x (y ∷ es) a h = All-cons (λ z. is_before cmp k after z ≡ false) y es (later after x y a.0 h) (all-later after x es a.1 h)

  pub cut-prefix : (after : Bool) (es : List (K × V)) → IsStrictlySortedBy cmp (keys_of es) → IsPrefixTest (is_before cmp k after) es
  unfolding IsStrictlySortedBy
  cut-prefix after [] s = tt
  cut-prefix after (x ∷ es) s = (all-later after x es s.0, cut-prefix after es s.1)

-- what a search for the cut finds
module _ {X : Type 0} (t : X → Bool) where
  begins : (b : Bool) (xs : List X) (i : ℕ) → i < length xs → HoldsAt (λ x. t x ≡ b) xs i → (d : X) → t (get_or xs i d) ≡ b
  begins b xs i l h d = h d

  -- an item at a place stands between those before it and those after it
  at-place : (xs : List X) (i : ℕ) (d : X) → i < length xs → xs ≡ take i xs ++ get_or xs i d ∷ drop (i + 1) xs
  at-place xs i d l = sym (take-append-drop i xs) ∙ ap (λ ys. take i xs ++ ys) (drop_more xs i d l)

  pub all-before : (xs : List X) (i : ℕ) → i ≤ length xs → IsPrefixTest t xs → (0 < i → HoldsAt (λ x. t x ≡ true) xs (i - 1)) → All (Passes t) (take i xs)
  all-before xs zero l h f = All-nil (Passes t)
  all-before [] (suc i) l h f = All-nil (Passes t)
  all-before (x ∷ xs) (suc i) l h f =
      let at : suc i - 1 ≡ i = omega arith in
      let p : t (get_or (x ∷ xs) i x) ≡ true = rw at at (f (omega arith) x) in
      let before = passes-before t (take i (x ∷ xs)) (get_or (x ∷ xs) i x) (drop (i + 1) (x ∷ xs)) (subst (IsPrefixTest t) (at-place (x ∷ xs) i x (omega (arith, l))) h) p in
      subst (λ n. All (Passes t) (take n (x ∷ xs))) (add-one i) (All-more (Passes t) (x ∷ xs) i x (omega (arith, l)) before p)

  pub all-after : (xs : List X) (i : ℕ) → IsPrefixTest t xs → (i < length xs → HoldsAt (λ x. t x ≡ false) xs i) → All (Fails t) (drop i xs)
  all-after [] zero h f = All-nil (Fails t)
  all-after [] (suc i) h f = All-nil (Fails t)
  all-after (x ∷ xs) zero h f = let p : t x ≡ false = f (omega arith) x in All-cons (Fails t) x xs p (h.0 p)
  all-after (x ∷ xs) (suc i) h f = all-after xs i h.1 (λ l d. f (omega (arith, l)) d)

-- the entries of a map that pass a test are sorted
module _ {K V : Type 0} (cmp : K → K → Ordering) (t : K × V → Bool) where
  above-kept : (k : K) (es : List (K × V)) → AllByRecursion (λ q. cmp k q ≡ Less) (keys_of es) → AllByRecursion (λ q. cmp k q ≡ Less) (keys_of (filter t es))
  above-kept k [] a = tt
  above-kept k (e ∷ es) a = by (t e) (above-kept k es a.1)
    where
      by : (b : Bool) → AllByRecursion (λ q. cmp k q ≡ Less) (keys_of (filter t es)) → AllByRecursion (λ q. cmp k q ≡ Less) (keys_of (cond b (e ∷ filter t es) (filter t es)))
      by true r = (a.0, r)
      by false r = r

  pub sorted-kept : (es : List (K × V)) → IsStrictlySortedBy cmp (keys_of es) → IsStrictlySortedBy cmp (keys_of (filter t es))
  unfolding IsStrictlySortedBy
  sorted-kept [] s = tt
  sorted-kept (e ∷ es) s = by (t e) (above-kept e.0 es s.0) (sorted-kept es s.1)
    where
      by : (b : Bool) → AllByRecursion (λ q. cmp e.0 q ≡ Less) (keys_of (filter t es)) → IsStrictlySortedBy cmp (keys_of (filter t es)) → IsStrictlySortedBy cmp (keys_of (cond b (e ∷ filter t es) (filter t es)))
      by true a r = (a, r)
      by false a r = r

-- a cut is a bound of a range
not-before : (r : Ordering) → not (match_ordering r false false true) ≡ is_le r
not-before Less = refl
not-before Equal = refl
not-before Greater = refl

not-upto : (r : Ordering) → not (match_ordering r false true true) ≡ is_lt r
not-upto Less = refl
not-upto Equal = refl
not-upto Greater = refl

upto : (r : Ordering) → match_ordering r false true true ≡ not (is_lt r)
upto Less = refl
upto Equal = refl
upto Greater = refl

before : (r : Ordering) → match_ordering r false false true ≡ not (is_le r)
before Less = refl
before Equal = refl
before Greater = refl

module _ {K V : Type 0} (cmp : K → K → Ordering) (k : K) where
  pub from-included : (es : List (K × V)) → entries_after cmp k false es ≡ filter (λ e. is_from_start cmp (Included k) e.0) es
  from-included es = filter_agree (λ e. not (is_before cmp k false e)) (λ e. is_from_start cmp (Included k) e.0) (λ e. not-before (cmp k e.0)) es

  pub from-excluded : (es : List (K × V)) → entries_after cmp k true es ≡ filter (λ e. is_from_start cmp (Excluded k) e.0) es
  from-excluded es = filter_agree (λ e. not (is_before cmp k true e)) (λ e. is_from_start cmp (Excluded k) e.0) (λ e. not-upto (cmp k e.0)) es

  pub to-included : (es : List (K × V)) → entries_before cmp k true es ≡ filter (λ e. not (is_past_end cmp (Included k) e.0)) es
  to-included es = filter_agree (is_before cmp k true) (λ e. not (is_past_end cmp (Included k) e.0)) (λ e. upto (cmp k e.0)) es

  pub to-excluded : (es : List (K × V)) → entries_before cmp k false es ≡ filter (λ e. not (is_past_end cmp (Excluded k) e.0)) es
  to-excluded es = filter_agree (is_before cmp k false) (λ e. not (is_past_end cmp (Excluded k) e.0)) (λ e. before (cmp k e.0)) es

-- where nothing is cut, all items pass
pub filter-true : {X : Type 0} (xs : List X) → xs ≡ filter (λ _. true) xs
filter-true [] = refl
filter-true (x ∷ xs) = ap (λ ys. x ∷ ys) (filter-true xs)
