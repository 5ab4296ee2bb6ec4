-- The keys of entries, as the elements of a set.
use Rattle.std.proofs.Common.{Bool, false, true, true≢false, ℕ, zero, suc, List, Some, [], ap, cond, drop, length, refl, subst, sym, take, ◌∙◌, ◌∷◌, ◌≡◌}
use Rattle.std.specs.Prelude.{filter, find, is_some, not, slice_get, ◌||◌}
use Rattle.std.specs.Cmp.{IsTotalOrder}
use Rattle.std.specs.List.{AllByRecursion, AllZip}
use Rattle.std.specs.List.Sorted.{IsStrictlySortedBy}
use Rattle.std.specs.Ordering.{eq_by_cmp, is_eq, is_gt}
use Rattle.std_collections.proofs.SetLists.{All-map, any_none}
use Rattle.aa_ordered.specs.Ranges.{entries_after, entries_before, is_before}
use Rattle.aa_ordered_set.specs.Sets.{less, not_less}
use Rattle.std.specs.BTreeMap.{insert_entry}
use Rattle.std.specs.BTreeSet.{insert_key, replace_key}
use Rattle.std.specs.List.{list_any}
use Rattle.std.specs.Map.{keys_of, lookup, lookup_entry, remove_entry}
use Rattle.std.specs.Option.{option_map}
use Rattle.std.specs.Ordering.{match_ordering}
use Rattle.std.specs.Set.{is_member, remove_key}
use Rattle.std.specs.declared.cmp.Ordering.{Ordering}
use Rattle.std.specs.declared.cmp.Ordering.TheVariants.{Less, Equal, Greater}

module _ {T V : Type 0} where
  pub count : (es : List (T × V)) → length (keys_of es) ≡ length es
  count [] = refl
  count (e ∷ es) = ap suc (count es)

  pub none : (es : List (T × V)) → keys_of es ≡ [] → es ≡ []
  none [] h = refl
  none (e ∷ es) h = absurd (cc)

  pub at : (es : List (T × V)) (i : ℕ) → option_map (λ e. e.0) (slice_get es i) ≡ slice_get (keys_of es) i
  at [] i = refl
  at (e ∷ es) zero = refl
  at (e ∷ es) (suc i) = at es i

  pub dropped : (n : ℕ) (es : List (T × V)) → keys_of (drop n es) ≡ drop n (keys_of es)
  dropped zero es = refl
  dropped (suc n) [] = refl
  dropped (suc n) (e ∷ es) = dropped n es

  pub taken : (n : ℕ) (es : List (T × V)) → keys_of (take n es) ≡ take n (keys_of es)
  taken zero es = refl
  taken (suc n) [] = refl
  taken (suc n) (e ∷ es) = ap (λ xs. e.0 ∷ xs) (taken n es)

  module _ (test : T → Bool) where
    pub member : (es : List (T × V)) → is_some (lookup test es) ≡ list_any test (keys_of es)
    member [] = refl
    member (e ∷ es) = by (test e.0) (member es)
      where
        by : (b : Bool) → is_some (lookup test es) ≡ list_any test (keys_of es) → is_some (cond b (Some e.1) (lookup test es)) ≡ (b || list_any test (keys_of es))
        by true h = refl
        by false h = h

    pub found : (es : List (T × V)) → option_map (λ e. e.0) (lookup_entry test es) ≡ find test (keys_of es)
    found [] = refl
    found (e ∷ es) = by (test e.0) (found es)
      where
        by : (b : Bool) → option_map (λ e. e.0) (lookup_entry test es) ≡ find test (keys_of es) → option_map (λ e. e.0) (cond b (Some e) (lookup_entry test es)) ≡ cond b (Some e.0) (find test (keys_of es))
        by true h = refl
        by false h = h

    pub without : (es : List (T × V)) → keys_of (remove_entry test es) ≡ remove_key test (keys_of es)
    without [] = refl
    without (e ∷ es) = by (test e.0) (without es)
      where
        by : (b : Bool) → keys_of (remove_entry test es) ≡ remove_key test (keys_of es) → keys_of (cond b es (e ∷ remove_entry test es)) ≡ cond b (keys_of es) (e.0 ∷ remove_key test (keys_of es))
        by true h = refl
        by false h = ap (λ xs. e.0 ∷ xs) h

    pub kept : (es : List (T × V)) → keys_of (filter (λ e. test e.0) es) ≡ filter test (keys_of es)
    kept [] = refl
    kept (e ∷ es) = by (test e.0) (kept es)
      where
        by : (b : Bool) → keys_of (filter (λ e. test e.0) es) ≡ filter test (keys_of es) → keys_of (cond b (e ∷ filter (λ e. test e.0) es) (filter (λ e. test e.0) es)) ≡ cond b (e.0 ∷ filter test (keys_of es)) (filter test (keys_of es))
        by true h = ap (λ xs. e.0 ∷ xs) h
        by false h = h

  module _ (cmp : T → T → Ordering) (k : T) (v : V) where
    pub inserted : (es : List (T × V)) → keys_of (insert_entry cmp es k v) ≡ insert_key cmp (keys_of es) k
    inserted [] = refl
    inserted (e ∷ es) = by (cmp k e.0) (inserted es)
      where
        by : (r : Ordering) → keys_of (insert_entry cmp es k v) ≡ insert_key cmp (keys_of es) k
            → keys_of (match_ordering r ((k, v) ∷ e ∷ es) ((e.0, v) ∷ es) (e ∷ insert_entry cmp es k v)) ≡ match_ordering r (k ∷ e.0 ∷ keys_of es) (e.0 ∷ keys_of es) (e.0 ∷ insert_key cmp (keys_of es) k)
        by Less h = refl
        by Equal h = refl
        by Greater h = ap (λ xs. e.0 ∷ xs) h

-- parts of the entries, by a test of the keys
module _ {T V : Type 0} (test : T × V → Bool) (other : T → Bool) (alike : (e : T × V) → test e ≡ other e.0) where
  part : (es : List (T × V)) → keys_of (filter test es) ≡ filter other (keys_of es)
  part [] = refl
  part (e ∷ es) = by (test e) (other e.0) (alike e) (part es)
    where
      by : (b c : Bool) → b ≡ c → keys_of (filter test es) ≡ filter other (keys_of es) → keys_of (cond b (e ∷ filter test es) (filter test es)) ≡ cond c (e.0 ∷ filter other (keys_of es)) (filter other (keys_of es))
      by true c is h = subst (λ d. e.0 ∷ keys_of (filter test es) ≡ cond d (e.0 ∷ filter other (keys_of es)) (filter other (keys_of es))) is (ap (λ xs. e.0 ∷ xs) h)
      by false c is h = subst (λ d. keys_of (filter test es) ≡ cond d (e.0 ∷ filter other (keys_of es)) (filter other (keys_of es))) is h

greater : (r : Ordering) → match_ordering r false false true ≡ is_gt r
greater Less = refl
greater Equal = refl
greater Greater = refl

module _ {T V : Type 0} (cmp : T → T → Ordering) (k : T) where
  -- the entries before the key and those from it on
  pub before : (es : List (T × V)) → keys_of (entries_before cmp k false es) ≡ less cmp (keys_of es) k
  before es = part (is_before cmp k false) (λ y. is_gt (cmp k y)) (λ e. greater (cmp k e.0)) es

  pub after : (es : List (T × V)) → keys_of (entries_after cmp k false es) ≡ not_less cmp (keys_of es) k
  after es = part (λ e. not (is_before cmp k false e)) (λ y. not (is_gt (cmp k y))) (λ e. ap not (greater (cmp k e.0))) es

module _ {T : Type 0} {cmp : T → T → Ordering} (o : IsTotalOrder cmp) (k : T) where
  -- an element that is present is not inserted
  pub there : (xs : List T) → IsStrictlySortedBy cmp xs → is_member (eq_by_cmp cmp) xs k ≡ true → insert_key cmp xs k ≡ xs
  unfolding IsStrictlySortedBy
  there [] s h = absurd (cc)
  there (x ∷ xs) s h = by (there xs s.1) (cmp k x) refl h
    where
      by : (is_member (eq_by_cmp cmp) xs k ≡ true → insert_key cmp xs k ≡ xs) → (r : Ordering) → cmp k x ≡ r → (is_eq r || is_member (eq_by_cmp cmp) xs k) ≡ true → match_ordering r (k ∷ x ∷ xs) (x ∷ xs) (x ∷ insert_key cmp xs k) ≡ x ∷ xs
      by rest Less l m = absurd (true≢false (sym m ∙ any_none (eq_by_cmp cmp k) xs (All-map (λ z. cmp x z ≡ Less) (λ z. eq_by_cmp cmp k z ≡ false) (λ z b. ap is_eq (o.trans k x z l b)) xs s.0)))
      by rest Equal l m = refl
      by rest Greater l m = ap (λ ys. x ∷ ys) (rest m)

  -- it is replaced where it is taken out
  pub swapped : (xs : List T) → IsStrictlySortedBy cmp xs → is_member (eq_by_cmp cmp) xs k ≡ true → insert_key cmp (remove_key (eq_by_cmp cmp k) xs) k ≡ replace_key cmp xs k
  unfolding IsStrictlySortedBy
  swapped [] s h = absurd (cc)
  swapped (x ∷ xs) s h = by (swapped xs s.1) (cmp k x) refl h
    where
      first : (ys : List T) → AllByRecursion (λ z. cmp k z ≡ Less) ys → insert_key cmp ys k ≡ k ∷ ys
      first [] a = refl
      first (y ∷ ys) a = ap (λ r. match_ordering r (k ∷ y ∷ ys) (y ∷ ys) (y ∷ insert_key cmp ys k)) a.0

      by : (is_member (eq_by_cmp cmp) xs k ≡ true → insert_key cmp (remove_key (eq_by_cmp cmp k) xs) k ≡ replace_key cmp xs k)
          → (r : Ordering) → cmp k x ≡ r → (is_eq r || is_member (eq_by_cmp cmp) xs k) ≡ true
          → insert_key cmp (cond (is_eq r) xs (x ∷ remove_key (eq_by_cmp cmp k) xs)) k ≡ match_ordering r (k ∷ x ∷ xs) (k ∷ xs) (x ∷ replace_key cmp xs k)
      by rest Less l m = absurd (true≢false (sym m ∙ any_none (eq_by_cmp cmp k) xs (All-map (λ z. cmp x z ≡ Less) (λ z. eq_by_cmp cmp k z ≡ false) (λ z b. ap is_eq (o.trans k x z l b)) xs s.0)))
      by rest Equal l m = first xs (All-map (λ z. cmp x z ≡ Less) (λ z. cmp k z ≡ Less) (λ z b. o.congr k x z l ∙ b) xs s.0)
      by rest Greater l m = ap (λ r. match_ordering r (k ∷ x ∷ remove_key (eq_by_cmp cmp k) xs) (x ∷ remove_key (eq_by_cmp cmp k) xs) (x ∷ insert_key cmp (remove_key (eq_by_cmp cmp k) xs) k)) l
          ∙ ap (λ ys. x ∷ ys) (rest m)

-- clones of entries, as those of their keys
module _ {T V : Type 0} (C : T → T → Type 0) (D : V → V → Type 0) where
  pub first-clones : (es fs : List (T × V)) → AllZip (λ e f. C e.0 f.0 × D e.1 f.1) es fs → AllZip C (keys_of es) (keys_of fs)
  first-clones [] [] h = tt
  first-clones [] (f ∷ fs) h = h
  first-clones (e ∷ es) [] h = h
  first-clones (e ∷ es) (f ∷ fs) h = (h.0.0, first-clones es fs h.1)

pub ruleset keys = (count, none, at, dropped, taken, member, found, without, kept, inserted)
