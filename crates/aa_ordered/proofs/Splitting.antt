-- Entries in order, cut at a key, and the part after the cut, which is moved from the last on.
use Rattle.std.proofs.Common.{◌≡◌, ◌+◌, ◌-◌, ◌*◌, ◌≤◌, ◌<◌, ◌++◌, ◌^◌, ℕ, suc, zero, List, [], ◌∷◌, Some, None, All, true, false, arith, length, take, drop, get_or, refl, sym, ap, subst, append_assoc, length-append, length-take-le, take-append-drop, ◌∙◌}
use Rattle.std.specs.Prelude.{slice_get}
use Rattle.std.specs.declared.cmp.Ordering.{Ordering}
use Rattle.std.specs.declared.cmp.Ordering.TheVariants.{Equal}
use Rattle.std.specs.Cmp.{IsTotalOrder}
use Rattle.std.specs.Ordering.{match_ordering}
use Rattle.std.specs.BTreeMap.{insert_entry}
use Rattle.std.proofs.lemmas.List.{take_all, take_more}
use Rattle.std.proofs.lemmas.List.Elements.{All-cons, All-head, All-nil, All-tail}
use Rattle.std.proofs.lemmas.Option.{slice_get_within, slice_get-get_or}
use Rattle.aa_ordered.specs.Balance.{joined, position}
use Rattle.aa_ordered.specs.Entries.{AreGreater, AreLess, IsFound, IsGap, IsOrdered, OrderedView}
use Rattle.aa_ordered.specs.Inside.{view_of}
use Rattle.aa_ordered.specs.Leaves.{LeavesView}
use Rattle.aa_ordered.specs.Ranges.{entries_after, entries_before, is_before}
use Rattle.aa_ordered.proofs.Balance.{at-most}
use Rattle.aa_ordered.proofs.Flat.{joined-split, position-next}
use Rattle.aa_ordered.proofs.Found.{found-tail}
use Rattle.aa_ordered.proofs.Order.{IsAbove, IsBelow, ordered-head, ordered-right, ordered-tail}
use Rattle.aa_ordered.proofs.Ranging.{filter-split, keep-split, Fails, Passes}
use Rattle.aa_ordered.proofs.Reading.{got}

-- the items before a list
module _ {T : Type 0} (ls : List (List T)) (i : ℕ) (h : i < length ls) where
  pub count-next : length (joined (take (i + 1) ls)) ≡ length (joined (take i ls)) + length (get_or ls i [])
  count-next = omega (arith, position-next ls i h 0)

  pub count-small : (room : ℕ) → All (λ l. length l ≤ 64) ls → length ls ≤ room → room * 64 < 2 ^ 64 → length (joined (take i ls)) + length (get_or ls i []) < 2 ^ 64
  count-small room a w r = omega (arith, count-next, ap length (joined-split ls (i + 1)), length-append (joined (take (i + 1) ls)) (joined (drop (i + 1) ls)), at-most ls a, w, r)

module _ {K V : Type 0} (cmp : K → K → Ordering) (k : K) where
  less-pass : (xs : List (K × V)) → AreLess (cmp k) xs → All (Passes (is_before cmp k false)) xs
  less-pass [] a = All-nil (Passes (is_before cmp k false))
  less-pass (x ∷ xs) a = All-cons (Passes (is_before cmp k false)) x xs (ap (λ o. match_ordering o false false true) (All-head (IsBelow (cmp k)) x xs a)) (less-pass xs (All-tail (IsBelow (cmp k)) x xs a))

  greater-fail : (xs : List (K × V)) → AreGreater (cmp k) xs → All (Fails (is_before cmp k false)) xs
  greater-fail [] a = All-nil (Fails (is_before cmp k false))
  greater-fail (x ∷ xs) a = All-cons (Fails (is_before cmp k false)) x xs (ap (λ o. match_ordering o false false true) (All-head (IsAbove (cmp k)) x xs a)) (greater-fail xs (All-tail (IsAbove (cmp k)) x xs a))

  greater-equal : IsTotalOrder cmp → (x : K × V) → cmp k x.0 ≡ Equal → (xs : List (K × V)) → AreGreater (cmp x.0) xs → AreGreater (cmp k) xs
  greater-equal total x e [] a = All-nil (IsAbove (cmp k))
  greater-equal total x e (y ∷ ys) a = All-cons (IsAbove (cmp k)) y ys (total.congr k x.0 y.0 e ∙ All-head (IsAbove (cmp x.0)) y ys a) (greater-equal total x e ys (All-tail (IsAbove (cmp x.0)) y ys a))

  found-fail : IsTotalOrder cmp → (es : List (K × V)) (p : ℕ) → IsFound (cmp k) es p → IsOrdered cmp es → All (Fails (is_before cmp k false)) (drop p es)
  found-fail total [] zero f s = All-nil (Fails (is_before cmp k false))
  found-fail total [] (suc p) f s = All-nil (Fails (is_before cmp k false))
  found-fail total (x ∷ es) zero f s =
      All-cons (Fails (is_before cmp k false)) x es (ap (λ o. match_ordering o false false true) (f.equal x refl)) (greater-fail es (greater-equal total x (f.equal x refl) es (ordered-head cmp x es s)))
  found-fail total (x ∷ es) (suc p) f s = found-fail total es p (found-tail (cmp k) x es p f) (ordered-tail cmp x es s)

  module _ (es : List (K × V)) (p : ℕ) where
    before-is : AreLess (cmp k) (take p es) → All (Fails (is_before cmp k false)) (drop p es) → entries_before cmp k false es ≡ take p es
    before-is a b = ap (entries_before cmp k false) (sym (take-append-drop p es)) ∙ filter-split (is_before cmp k false) (take p es) (drop p es) (less-pass (take p es) a) b

    after-is : AreLess (cmp k) (take p es) → All (Fails (is_before cmp k false)) (drop p es) → entries_after cmp k false es ≡ drop p es
    after-is a b = ap (entries_after cmp k false) (sym (take-append-drop p es)) ∙ keep-split (is_before cmp k false) (take p es) (drop p es) (less-pass (take p es) a) b

    pub gap-before : IsGap (cmp k) es p → entries_before cmp k false es ≡ take p es
    gap-before f = before-is f.before (greater-fail (drop p es) f.after)

    pub gap-after : IsGap (cmp k) es p → entries_after cmp k false es ≡ drop p es
    gap-after f = after-is f.before (greater-fail (drop p es) f.after)

    pub found-before : IsTotalOrder cmp → IsFound (cmp k) es p → IsOrdered cmp es → entries_before cmp k false es ≡ take p es
    found-before total f s = before-is f.before (found-fail total es p f s)

    pub found-after : IsTotalOrder cmp → IsFound (cmp k) es p → IsOrdered cmp es → entries_after cmp k false es ≡ drop p es
    found-after total f s = after-is f.before (found-fail total es p f s)

-- the same of the view of a map
module _ {K V : Type 0} (cmp : K → K → Ordering) (k : K) (leaves : LeavesView (K × V)) (v : OrderedView K V) (is : view_of leaves ≡ v) (n i at : ℕ) (count : n ≡ length (joined (take i leaves.lists))) where
  abbrev es : List (K × V)
  es = joined leaves.lists

  place : position leaves.lists i at ≡ n + at
  place = sym (ap (λ m. m + at) count)

  abbrev BeforeIs : List (K × V) → ℕ → Type 0
  BeforeIs fs p = entries_before cmp k false fs ≡ take p fs

  abbrev AfterIs : List (K × V) → ℕ → Type 0
  AfterIs fs p = entries_after cmp k false fs ≡ drop p fs

  pub view-gap-before : IsGap (cmp k) es (position leaves.lists i at) → entries_before cmp k false v.entries ≡ take (n + at) v.entries
  view-gap-before f = subst (λ (u : OrderedView K V). BeforeIs u.entries (n + at)) is (subst (BeforeIs es) place (gap-before cmp k es (position leaves.lists i at) f))

  pub view-gap-after : IsGap (cmp k) es (position leaves.lists i at) → entries_after cmp k false v.entries ≡ drop (n + at) v.entries
  view-gap-after f = subst (λ (u : OrderedView K V). AfterIs u.entries (n + at)) is (subst (AfterIs es) place (gap-after cmp k es (position leaves.lists i at) f))

  pub view-found-before : IsTotalOrder cmp → IsFound (cmp k) es (position leaves.lists i at) → IsOrdered cmp es → entries_before cmp k false v.entries ≡ take (n + at) v.entries
  view-found-before total f s = subst (λ (u : OrderedView K V). BeforeIs u.entries (n + at)) is (subst (BeforeIs es) place (found-before cmp k es (position leaves.lists i at) total f s))

  pub view-found-after : IsTotalOrder cmp → IsFound (cmp k) es (position leaves.lists i at) → IsOrdered cmp es → entries_after cmp k false v.entries ≡ drop (n + at) v.entries
  view-found-after total f s = subst (λ (u : OrderedView K V). AfterIs u.entries (n + at)) is (subst (AfterIs es) place (found-after cmp k es (position leaves.lists i at) total f s))

pub none-last : {X : Type 0} (xs : List X) → None ≡ slice_get xs (length xs - 1) → length xs ≡ 0
none-last [] h = refl
none-last (x ∷ xs) h = let e = slice_get-get_or (x ∷ xs) (length (x ∷ xs) - 1) x (omega arith) in absurd (cc)

-- the last of some entries is moved before others
module _ {K V : Type 0} (cmp : K → K → Ordering) (xs ys : List (K × V)) (e : K × V) (last : Some e ≡ slice_get xs (length xs - 1)) where
  within : length xs - 1 < length xs
  within = slice_get_within xs (length xs - 1) e (sym last)

  pub last-split : xs ≡ take (length xs - 1) xs ++ e ∷ []
  last-split =
      let n : length xs ≤ length xs - 1 + 1 = omega (arith, within) in
      sym (take_all (length xs - 1 + 1) xs n) ∙ take_more xs (length xs - 1) e within ∙ ap (λ y. take (length xs - 1) xs ++ y ∷ []) (got xs (length xs - 1) e e (sym last))

  pub moved-length : length (take (length xs - 1) xs) + 1 ≡ length xs
  moved-length = let e = length-take-le (length xs - 1) xs (omega (arith, within)) in omega (arith, e, within)

  pub moved-all : take (length xs - 1) xs ++ (e ∷ ys) ≡ xs ++ ys
  moved-all = sym (ap (λ zs. zs ++ ys) last-split ∙ append_assoc (take (length xs - 1) xs) (e ∷ []) ys)

  pub front-inserted : IsOrdered cmp (xs ++ ys) → insert_entry cmp ys e.0 e.1 ≡ e ∷ ys
  front-inserted s =
      let a = ordered-head cmp e ys (ordered-right cmp (take (length xs - 1) xs) (e ∷ ys) (subst (IsOrdered cmp) (sym moved-all) s)) in
      first ys a
    where
      first : (zs : List (K × V)) → AreGreater (cmp e.0) zs → insert_entry cmp zs e.0 e.1 ≡ e ∷ zs
      first [] a = refl
      first (z ∷ zs) a = ap (λ o. match_ordering o (e ∷ z ∷ zs) ((z.0, e.1) ∷ zs) (z ∷ insert_entry cmp zs e.0 e.1)) (All-head (IsAbove (cmp e.0)) z zs a)
