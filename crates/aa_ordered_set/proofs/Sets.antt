-- A set as a map whose keys have no values.
use Rattle.std.proofs.Common.{◌≡◌, ◌≤◌, ◌<◌, ◌++◌, ◌^◌, ◌/◌, ℕ, true, List, [], ◌∷◌, is_some, refl, ap, sym, subst, arith, length, ◌∙◌}
use Rattle.std.specs.Prelude.{max, Err, Ok, OnOk, Result, ⊤}
use Rattle.std.proofs.lemmas.Grind.{fold-append}
use Rattle.std.proofs.lemmas.List.{length-map, map-append}
use Rattle.std.specs.BTreeMap.{insert_entry}
use Rattle.std.specs.BTreeSet.{insert_key}
use Rattle.std.specs.Cmp.{IsTotalOrder}
use Rattle.std.specs.Map.{keys_of}
use Rattle.std.specs.Ordering.{match_ordering}
use Rattle.std.specs.declared.cmp.Ordering.{Ordering}
use Rattle.std.specs.declared.cmp.Ordering.TheVariants.{Less, Equal, Greater}
use Rattle.aa_ordered.specs.Capacity.{resizes_to, MayGrowForOne}
use Rattle.aa_ordered.specs.Entries.{value, OrderedView}
use Rattle.aa_ordered.specs.Iterating.{insert_all, HasCapacity, InsertsAll}
use Rattle.aa_ordered.proofs.Extending.{fits-after, insert-ordered, insert-more, insert-none}
use Rattle.aa_ordered.proofs.Growing.{resizes-few}
use Rattle.aa_ordered.proofs.Resizing.{stays-as}
use Rattle.aa_ordered_set.specs.Sets.{empty, has, insert_keys, map_of, pairs, set_of, InsertsElements, IsAscending, SetView}
use Rattle.aa_ordered_set.proofs.Keys.{count, inserted, member}

-- what follows from success
pub ok-then : {X E P Q : Type 0} (r : Result X E) → (P → Q) → OnOk r P → OnOk r Q
ok-then (Ok x) f p = f p
ok-then (Err e) f p = tt

module _ {T : Type 0} where
  pub paired : (es : List (T × ⊤)) → pairs (keys_of es) ≡ es
  paired [] = refl
  paired (e ∷ es) = ap (λ xs. e ∷ xs) (paired es)

  pub keyed : (xs : List T) → keys_of (pairs xs) ≡ xs
  keyed [] = refl
  keyed (x ∷ xs) = ap (λ ys. x ∷ ys) (keyed xs)

  pub pairs-count : (xs : List T) → length (pairs xs) ≡ length xs
  pairs-count xs = length-map xs (λ x. (x, tt))

  pub back : (m : OrderedView T ⊤) → map_of (set_of m) ≡ m
  back m = λ i. record { entries = paired m.entries i; capacity = m.capacity; resizes = m.resizes }

  -- the map of a set
  pub seen-as : (m : OrderedView T ⊤) (s : SetView T) → set_of m ≡ s → m ≡ map_of s
  seen-as m s is = sym (back m) ∙ ap map_of is

  pub seen-count : (m : OrderedView T ⊤) (s : SetView T) → set_of m ≡ s → length m.entries ≡ length s.elements
  seen-count m s is = sym (count m.entries) ∙ ap (λ (t : SetView T). length t.elements) is

  module _ (cmp : T → T → Ordering) where
    pairs-inserted : (xs : List T) (x : T) → pairs (insert_key cmp xs x) ≡ insert_entry cmp (pairs xs) x tt
    pairs-inserted [] x = refl
    pairs-inserted (y ∷ xs) x = by (cmp x y) (pairs-inserted xs x)
      where
        by : (r : Ordering) → pairs (insert_key cmp xs x) ≡ insert_entry cmp (pairs xs) x tt
            → pairs (match_ordering r (x ∷ y ∷ xs) (y ∷ xs) (y ∷ insert_key cmp xs x)) ≡ match_ordering r ((x, tt) ∷ (y, tt) ∷ pairs xs) ((y, tt) ∷ pairs xs) ((y, tt) ∷ insert_entry cmp (pairs xs) x tt)
        by Less h = refl
        by Equal h = refl
        by Greater h = ap (λ ps. (y, tt) ∷ ps) h

    -- the entries of a map, inserted in turn, as elements of a set
    pub all-inserted : (es fs : List (T × ⊤)) → keys_of (insert_all cmp es fs) ≡ insert_keys cmp (keys_of es) (keys_of fs)
    all-inserted es [] = refl
    all-inserted es (f ∷ fs) = all-inserted (insert_entry cmp es f.0 f.1) fs ∙ ap (λ xs. insert_keys cmp xs (keys_of fs)) (inserted cmp f.0 f.1 es)

    -- elements in order are inserted one after another
    pub in-order : IsTotalOrder cmp → (xs : List T) → IsAscending cmp xs → insert_keys cmp [] xs ≡ xs
    in-order o xs s =
        sym (all-inserted [] (pairs xs) ∙ ap (insert_keys cmp []) (keyed xs))
        ∙ ap keys_of (insert-ordered o [] (pairs xs) (subst (IsAscending cmp) (sym (keyed xs)) s)) ∙ keyed xs

    pub elements-none : (s : SetView T) → InsertsElements cmp s [] s
    elements-none s = record { elements = refl; growth = insert-none cmp (map_of s) }

    module _ (s u w : SetView T) (xs : List T) (x : T) (is : w.elements ≡ insert_key cmp u.elements x) where
      as-entries : pairs w.elements ≡ insert_entry cmp (pairs u.elements) x tt
      as-entries = ap pairs is ∙ pairs-inserted u.elements x

      -- one more element
      pub elements-more : InsertsElements cmp s xs u → (has cmp u.elements x ≡ true → w ≡ u) → (length u.elements < u.capacity → w.capacity ≡ u.capacity)
          → MayGrowForOne (map_of u) (map_of w) → w.resizes ≡ resizes_to (map_of u) w.capacity → InsertsElements cmp s (xs ++ x ∷ []) w
      elements-more a kept room grown moved =
          let test = λ (ys : List T). has cmp ys x in
          let there = λ (h : is_some (value cmp (pairs u.elements) x) ≡ true).
          ap (λ (v : SetView T). v.capacity) (kept (ap test (sym (keyed u.elements)) ∙ sym (member (λ y. _) (pairs u.elements)) ∙ h)) in
          let fits = λ (h : length (pairs u.elements) < u.capacity). room (omega (arith, h, pairs-count u.elements)) in
          record {
            elements = is ∙ ap (λ ys. insert_key cmp ys x) a.elements ∙ sym (fold-append (insert_key cmp) s.elements xs (x ∷ []));
            growth = subst (λ ps. InsertsAll cmp (map_of s) ps (map_of w)) (sym (map-append (λ y. (y, tt)) xs (x ∷ [])))
                (insert-more cmp (map_of s) (map_of u) (map_of w) (pairs xs) (x, tt) a.growth as-entries there fits grown moved);
          }

      -- if m items fit, one fits and then n, which are fewer
      pub elements-fit : (m n : ℕ) → n < m → HasCapacity (map_of u) m → w.capacity ≡ u.capacity → HasCapacity (map_of w) n
      elements-fit m n fewer room same = fits-after cmp x tt (map_of u) (map_of w) m n fewer room as-entries same

    -- how rarely a set grew that was empty
    pub elements-few : (s : SetView T) (xs : List T) → InsertsElements cmp empty xs s → 2 ^ s.resizes ≤ max 2 (length s.elements / 8)
    elements-few s xs a =
        subst (λ n. 2 ^ s.resizes ≤ max 2 (n / 8)) (pairs-count s.elements) (resizes-few s.capacity s.resizes (length (pairs s.elements)) a.growth.few a.growth.most)

  -- a set whose capacity did not change moved to no other blocks
  pub stays : (s u : SetView T) → u.capacity ≡ s.capacity → u.resizes ≡ resizes_to (map_of s) u.capacity → u.resizes ≡ s.resizes
  stays s u same moved = stays-as (map_of s) (map_of u) same moved
