-- The keys of entries, as the elements of a set.
use Rattle.std.proofs.Common.{Bool, false, true, List, Some, [], ap, arith, cond, length, refl, ◌∷◌, ◌≡◌, ◌≤◌}
use Rattle.std.specs.Prelude.{IsPermutation, count_by, filter, find, is_some, map, ◌||◌}
use Rattle.std.specs.List.{list_any}
use Rattle.std.specs.Map.{lookup, lookup_entry, remove_entry, set_value}
use Rattle.std.specs.Option.{option_map}
use Rattle.std.specs.Set.{remove_key}
use Rattle.std.proofs.lemmas.List.Sorted.{IsPermutation-map}
use Rattle.std.proofs.lemmas.List.Sums.{sum_by-cons}
use Rattle.aa_table.specs.Contents.{keys_like, IsMap}
use Rattle.aa_table.specs.SetContents.{AreDistinct}
use Rattle.aa_table.proofs.Maps.{keys-cons}

module _ {T V : Type 0} where
  abbrev keys : List (T × V) → List T
  keys es = map (λ e. e.0) es

  -- another value of a key
  pub same-keys : (test : T → Bool) (es : List (T × V)) (v : V) → map (λ e. e.0) (set_value test es v) ≡ map (λ e. e.0) es
  same-keys test [] v = refl
  same-keys test (e ∷ es) v = by (test e.0) (same-keys test es v)
    where
      by : (b : Bool) → keys (set_value test es v) ≡ keys es → keys (cond b ((e.0, v) ∷ es) (e ∷ set_value test es v)) ≡ e.0 ∷ keys es
      by true h = refl
      by false h = ap (λ xs. e.0 ∷ xs) h

  module _ (test : T → Bool) where
    pub member : (es : List (T × V)) → is_some (lookup test es) ≡ list_any test (map (λ e. e.0) es)
    member [] = refl
    member (e ∷ es) = by (test e.0) (member es)
      where
        by : (b : Bool) → is_some (lookup test es) ≡ list_any test (keys es) → is_some (cond b (Some e.1) (lookup test es)) ≡ (b || list_any test (keys es))
        by true h = refl
        by false h = h

    pub found : (es : List (T × V)) → option_map (λ e. e.0) (lookup_entry test es) ≡ find test (map (λ e. e.0) es)
    found [] = refl
    found (e ∷ es) = by (test e.0) (found es)
      where
        by : (b : Bool) → option_map (λ e. e.0) (lookup_entry test es) ≡ find test (keys es) → option_map (λ e. e.0) (cond b (Some e) (lookup_entry test es)) ≡ cond b (Some e.0) (find test (keys es))
        by true h = refl
        by false h = h

    pub without : (es : List (T × V)) → map (λ e. e.0) (remove_entry test es) ≡ remove_key test (map (λ e. e.0) es)
    without [] = refl
    without (e ∷ es) = by (test e.0) (without es)
      where
        by : (b : Bool) → keys (remove_entry test es) ≡ remove_key test (keys es) → keys (cond b es (e ∷ remove_entry test es)) ≡ cond b (keys es) (e.0 ∷ remove_key test (keys es))
        by true h = refl
        by false h = ap (λ xs. e.0 ∷ xs) h

  module _ (eq : T → T → Bool) where
    counted : (es : List (T × V)) (k : T) → count_by (eq k) (keys es) ≡ keys_like eq k es
    counted [] k = refl
    counted (e ∷ es) k = omega (arith, counted es k, keys-cons eq k e es, sum_by-cons (λ x. cond (eq k x) 1 0) e.0 (keys es))

    pub distinct : (es : List (T × V)) → IsMap eq es → AreDistinct eq (map (λ e. e.0) es)
    distinct es m k = omega (arith, m k, counted es k)

module _ {T V : Type 0} where
  pub permuted : (es fs : List (T × V)) → IsPermutation es fs → IsPermutation (map (λ e. e.0) es) (map (λ e. e.0) fs)
  permuted es fs p = IsPermutation-map (λ (e : T × V). e.0) es fs p

-- a part of a list is no longer
pub fewer : {T : Type 0} (test : T → Bool) (xs : List T) → length (filter test xs) ≤ length xs
fewer test [] = omega arith
fewer test (x ∷ xs) = by (test x) (fewer test xs)
  where
    by : (b : Bool) → length (filter test xs) ≤ length xs → length (cond b (x ∷ filter test xs) (filter test xs)) ≤ length (x ∷ xs)
    by true h = omega (arith, h)
    by false h = omega (arith, h)

pub ruleset elements = (same-keys, member, found, without, distinct, permuted)
