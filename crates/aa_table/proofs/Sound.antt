-- A table remains one: a key is inserted, removed, or replaced by its equal.
use Rattle.std.proofs.Common.{Bool, List, None, Option, Some, [], ap, arith, false, get_or, length, refl, set, subst, suc, sym, true, zero, ℕ, ◌+◌, ◌<◌, ◌∙◌, ◌∷◌, ◌≡◌, ◌≤◌}
use Rattle.std.specs.Prelude.{IsPermutation, is_some, ◌⊎◌, ◌^◌}
use Rattle.std.proofs.lemmas.List.{length-set}
use Rattle.std.proofs.lemmas.List.Sorted.{length_permutation}
use Rattle.allocator_api2.specs.Block.{Block}
use Rattle.allocator_api2.specs.Places.{somes}
use Rattle.std.specs.Map.{set_value}
use Rattle.aa_table.specs.Inside.{view_of}
use Rattle.aa_table.specs.Contents.{TableView, value, keys_like, keys_with, IsMap, Sets}
use Rattle.aa_table.specs.Slots.{IsIndex, IsMemory}
use Rattle.aa_table.specs.Places.{AreFindable, AreFree, AreHeld, AreKeys, IsIndexed, IsTable, hashes_of, key_at, tags_of}
use Rattle.aa_table.specs.Walks.{AreGroups}
use Rattle.aa_table.specs.declared.index.HashIndex.{HashIndex}
use Rattle.aa_table.proofs.Maps.{alike-keys, emptied, filled, gone, map-gone, map-new, map-permuted, sets-gone, sets-new, value-gone, value-none, value-permuted}
use Rattle.aa_table.proofs.Moving.{none-left}
use Rattle.aa_table.proofs.Placed.{entry-at, free, hash-here, hashes-set, held, reachable, nowhere, places, value-written}

module _ {X : Type 0} where
  set-set : (cs : List X) (s : ℕ) (x y : X) → set (set cs s x) s y ≡ set cs s y
  set-set [] s x y = refl
  set-set (c ∷ cs) zero x y = refl
  set-set (c ∷ cs) (suc s) x y = ap (λ ds. c ∷ ds) (set-set cs s x y)

  set-same : (cs : List X) (s : ℕ) (x d : X) → s < length cs → get_or cs s d ≡ x → set cs s x ≡ cs
  set-same [] s x d l e = refl
  set-same (c ∷ cs) zero x d l e = ap (λ y. y ∷ cs) (sym e)
  set-same (c ∷ cs) (suc s) x d l e = ap (λ ds. c ∷ ds) (set-same cs s x d (omega arith) e)

module _ {X : Type 0} where
  get-set : (cs : List (Option X)) (s : ℕ) → get_or (set cs s None) s None ≡ None
  get-set [] s = refl
  get-set (c ∷ cs) zero = refl
  get-set (c ∷ cs) (suc s) = get-set cs s

  some-within : (cs : List (Option X)) (s : ℕ) (x : X) → get_or cs s None ≡ Some x → s < length cs
  some-within [] s x e = absurd cc
  some-within (c ∷ cs) zero x e = omega arith
  some-within (c ∷ cs) (suc s) x e = omega (arith, some-within cs s x e)

  -- one value is replaced by another
  pub swapped-one : (cs : List (Option X)) (s : ℕ) (x y : X) → get_or cs s None ≡ Some x → IsPermutation (y ∷ somes (set cs s None)) (somes (set cs s (Some y)))
  swapped-one cs s x y e =
      subst (λ ds. IsPermutation (y ∷ somes (set cs s None)) (somes ds)) (set-set cs s None (Some y)) (filled (set cs s None) s y (omega (arith, length-set cs s None, some-within cs s x e)) (get-set cs s))

module _ {K V A : Type 0} (eq : K → K → Bool) (h : K → ℕ) where
  held-any : (cs : List (Option (K × V))) (i : Option (HashIndex A)) → IsIndexed eq h i cs → AreHeld (tags_of i) cs
  held-any cs None x = λ s l n. absurd (omega arith)
  held-any cs (Some i) x = held h cs x

  free-any : (cs : List (Option (K × V))) (i : Option (HashIndex A)) → IsIndexed eq h i cs → AreFree (tags_of i) cs
  free-any cs None x = λ s z. x s
  free-any cs (Some i) x = free h cs x

  placed-any : (cs : List (Option (K × V))) (i : Option (HashIndex A)) → IsIndexed eq h i cs → length (tags_of i) ≤ length cs
  placed-any cs None x = omega arith
  placed-any cs (Some i) x = places h cs x

  whole-any : (cs : List (Option (K × V))) (i : Option (HashIndex A)) → IsIndexed eq h i cs → AreGroups (tags_of i)
  whole-any cs None x = refl
  whole-any cs (Some i) x = x.slots.groups

  find-any : (cs : List (Option (K × V))) (i : Option (HashIndex A)) → IsIndexed eq h i cs → (test : K → Bool) (hash : ℕ) → ((k : K) → test k ≡ true → hash ≡ h k) → AreFindable test i cs hash
  find-any cs None x test hash agree = x
  find-any cs (Some i) x test hash agree = record { slots = x.slots; held = held h cs x; reachable = reachable h cs x test hash agree }

module _ {K V A : Type 0} {eq : K → K → Bool} {h : K → ℕ} where
  module _ {b : Block (K × V) A} {index : Option (HashIndex A)} {count capacity : ℕ} (t : IsTable eq h b index count capacity) where
    pub findable-by : (test : K → Bool) (hash : ℕ) → ((k : K) → test k ≡ true → hash ≡ h k) → AreFindable test index b.places hash
    findable-by = find-any eq h b.places index t.indexed

    pub findable : (k : K) (hash : ℕ) → hash ≡ h k → AreFindable (eq k) index b.places hash
    findable k hash e = findable-by (eq k) hash (λ x same. e ∙ t.keys.agree k x same)

    -- each slot with a tag has a key, and no other
    pub all-held : AreHeld (tags_of index) b.places
    all-held = held-any eq h b.places index t.indexed

    pub all-free : AreFree (tags_of index) b.places
    all-free = free-any eq h b.places index t.indexed

    pub all-placed : length (tags_of index) ≤ length b.places
    all-placed = placed-any eq h b.places index t.indexed

    pub all-whole : AreGroups (tags_of index)
    all-whole = whole-any eq h b.places index t.indexed

    pub is-here : (k : K) (s : ℕ) (e : K × V) → get_or b.places s None ≡ Some e → key_at (eq k) b.places s ≡ true → eq k e.0 ≡ true
    is-here k s e at here = rw at at here

    -- a place with the key has its value
    pub read : (k : K) (s : ℕ) (e : K × V) → get_or b.places s None ≡ Some e → key_at (eq k) b.places s ≡ true → value eq (somes b.places) k ≡ Some e.1
    read k s e at here = value-gone eq t.keys.equality k e (somes b.places) (somes (set b.places s None)) (emptied b.places s e at) (is-here k s e at here) t.once

    pub present : (k : K) (s : ℕ) → key_at (eq k) b.places s ≡ true → is_some (value eq (somes b.places) k) ≡ true
    present k s h = let x = entry-at (eq k) b.places s h in ap is_some (read k s x.entry x.at h)

    pub absent-keys : (k : K) → ((s : ℕ) → key_at (eq k) b.places s ≡ false) → keys_like eq k (somes b.places) ≡ 0
    absent-keys k none = nowhere (eq k) b.places none

    pub absent : (k : K) → ((s : ℕ) → key_at (eq k) b.places s ≡ false) → value eq (somes b.places) k ≡ None
    absent k none = value-none eq k (somes b.places) (absent-keys k none)

    -- an entry of the key in the place
    module _ (k : K) (s : ℕ) (e y : K × V) (at : get_or b.places s None ≡ Some e) (here : eq k e.0 ≡ true) (same : eq k y.0 ≡ true) where
      abbrev others : List (K × V)
      others = somes (set b.places s None)

      before : IsPermutation (somes b.places) (e ∷ others)
      before = emptied b.places s e at

      after : IsPermutation (y ∷ others) (somes (set b.places s (Some y)))
      after = swapped-one b.places s e y at

      none-else : keys_like eq k others ≡ 0
      none-else = gone eq t.keys.equality k e (somes b.places) others before here t.once

      none-of-y : keys_like eq y.0 others ≡ 0
      none-of-y = sym (alike-keys eq t.keys.equality k y.0 others same) ∙ none-else

      others-once : IsMap eq others
      others-once = map-gone eq t.keys.equality e (somes b.places) others before t.once

      pub once-written : IsMap eq (somes (set b.places s (Some y)))
      once-written = map-new eq t.keys.equality y.0 y.1 others (somes (set b.places s (Some y))) after none-of-y others-once

      pub as-many : length (somes (set b.places s (Some y))) ≡ length (somes b.places)
      as-many = omega (arith, length_permutation (y ∷ others) (somes (set b.places s (Some y))) after, length_permutation (somes b.places) (e ∷ others) before)

      pub sets-written : Sets eq (somes b.places) k (Some y.1) (somes (set b.places s (Some y)))
      sets-written q =
          let now = sets-new eq t.keys.equality y.0 y.1 others (somes (set b.places s (Some y))) after none-of-y others-once q in
          let then = value-permuted eq (somes b.places) (e ∷ others) before q (t.once q) in
          now ∙ grind (arith, then, t.keys.equality.congr, t.keys.equality.symm)

      hash-same : h y.0 ≡ h e.0
      hash-same = sym (t.keys.agree k y.0 same) ∙ t.keys.agree k e.0 here

      still : (i : Option (HashIndex A)) → IsIndexed eq h i b.places → IsIndexed eq h i (set b.places s (Some y))
      still None x = absurd (let other : None ≡ Some e = sym (x s) ∙ at in cc)
      still (Some i) x =
          let hs = hashes_of h b.places in
          let same : set hs s (Some (h y.0)) ≡ hs = set-same hs s (Some (h y.0)) None (some-within hs s (h e.0) (hash-here h b.places x s e at)) (hash-here h b.places x s e at ∙ ap Some (sym hash-same)) in
          subst (IsIndex i.tags.items i.overflows.items) (sym (hashes-set h b.places s (Some y) ∙ same)) x

      pub written : (new : Block (K × V) A) → new.places ≡ set b.places s (Some y) → IsTable eq h new index count capacity
      written new p = rw p (record {
        keys = t.keys;
        once = once-written;
        indexed = still index t.indexed;
        room = t.room;
        memory = rw (length-set b.places s (Some y)) t.memory;
        counted = t.counted ∙ sym as-many;
        within = t.within;
        small = t.small;
      })

    -- an entry is removed
    module _ (k : K) (s : ℕ) (e : K × V) (at : get_or b.places s None ≡ Some e) (here : eq k e.0 ≡ true) where
      pub without : IsPermutation (somes b.places) (e ∷ somes (set b.places s None))
      without = emptied b.places s e at

      pub sets-removed : Sets eq (somes b.places) k None (somes (set b.places s None))
      sets-removed = sets-gone eq t.keys.equality k e (somes b.places) (somes (set b.places s None)) without here t.once

      pub one-less : length (somes (set b.places s None)) + 1 ≡ length (somes b.places)
      one-less = omega (arith, length_permutation (somes b.places) (e ∷ somes (set b.places s None)) without)

      pub removed : (i j : HashIndex A) (new : Block (K × V) A) (left : ℕ) → new.places ≡ set b.places s None → length j.tags.items ≡ length i.tags.items
          → IsIndex j.tags.items j.overflows.items (set (hashes_of h b.places) s None) → (capacity ≡ 0 ⊎ capacity < length i.tags.items) → IsMemory capacity (length i.tags.items) (length b.places) → left + 1 ≡ count
          → IsTable eq h new (Some j) left capacity
      removed i j new left p slots index room memory less = rw p (record {
        keys = t.keys;
        once = map-gone eq t.keys.equality e (somes b.places) (somes (set b.places s None)) without t.once;
        indexed = subst (IsIndex j.tags.items j.overflows.items) (sym (hashes-set h b.places s None)) index;
        room = rw slots room;
        memory = rw (slots, length-set b.places s None) memory;
        counted = omega (arith, one-less, less, t.counted);
        within = omega (arith, t.within, less);
        small = t.small;
      })

    -- a new entry is inserted
    module _ (e : K × V) (s : ℕ) (l : s < length b.places) (empty : get_or b.places s None ≡ None) (new-key : keys_like eq e.0 (somes b.places) ≡ 0) where
      pub with-one : IsPermutation (e ∷ somes b.places) (somes (set b.places s (Some e)))
      with-one = filled b.places s e l empty

      pub added : (i j : HashIndex A) (new : Block (K × V) A) → new.places ≡ set b.places s (Some e) → length j.tags.items ≡ length i.tags.items
          → IsIndex j.tags.items j.overflows.items (set (hashes_of h b.places) s (Some (h e.0))) → (capacity ≡ 0 ⊎ capacity < length i.tags.items) → IsMemory capacity (length i.tags.items) (length b.places) → count + 1 ≤ capacity
          → IsTable eq h new (Some j) (count + 1) capacity
      added i j new p slots index room memory more = rw p (record {
        keys = t.keys;
        once = map-new eq t.keys.equality e.0 e.1 (somes b.places) (somes (set b.places s (Some e))) with-one new-key t.once;
        indexed = subst (IsIndex j.tags.items j.overflows.items) (sym (hashes-set h b.places s (Some e))) index;
        room = rw slots room;
        memory = rw (slots, length-set b.places s (Some e)) memory;
        counted = omega (arith, t.counted, length_permutation (e ∷ somes b.places) (somes (set b.places s (Some e))) with-one);
        within = more;
        small = t.small;
      })

    -- all entries have other places
    pub moved : (new : Block (K × V) A) (i : Option (HashIndex A)) (room : ℕ) → IsPermutation (somes b.places) (somes new.places) → IsIndexed eq h i new.places → (room ≡ 0 ⊎ room < length (tags_of i)) → IsMemory room (length (tags_of i)) (length new.places) → count ≤ room → room < 2 ^ 32
        → IsTable eq h new i count room
    moved new i room p indexed slots memory within small = record {
      keys = t.keys;
      once = map-permuted eq (somes b.places) (somes new.places) p t.once;
      indexed = indexed;
      room = slots;
      memory = memory;
      counted = omega (arith, t.counted, length_permutation (somes b.places) (somes new.places) p);
      within = within;
      small = small;
    }

module _ {K V A : Type 0} (eq : K → K → Bool) (h : K → ℕ) where
  -- a table without keys
  pub none-in : (keys : AreKeys eq h) (b : Block (K × V) A) (i : Option (HashIndex A)) (capacity : ℕ) → ((s : ℕ) → get_or b.places s None ≡ None) → IsIndexed eq h i b.places → (capacity ≡ 0 ⊎ capacity < length (tags_of i)) → IsMemory capacity (length (tags_of i)) (length b.places) → capacity < 2 ^ 32 → IsTable eq h b i 0 capacity
  none-in keys b i capacity empty indexed room memory small =
      let none : somes b.places ≡ [] = none-left b.places empty in
      record {
        keys = keys;
        once = λ k. rw none (omega arith);
        indexed = indexed;
        room = room;
        memory = memory;
        counted = ap length (sym none);
        within = omega arith;
        small = small;
      }

-- the key that passes has another value
abbrev pub put : {K V S : Type 0} → (K → Bool) → V → TableView K V S → TableView K V S
put test v f = record f { entries = set_value test f.entries v }

-- a table with a value written through a mutable borrow
pub written-filled : {K V S : Type 0} (test : K → Bool) (cs : List (Option (K × V))) (s : ℕ) (e : K × V) (v : V) → get_or cs s None ≡ Some e → test e.0 ≡ true → keys_with test (somes cs) ≤ 1
    → {b : S} {room resizes : ℕ} {f : TableView K V S} → view_of b cs room resizes ≡ f → view_of b (set cs s (Some (e.0, v))) room resizes ≡ put test v f
written-filled test cs s e v at here once {b} {room} {resizes} seen = ap (λ xs. record { entries = xs; capacity = room; resizes = resizes; builder = b }) (value-written test cs s e v at here once) ∙ ap (put test v) seen
