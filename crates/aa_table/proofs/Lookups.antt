-- The entry that a look-up finds in a table, by a test that one key and its equals pass.
use Rattle.std.proofs.Common.{Bool, List, None, Option, Some, ap, cond, false, get_or, inl, inr, refl, set, subst, sym, true, ℕ, ◌∙◌, ◌≡◌, ◌≤◌}
use Rattle.std.specs.Map.{lookup, lookup_entry, remove_entry}
use Rattle.std.specs.Option.{option_map}
use Rattle.std.proofs.lemmas.Bool.{cases_Bool}
use Rattle.allocator_api2.specs.Block.{Block}
use Rattle.allocator_api2.specs.Places.{somes}
use Rattle.aa_table.specs.Contents.{keys_with, value, SetsBy}
use Rattle.aa_table.specs.Places.{IsTable, key_at}
use Rattle.aa_table.specs.declared.index.HashIndex.{HashIndex}
use Rattle.aa_table.proofs.Maps.{emptied, gone, value-none, with-none}
use Rattle.aa_table.proofs.Placed.{entry-emptied, entry-read, nowhere, value-of}
use Rattle.aa_table.proofs.Sound.{sets-removed}

module _ {K : Type 0} {eq : K → K → Bool} (test : K → Bool) (like : (x y : K) → test x ≡ true → test y ≡ eq x y) where
  -- the test is that of equality to any key that passes
  pub only : (x : K) → test x ≡ true → test ≡ eq x
  only x passes i y = like x y passes i

  -- it finds what such a key finds
  pub finds : {V : Type 0} (es : List (K × V)) (x : K) → test x ≡ true → lookup test es ≡ value eq es x
  finds es x passes = ap (λ (t : K → Bool). lookup t es) (only x passes)

module _ {K V A : Type 0} {eq : K → K → Bool} {h : K → ℕ} {b : Block (K × V) A} {index : Option (HashIndex A)} {count capacity : ℕ} (t : IsTable eq h b index count capacity)
    (test : K → Bool) (like : (x y : K) → test x ≡ true → test y ≡ eq x y) where
  -- no key of the places passes
  module _ (none : (s : ℕ) → key_at test b.places s ≡ false) where
    pub no-keys : keys_with test (somes b.places) ≡ 0
    no-keys = nowhere test b.places none

    pub no-value : lookup test (somes b.places) ≡ None
    no-value = with-none test (somes b.places) no-keys

    pub none-gone : SetsBy eq test (somes b.places) None (somes b.places)
    none-gone q = elim (cases_Bool (test q)) [
      | inl y ↦ rw y (value-none eq q (somes b.places) (ap (λ (f : K → Bool). keys_with f (somes b.places)) (sym (only test like q y)) ∙ no-keys))
      | inr n ↦ rw n refl
    ]

  -- the key of the entry in a place passes
  module _ (s : ℕ) (e : K × V) (at : get_or b.places s None ≡ Some e) (found : key_at test b.places s ≡ true) where
    pub passes : test e.0 ≡ true
    passes = rw at at found

    pub once : keys_with test (somes b.places) ≤ 1
    once = subst (λ (f : K → Bool). keys_with f (somes b.places) ≤ 1) (sym (only test like e.0 passes)) (t.once e.0)

    pub entry-found : lookup_entry test (somes b.places) ≡ Some e
    entry-found = entry-read test b.places s e at passes once

    pub value-found : lookup test (somes b.places) ≡ Some e.1
    value-found = value-of test (somes b.places) ∙ ap (option_map (λ (x : K × V). x.1)) entry-found

    pub entry-gone : somes (set b.places s None) ≡ remove_entry test (somes b.places)
    entry-gone = entry-emptied test b.places s e at passes once

    pub taken : lookup test (somes (set b.places s None)) ≡ None
    taken =
        let none = gone eq t.keys.equality e.0 e (somes b.places) (somes (set b.places s None)) (emptied b.places s e at) (t.keys.equality.refl e.0) t.once in
        with-none test (somes (set b.places s None)) (ap (λ (f : K → Bool). keys_with f (somes (set b.places s None))) (only test like e.0 passes) ∙ none)

    pub value-gone : SetsBy eq test (somes b.places) None (somes (set b.places s None))
    value-gone q =
        sets-removed t e.0 s e at (t.keys.equality.refl e.0) q
        ∙ ap (λ y. cond y None (value eq (somes b.places) q)) (t.keys.equality.symm q e.0 ∙ sym (like e.0 q passes))
