-- Keys in places, and the index that has their slots.
use Rattle.std.proofs.Common.{Bool, List, None, Option, Some, [], ap, arith, cond, false, get_or, length, refl, set, suc, true, zero, ℕ, ◌+◌, ◌<◌, ◌∙◌, ◌∷◌, ◌≡◌, ◌≢◌, ◌≤◌, ◌==◌}
use Rattle.std.specs.Prelude.{count_by, is_some}
use Rattle.std.specs.Map.{lookup, lookup_entry, remove_entry, set_value}
use Rattle.std.specs.Option.{option_map}
use Rattle.std.proofs.lemmas.Bool.Decides.{nat_tests}
use Rattle.std.proofs.lemmas.List.Sums.{sum_by-cons}
use Rattle.allocator_api2.specs.Places.{somes}
use Rattle.aa_table.specs.Contents.{keys_with}
use Rattle.aa_table.specs.Slots.{tag_at, IsIndex}
use Rattle.aa_table.specs.Places.{AreFree, AreHeld, IsReachable, has_key, hashes_of, key_at}
use Rattle.aa_table.specs.declared.slots.Overflow.{Overflow}
use Rattle.aa_table.proofs.Maps.{with-cons}

module _ {X : Type 0} where
  abbrev pub Held : List ℕ → List (Option X) → Type 0
  Held ts cs = (s : ℕ) → s < length ts → tag_at ts s ≢ 0 → is_some (get_or cs s None) ≡ true

  room : (ts : List ℕ) (cs : List (Option X)) → Held ts cs → length ts ≤ count_by (λ t. t == 0) ts + length (somes cs)
  room [] cs held = omega arith
  room (t ∷ ts) [] held = grind (arith, nat_tests, sum_by-cons (λ (t : ℕ). cond (t == 0) 1 0) t ts, room ts [] (λ s l n. held (suc s) (omega arith) n), held zero (omega arith))
  room (t ∷ ts) (None ∷ cs) held = grind (arith, nat_tests, sum_by-cons (λ (t : ℕ). cond (t == 0) 1 0) t ts, room ts cs (λ s l n. held (suc s) (omega arith) n), held zero (omega arith))
  room (t ∷ ts) (Some x ∷ cs) held = omega (arith, sum_by-cons (λ (t : ℕ). cond (t == 0) 1 0) t ts, room ts cs (λ s l n. held (suc s) (omega arith) n))

  -- a slot is free where there are more slots than values
  pub some-free : (ts : List ℕ) (cs : List (Option X)) → Held ts cs → length (somes cs) < length ts → 0 < count_by (λ t. t == 0) ts
  some-free ts cs held few = omega (arith, room ts cs held, few)

module _ {K V : Type 0} (test : K → Bool) where
  -- the entry in a place whose key passes
  pub record IsEntry (cs : List (Option (K × V))) (s : ℕ) : Type 0 where
    pub entry : K × V
    pub at : get_or cs s None ≡ Some entry
    pub here : test entry.0 ≡ true

  of_has : (o : Option (K × V)) → has_key test o ≡ true → (e : K × V) × (o ≡ Some e) × (test e.0 ≡ true)
  of_has None h = absurd cc
  of_has (Some e) h = (e, refl, h)

  pub entry-at : (cs : List (Option (K × V))) (s : ℕ) → key_at test cs s ≡ true → IsEntry cs s
  entry-at cs s h = let e = of_has (get_or cs s None) h in record { entry = e.0; at = e.1; here = e.2 }

  pub nowhere : (cs : List (Option (K × V))) → ((s : ℕ) → key_at test cs s ≡ false) → keys_with test (somes cs) ≡ 0
  nowhere [] h = refl
  nowhere (None ∷ cs) h = nowhere cs (λ s. h (suc s))
  nowhere (Some e ∷ cs) h = grind (arith, with-cons test e (somes cs), nowhere cs (λ s. h (suc s)), h zero)

  pub somewhere : (cs : List (Option (K × V))) (s : ℕ) (e : K × V) → get_or cs s None ≡ Some e → test e.0 ≡ true → 1 ≤ keys_with test (somes cs)
  somewhere [] s e at t = absurd cc
  somewhere (None ∷ cs) zero e at t = absurd cc
  somewhere (Some x ∷ cs) zero e at t = grind (arith, with-cons test x (somes cs))
  somewhere (None ∷ cs) (suc s) e at t = somewhere cs s e at t
  somewhere (Some x ∷ cs) (suc s) e at t = omega (arith, somewhere cs s e at t, with-cons test x (somes cs))

  -- the place with another value for the key
  pub value-written : (cs : List (Option (K × V))) (s : ℕ) (e : K × V) (v : V) → get_or cs s None ≡ Some e → test e.0 ≡ true → keys_with test (somes cs) ≤ 1
      → somes (set cs s (Some (e.0, v))) ≡ set_value test (somes cs) v
  value-written [] s e v at t c = absurd cc
  value-written (None ∷ cs) zero e v at t c = absurd cc
  value-written (Some x ∷ cs) zero e v at t c = grind arith
  value-written (None ∷ cs) (suc s) e v at t c = value-written cs s e v at t c
  value-written (Some x ∷ cs) (suc s) e v at t c = grind (arith, somewhere cs s e at t, value-written cs s e v at t, with-cons test x (somes cs))

  -- the entry in the place is the one of the key
  pub entry-read : (cs : List (Option (K × V))) (s : ℕ) (e : K × V) → get_or cs s None ≡ Some e → test e.0 ≡ true → keys_with test (somes cs) ≤ 1
      → lookup_entry test (somes cs) ≡ Some e
  entry-read [] s e at t c = absurd cc
  entry-read (None ∷ cs) zero e at t c = absurd cc
  entry-read (Some x ∷ cs) zero e at t c = grind arith
  entry-read (None ∷ cs) (suc s) e at t c = entry-read cs s e at t c
  entry-read (Some x ∷ cs) (suc s) e at t c = grind (arith, somewhere cs s e at t, entry-read cs s e at t, with-cons test x (somes cs))

  -- the place without the entry of the key
  pub entry-emptied : (cs : List (Option (K × V))) (s : ℕ) (e : K × V) → get_or cs s None ≡ Some e → test e.0 ≡ true → keys_with test (somes cs) ≤ 1
      → somes (set cs s None) ≡ remove_entry test (somes cs)
  entry-emptied [] s e at t c = absurd cc
  entry-emptied (None ∷ cs) zero e at t c = absurd cc
  entry-emptied (Some x ∷ cs) zero e at t c = grind arith
  entry-emptied (None ∷ cs) (suc s) e at t c = entry-emptied cs s e at t c
  entry-emptied (Some x ∷ cs) (suc s) e at t c = grind (arith, somewhere cs s e at t, entry-emptied cs s e at t, with-cons test x (somes cs))

  -- a key that is absent has no entry
  pub no-entry : (es : List (K × V)) → keys_with test es ≡ 0 → lookup_entry test es ≡ None
  no-entry [] n = refl
  no-entry (e ∷ es) n = grind (arith, no-entry es, with-cons test e es)

  pub all-others : (es : List (K × V)) → keys_with test es ≡ 0 → remove_entry test es ≡ es
  all-others [] n = refl
  all-others (e ∷ es) n = grind (arith, all-others es, with-cons test e es)

  -- the value of the key is that of its entry
  pub value-of : (es : List (K × V)) → lookup test es ≡ option_map (λ e. e.1) (lookup_entry test es)
  value-of [] = refl
  value-of (e ∷ es) = by (test e.0) (value-of es)
    where
      by : (b : Bool) → lookup test es ≡ option_map (λ e. e.1) (lookup_entry test es) → cond b (Some e.1) (lookup test es) ≡ option_map (λ e. e.1) (cond b (Some e) (lookup_entry test es))
      by true h = refl
      by false h = h

module _ {K V : Type 0} (h : K → ℕ) where
  pub hash-at : (cs : List (Option (K × V))) (s : ℕ) → get_or (hashes_of h cs) s None ≡ option_map (λ (e : K × V). h e.0) (get_or cs s None)
  hash-at [] s = refl
  hash-at (c ∷ cs) zero = refl
  hash-at (c ∷ cs) (suc s) = hash-at cs s

  pub hashes-set : (cs : List (Option (K × V))) (s : ℕ) (o : Option (K × V)) → hashes_of h (set cs s o) ≡ set (hashes_of h cs) s (option_map (λ (e : K × V). h e.0) o)
  hashes-set [] s o = refl
  hashes-set (c ∷ cs) zero o = refl
  hashes-set (c ∷ cs) (suc s) o = ap (λ hs. option_map (λ (e : K × V). h e.0) c ∷ hs) (hashes-set cs s o)

  pub length-hashes : (cs : List (Option (K × V))) → length (hashes_of h cs) ≡ length cs
  length-hashes [] = refl
  length-hashes (c ∷ cs) = ap suc (length-hashes cs)

  module _ {ts : List ℕ} {bs : List Overflow} (cs : List (Option (K × V))) (index : IsIndex ts bs (hashes_of h cs)) where
    pub hash-here : (s : ℕ) (e : K × V) → get_or cs s None ≡ Some e → get_or (hashes_of h cs) s None ≡ Some (h e.0)
    hash-here s e at = rw (hash-at cs s, at) refl

    none-at : (o : Option (K × V)) → option_map (λ (e : K × V). h e.0) o ≢ None → is_some o ≡ true
    none-at None n = absurd (n refl)
    none-at (Some e) n = refl

    pub held : AreHeld ts cs
    held s l n = none-at (get_or cs s None) (λ z. n (index.free s (hash-at cs s ∙ z)))

    free-at : (s : ℕ) (o : Option (K × V)) → get_or cs s None ≡ o → tag_at ts s ≡ 0 → o ≡ None
    free-at s None at z = refl
    free-at s (Some e) at z = absurd (let x = index.reachable s (h e.0) (hash-here s e at) in omega (arith, x.tag, z))

    pub free : AreFree ts cs
    free s z = free-at s (get_or cs s None) refl z

    pub places : length ts ≤ length cs
    places = omega (arith, index.places, length-hashes cs)

    pub reachable : (test : K → Bool) (hash : ℕ) → ((k : K) → test k ≡ true → hash ≡ h k) → IsReachable test ts bs cs hash
    reachable test hash agree s t = let x = entry-at test cs s t in rw (agree x.entry.0 x.here) (index.reachable s (h x.entry.0) (hash-here s x.entry x.at))

  -- no key, no hash
  pub hash-none : (cs : List (Option (K × V))) → ((s : ℕ) → get_or cs s None ≡ None) → (s : ℕ) → get_or (hashes_of h cs) s None ≡ None
  hash-none cs none s = rw (hash-at cs s, none s) refl
