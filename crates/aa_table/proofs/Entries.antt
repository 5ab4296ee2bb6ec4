-- The value that a key of a table is given through its entry.
use Rattle.std.proofs.Common.{Bool, List, None, Option, Some, [], ap, arith, cond, false, get_or, refl, set, suc, sym, true, true≢false, zero, ℕ, ◌∙◌, ◌∷◌, ◌≡◌, ◌≤◌}
use Rattle.std.specs.Prelude.{is_some}
use Rattle.std.specs.Cmp.{IsEquivalence}
use Rattle.std.specs.Map.{set_key, set_value}
use Rattle.std.proofs.lemmas.Map.{lookup-set_value}
use Rattle.allocator_api2.specs.Places.{somes}
use Rattle.aa_table.specs.Contents.{keys_like, value, IsMap, TableView}
use Rattle.aa_table.specs.Entry.{with_value, Puts}
use Rattle.aa_table.specs.InsertLends.{Adds}
use Rattle.aa_table.proofs.Maps.{keys-cons, sets-new, value-none}
use Rattle.aa_table.proofs.Placed.{somewhere}

module _ {K V S : Type 0} {eq : K → K → Bool} (E : IsEquivalence eq) (t : TableView K V S) (k : K) where
  pub puts-written : is_some (value eq t.entries k) ≡ true → (v : V) (u : TableView K V S) → u ≡ with_value eq t k v → Puts eq t k v u
  puts-written some v u e = record {
    sets = λ q. ap (λ (f : TableView K V S). value eq f.entries q) e ∙ lookup-set_value E (eq k) (λ x y h. E.congr k x y h) q v t.entries some
        ∙ ap (λ b. cond b (Some v) (value eq t.entries q)) (E.symm k q);
    written = λ _. e;
    added = λ none. absurd (true≢false (sym some ∙ none));
  }

  pub puts-added : keys_like eq k t.entries ≡ 0 → IsMap eq t.entries → (v : V) (u : TableView K V S) → Adds t k v u → Puts eq t k v u
  puts-added none once v u a = record {
    sets = sets-new eq E k v t.entries u.entries a.entries none once;
    written = λ some. absurd (true≢false (sym some ∙ ap is_some (value-none eq k t.entries none)));
    added = λ _. a;
  }

-- a value that is written twice
pub written-twice : {K V : Type 0} (test : K → Bool) (es : List (K × V)) (v w : V) → set_value test (set_value test es v) w ≡ set_value test es w
written-twice test [] v w = refl
written-twice test (e ∷ es) v w = by (test e.0) refl (written-twice test es v w)
  where
    by : (b : Bool) → test e.0 ≡ b → set_value test (set_value test es v) w ≡ set_value test es w
        → set_value test (cond b ((e.0, v) ∷ es) (e ∷ set_value test es v)) w ≡ cond b ((e.0, w) ∷ es) (e ∷ set_value test es w)
    by true t h = λ i. cond (t i) ((e.0, w) ∷ es) ((e.0, v) ∷ set_value test es w)
    by false f h = (λ i. cond (f i) ((e.0, w) ∷ set_value test es v) (e ∷ set_value test (set_value test es v) w)) ∙ ap (λ xs. e ∷ xs) h

module _ {K V : Type 0} (eq : K → K → Bool) (k : K) where
  -- the place with an equal key
  pub key-written : (cs : List (Option (K × V))) (s : ℕ) (e : K × V) (x : K) → get_or cs s None ≡ Some e → eq k e.0 ≡ true → keys_like eq k (somes cs) ≤ 1
      → somes (set cs s (Some (x, e.1))) ≡ set_key (eq k) (somes cs) x
  key-written [] s e x at t c = absurd cc
  key-written (None ∷ cs) zero e x at t c = absurd cc
  key-written (Some y ∷ cs) zero e x at t c = grind arith
  key-written (None ∷ cs) (suc s) e x at t c = key-written cs s e x at t c
  key-written (Some y ∷ cs) (suc s) e x at t c = grind (arith, somewhere (eq k) cs s e at t, key-written cs s e x at t, keys-cons eq k y (somes cs))

-- a key that has a value has one after another value was written
module _ {K V : Type 0} (eq : K → K → Bool) where
  pub still-there : (es : List (K × V)) (k : K) (v : V) → is_some (value eq es k) ≡ true → is_some (value eq (set_value (eq k) es v) k) ≡ true
  still-there [] k v h = h
  still-there (e ∷ es) k v h = by (eq k e.0) refl h (still-there es k v)
    where
      by : (c : Bool) → eq k e.0 ≡ c → is_some (cond c (Some e.1) (value eq es k)) ≡ true
          → (is_some (value eq es k) ≡ true
          → is_some (value eq (set_value (eq k) es v) k) ≡ true)
          → is_some (value eq (cond c ((e.0, v) ∷ es) (e ∷ set_value (eq k) es v)) k) ≡ true
      by true t h later = λ i. is_some (cond (t i) (Some v) (value eq es k))
      by false f h later =
          (λ i. is_some (cond (f i) (Some e.1) (value eq (set_value (eq k) es v) k))) ∙ later h

  pub value-set : (es : List (K × V)) (k : K) (v : V) → is_some (value eq es k) ≡ true → value eq (set_value (eq k) es v) k ≡ Some v
  value-set [] k v h = absurd (true≢false (sym h))
  value-set (e ∷ es) k v h = by (eq k e.0) refl h (value-set es k v)
    where
      by : (c : Bool) → eq k e.0 ≡ c → is_some (cond c (Some e.1) (value eq es k)) ≡ true → (is_some (value eq es k) ≡ true → value eq (set_value (eq k) es v) k ≡ Some v)
          → value eq (cond c ((e.0, v) ∷ es) (e ∷ set_value (eq k) es v)) k ≡ Some v
      by true t h later = λ i. cond (t i) (Some v) (value eq es k)
      by false f h later = (λ i. cond (f i) (Some e.1) (value eq (set_value (eq k) es v) k)) ∙ later h
