-- Entries that are inserted one by one.
use Rattle.std.proofs.Common.{Bool, List, Some, [], ap, arith, cond, false, inl, inr, length, refl, subst, sym, true, ℕ, ◌+◌, ◌-◌, ◌++◌, ◌<◌, ◌∙◌, ◌∷◌, ◌≡◌}
use Rattle.std.specs.Prelude.{max, nat_le, ◌*◌, ◌^◌, ◌≤◌, ◌⊎◌}
use Rattle.std.proofs.Math.Nat.{mul_assoc, pow-succ'}
use Rattle.std.proofs.lemmas.Bool.{cases_Bool}
use Rattle.std.proofs.lemmas.Bool.Decides.{nat_tests}
use Rattle.std.proofs.lemmas.List.{reverse-append}
use Rattle.aa_table.specs.Contents.{TableView, capacity_for, empty, fresh_capacity, fresh_resizes, least_growth, reserved_capacity, reserved_resizes, resizes_for, value, GrowsInTurn, HasRoom, InsertsAll, Sets, SetsAll}

-- one more doubling
more-pow : (k : ℕ) → 2 ^ (k + 1) ≡ 2 * 2 ^ k
more-pow k = ap (λ i. 2 ^ i) (omega arith) ∙ pow-succ' 2 k

few-step : (k x y z : ℕ) → 2 ^ k * x ≤ y → 2 * y ≤ z → 2 ^ (k + 1) * x ≤ z
few-step k x y z h d =
    let e = ap (λ i. i * x) (more-pow k) ∙ mul_assoc 2 (2 ^ k) x in omega (arith, e, h, d)

grown-twice : (d n e : ℕ) → e ≡ max (max (2 * d) (n + 1)) 14 → 2 * least_growth d ≤ least_growth e
grown-twice d n e is = omega (arith, is)

-- nothing has grown yet
pub grows-none : (c r n : ℕ) → GrowsInTurn c r c r n
grows-none c r n =
    let none : r - r ≡ 0 = omega arith in
    record {
      capacity = omega arith;
      steady = λ _. refl;
      most = omega arith;
      resizes = omega arith;
      few = rw none (omega arith);
    }

-- one more key was inserted, or its entry was there
module _ (c r d s n e q m : ℕ) (a : GrowsInTurn c r d s n) where
  stays-grown : e ≡ d → q ≡ s → n ≤ m → GrowsInTurn c r e q m
  stays-grown same still le = record {
    capacity = omega (arith, a.capacity, same);
    steady = λ fits. same ∙ a.steady (omega (arith, fits, le));
    most = omega (arith, a.most, same, le);
    resizes = omega (arith, a.resizes, still);
    few = rw (still, same) a.few;
  }

  has-grown : d ≤ n → m ≡ n + 1 → e ≡ max (max (2 * d) (n + 1)) 14 → q ≡ s + 1
      → GrowsInTurn c r e q m
  has-grown full one is next =
      let more : q - r ≡ s - r + 1 = omega (arith, a.resizes, next) in
      record {
        capacity = omega (arith, a.capacity, is);
        steady = λ fits.
            absurd (omega (arith, fits, one, a.steady (omega (arith, fits, one)), full));
        most = omega (arith, is, full, one);
        resizes = omega (arith, a.resizes, next);
        few = rw more (few-step (s - r) (least_growth c) (least_growth d) (least_growth e) a.few
            (grown-twice d n e is));
      }

  pub grows-more : ((m ≡ n + 1) × (e ≡ reserved_capacity d n 1) × (q ≡ reserved_resizes s d n 1))
      ⊎ ((m ≡ n) × (e ≡ d) × (q ≡ s)) → GrowsInTurn c r e q m
  grows-more (inl p) = elim (cases_Bool (nat_le 1 (d - n))) [
    | inl t ↦ stays-grown (grind (arith, nat_tests, t, p.1)) (grind (arith, nat_tests, t, p.2))
        (omega (arith, p.0))
    | inr f ↦ has-grown (grind (arith, nat_tests, f)) p.0 (grind (arith, nat_tests, f, p.1))
        (grind (arith, nat_tests, f, p.2))
  ]
  grows-more (inr p) = stays-grown p.1 p.2 (omega (arith, p.0))

-- how rarely a table grew that was empty
pub resizes-few : (d r n : ℕ) → GrowsInTurn 0 0 d r n → 7 * 2 ^ r ≤ max 14 (2 * n)
resizes-few d r n g =
    let few : 2 ^ r * 14 ≤ max 14 (2 * d) = subst (λ k. 2 ^ k * 14 ≤ max 14 (2 * d))
    (omega arith) g.few in
    omega (arith, g.most, few)

module _ {K V : Type 0} (eq : K → K → Bool) where
  -- one more of them
  pub set-more : (es xs new newer : List (K × V)) (k : K) (v : V) → SetsAll eq es xs new
      → Sets eq new k (Some v) newer → SetsAll eq es (xs ++ (k, v) ∷ []) newer
  set-more es xs new newer k v a s q =
      s q ∙ ap (cond (eq q k) (Some v)) (a q)
      ∙ ap (λ ys. value eq (ys ++ es) q) (sym (reverse-append xs ((k, v) ∷ [])))

  pub insert-none : {S : Type 0} (t : TableView K V S) → InsertsAll eq t [] t
  insert-none t = record {
    entries = λ q. refl;
    growth = grows-none t.capacity t.resizes (length t.entries);
    builder = refl;
  }

  pub insert-more : {S : Type 0} (t u w : TableView K V S) (xs : List (K × V)) (x : K × V)
      (old : Bool) → InsertsAll eq t xs u → Sets eq u.entries x.0 (Some x.1) w.entries
      → w.builder ≡ u.builder → (old ≡ false → length w.entries ≡ length u.entries + 1)
      → (old ≡ true → length w.entries ≡ length u.entries)
      → (old ≡ false → w.capacity ≡ capacity_for u 1) → (old ≡ true → w.capacity ≡ u.capacity)
      → (old ≡ false → w.resizes ≡ resizes_for u 1) → (old ≡ true → w.resizes ≡ u.resizes)
      → InsertsAll eq t (xs ++ x ∷ []) w
  insert-more t u w xs x old a s b more same made kept resized steady = record {
    entries = set-more t.entries xs u.entries w.entries x.0 x.1 a.entries s;
    growth = grows-more t.capacity t.resizes u.capacity u.resizes (length u.entries)
        w.capacity w.resizes (length w.entries) a.growth (elim (cases_Bool old) [
          | inl o ↦ inr (same o, kept o, steady o)
          | inr f ↦ inl (more f, made f, resized f)
        ]);
    builder = b ∙ a.builder;
  }

  -- what was inserted into a table without entries and blocks was inserted into an empty one
  pub inserts-fresh : {S : Type 0} (t u : TableView K V S) (xs : List (K × V)) → t.entries ≡ []
      → t.capacity ≡ 0 → t.resizes ≡ 0 → InsertsAll eq t xs u → InsertsAll eq (empty u.builder) xs u
  inserts-fresh t u xs none zero never a = record {
    entries = subst (λ es. SetsAll eq es xs u.entries) none a.entries;
    growth = subst (λ r. GrowsInTurn 0 r u.capacity u.resizes (length u.entries)) never
        (subst (λ c. GrowsInTurn c t.resizes u.capacity u.resizes (length u.entries)) zero a.growth);
    builder = refl;
  }

-- if m entries fit, one fits and then fewer others; `old` tells whether its key was there
pub room-after : {K V S : Type 0} (u w : TableView K V S) (m n : ℕ) (old : Bool) → n < m → HasRoom u m → (old ≡ false → length w.entries ≡ length u.entries + 1) → (old ≡ true → length w.entries ≡ length u.entries)
    → (old ≡ false → w.capacity ≡ capacity_for u 1) → (old ≡ true → w.capacity ≡ u.capacity) → HasRoom w n
room-after u w m n old fewer room more same made kept = elim (cases_Bool old) [
  | inl t ↦ omega (arith, fewer, room, same t, kept t)
  | inr f ↦
      let one : nat_le 1 (u.capacity - length u.entries) ≡ true = grind (arith, nat_tests, fewer, room) in
      let as-before : w.capacity ≡ u.capacity = grind (arith, one, made f) in
      omega (arith, fewer, room, more f, as-before)
]

-- where one fits, its insertion leaves the blocks as they are
pub steady-after : {K V S : Type 0} (u w : TableView K V S) (m n : ℕ) (old : Bool) → n < m → HasRoom u m → (old ≡ false → w.capacity ≡ capacity_for u 1) → (old ≡ true → w.capacity ≡ u.capacity)
    → (old ≡ false → w.resizes ≡ resizes_for u 1) → (old ≡ true → w.resizes ≡ u.resizes) → (w.capacity ≡ u.capacity) × (w.resizes ≡ u.resizes)
steady-after u w m n old fewer room made kept resized steady = elim (cases_Bool old) [
  | inl t ↦ (kept t, steady t)
  | inr f ↦
      let one : nat_le 1 (u.capacity - length u.entries) ≡ true = grind (arith, nat_tests, fewer, room) in
      (grind (arith, one, made f), grind (arith, one, resized f))
]

-- what a new table has reserved
pub reserved : (n : ℕ) → reserved_capacity 0 0 n ≡ fresh_capacity n
reserved n = grind (arith, nat_tests)

pub resized : (n : ℕ) → reserved_resizes 0 0 0 n ≡ fresh_resizes n
resized n = grind (arith, nat_tests)
