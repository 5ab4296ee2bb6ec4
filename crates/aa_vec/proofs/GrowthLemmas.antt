-- Lemmas on a vector that grew while it was full.
use Rattle.aa_raw.specs.Growths.{with_growth}
use Rattle.aa_vec.proofs.Common.{◌≡◌, ℕ, ◌+◌, ◌-◌, ◌<◌, ◌≤◌, List, ◌++◌, length, append_assoc, append-nil, Ok, Extends, refl, ap, ◌∙◌, subst, arith, min, usize_max, amortized, min_capacity, Vector, SameBlock, Holds, with_room, GrowsInSteps, unchanged, grows, nat_tests}

module _ {T A : Type 0} where
  pub SameBlock-refl : (v : Vector T A) → SameBlock v v
  SameBlock-refl v = record { capacity = refl; growth = refl; grown = refl; alloc = refl }

  pub SameBlock-trans : {u v w : Vector T A} → SameBlock u v → SameBlock v w → SameBlock u w
  SameBlock-trans p q =
      record {
        capacity = q.capacity ∙ p.capacity;
        growth = q.growth ∙ p.growth;
        grown = q.grown
            ∙ p.grown;
        alloc = q.alloc ∙ p.alloc;
      }

  -- new has the block of old, with capacity for k more than n elements
  abbrev pub MakesRoom : (size : ℕ) → Vector T A → (n k : ℕ) → Vector T A → Type 0
  MakesRoom size old n k new = SameBlock (with_room size old n k) new

  -- and then for r more
  abbrev pub MakesRoomTwice : (size : ℕ) → Vector T A → (n h r : ℕ) → Vector T A → Type 0
  MakesRoomTwice size old n h r new = MakesRoom size (with_room size old n h) (n + h) r new

  -- capacity is reserved alike in one block
  pub MakesRoom-same : (size n k : ℕ) {u v w : Vector T A} → SameBlock u v → MakesRoom size v n k w
      → MakesRoom size u n k w
  MakesRoom-same size n k b m =
      record {
        capacity = rw (← b.capacity, ← b.growth) m.capacity;
        growth = m.growth
            ∙ b.growth;
        grown = rw (← b.capacity, ← b.growth, ← b.grown) m.grown;
        alloc = m.alloc
            ∙ b.alloc;
      }

  pub MakesRoomTwice-same : (size n h r : ℕ) {u v w : Vector T A} → SameBlock u v
      → MakesRoomTwice size v n h r w → MakesRoomTwice size u n h r w
  MakesRoomTwice-same size n h r {u} {v} b m =
      MakesRoom-same size (n + h) r
      (MakesRoom-same size n h b (SameBlock-refl (with_room size v n h))) m

  -- there is capacity for all, and no less than before
  pub MakesRoom-has : (size n k : ℕ) (v w : Vector T A) → MakesRoom size v n k w
      → k ≤ w.capacity - n
  MakesRoom-has size n k v w m = grind (arith, nat_tests)

  pub MakesRoom-fits : (size n k : ℕ) (v w : Vector T A) → MakesRoom size v n k w → n ≤ w.capacity
      → n + k ≤ w.capacity
  MakesRoom-fits size n k v w m l = omega (arith, MakesRoom-has size n k v w m)

  pub MakesRoom-rises : (size n k : ℕ) (v w : Vector T A) → MakesRoom size v n k w → v.capacity
      ≤ w.capacity
  MakesRoom-rises size n k v w m = grind (arith, nat_tests)

  -- where they fit, nothing changes
  pub with_room-fits : (size : ℕ) (v : Vector T A) (n k : ℕ) → k ≤ v.capacity - n
      → SameBlock (with_room size v n k) v
  with_room-fits size v n k h =
      record {
        capacity = grind (arith, nat_tests);
        growth = refl;
        grown = grind (arith, nat_tests);
        alloc = refl;
      }

  pub MakesRoom-unchanged : (size n k : ℕ) (v w : Vector T A) → MakesRoom size v n k w
      → k ≤ v.capacity - n → SameBlock v w
  MakesRoom-unchanged size n k v w m h =
      record {
        capacity = grind (arith, nat_tests);
        growth = m.growth;
        grown = grind (arith, nat_tests);
        alloc = m.alloc;
      }

  -- else there was a growth
  pub MakesRoom-grows : (size n k : ℕ) (v w : Vector T A) → MakesRoom size v n k w → v.capacity - n
      < k → let c = amortized v.growth v.capacity (n + k) (min_capacity size) in
      (w.capacity ≡ c) × (w.grown ≡ with_growth v.grown n v.capacity c)
  MakesRoom-grows size n k v w m h = (grind (arith, nat_tests), grind (arith, nat_tests))

  -- items appended to others, and then more
  pub Holds-more : (old mid new : Vector T A) (xs ys : List T) → Holds old (old.items ++ xs) mid
      → Holds mid (mid.items ++ ys) new → Holds old (old.items ++ (xs ++ ys)) new
  Holds-more old mid new xs ys p q =
      record {
        items = q.items ∙ ap (λ l. l ++ ys) p.items ∙ append_assoc old.items xs ys;
        block = SameBlock-trans p.block q.block;
      }

-- the block of a vector that has grown, by its equation
module _ {T A : Type 0} where
  pub block_of : (old new : Vector T A) → new
      ≡ record old { items = new.items; written = new.written; runs = new.runs; spare = new.spare }
      → SameBlock old new
  block_of old new e =
      record {
        capacity = ap (λ v. v.capacity) e;
        growth = ap (λ v. v.growth) e;
        grown = ap (λ v. v.grown) e;
        alloc = ap (λ v. v.alloc) e;
      }

  pub in_block : {size : ℕ} {lower : ℕ → ℕ} {needed : ℕ} {old new : Vector T A} → SameBlock old new
      → GrowsInSteps size lower needed old new
  in_block {new = new} b =
      unchanged (λ i. record {
        items = new.items;
        capacity = b.capacity i;
        growth = b.growth i;
        grown = b.grown i;
        written = new.written;
        runs = new.runs;
        alloc = b.alloc i;
        spare = new.spare;
      })

  module _ (size : ℕ) (lower : ℕ → ℕ) (needed : ℕ) (v : Vector T A) where
    -- the capacity that v requests while it is full, and what it grows to then
    abbrev pub asks : ℕ
    asks = min (lower (needed - v.capacity - 1) + 1) usize_max

    abbrev pub grown_by : Vector T A
    grown_by = with_room size v v.capacity asks

    pub grown_room : MakesRoom size v v.capacity asks grown_by
    grown_room = SameBlock-refl grown_by

    pub grown_rises : v.capacity ≤ grown_by.capacity
    grown_rises = MakesRoom-rises size v.capacity asks v grown_by grown_room

-- the same grow from another vector in the same block, where r more items remain after those that
-- were counted, and the bounds agree from the capacity on
pub GrowsInSteps-counted : {T A : Type 0} (size : ℕ) (lower by : ℕ → ℕ)
    (needed r all : ℕ) {u v w : Vector T A} → SameBlock u v → needed + r ≡ all
    → ((k : ℕ) → u.capacity + k < needed → lower k ≡ by (k + r))
    → GrowsInSteps size lower needed v w → GrowsInSteps size by all u w
GrowsInSteps-counted size lower by needed r all {v = v} {w = w} b e same (unchanged c) =
    in_block (SameBlock-trans b (block_of v w c))
GrowsInSteps-counted size lower by needed r all {u} {v} {w} b e same (grows h rest) =
    let a : asks size lower needed v ≡ asks size by all u = ap (λ n. min (n + 1) usize_max)
    (same (needed - v.capacity - 1) (omega (arith, h, b.capacity))
    ∙ ap by (omega (arith, h, b.capacity, e))) in
    let mid : SameBlock (grown_by size by all u) (grown_by size lower needed v) =
    subst (λ k. MakesRoom size u u.capacity k (grown_by size lower needed v)) a
    (subst (λ c. MakesRoom size u c (asks size lower needed v) (grown_by size lower needed v))
    b.capacity
    (MakesRoom-same size v.capacity (asks size lower needed v) b (grown_room size lower needed v)))
    in
    grows (omega (arith, h, b.capacity, e))
    (GrowsInSteps-counted size lower by needed r all {u = grown_by size by all u}
    {v = grown_by size lower needed v} {w = w} mid e
    (λ k l. same k (omega (arith, l, grown_rises size by all u))) rest)

module _ {T A : Type 0} (size : ℕ) (lower : ℕ → ℕ) (needed : ℕ) where
  -- a grow ends in whatever is in the same block
  pub GrowsInSteps-same : {u v w : Vector T A} → GrowsInSteps size lower needed u v → SameBlock v w
      → GrowsInSteps size lower needed u w
  GrowsInSteps-same {u} {v} (unchanged b) c = in_block (SameBlock-trans (block_of u v b) c)
  GrowsInSteps-same (grows h r) c = grows h (GrowsInSteps-same r c)

  -- one growth comes before
  pub GrowsInSteps-first : {u v w : Vector T A} → u.capacity < needed
      → MakesRoom size u u.capacity (asks size lower needed u) v
      → GrowsInSteps size lower needed v w → GrowsInSteps size lower needed u w
  GrowsInSteps-first {u} {v} h m r =
      grows h (GrowsInSteps-counted size lower lower needed 0 needed m (omega arith)
      (λ k _. ap lower (omega arith)) r)

  -- and one follows
  pub GrowsInSteps-more : {u v w : Vector T A} → GrowsInSteps size lower needed u v → v.capacity
      < needed → MakesRoom size v v.capacity (asks size lower needed v) w
      → GrowsInSteps size lower needed u w
  GrowsInSteps-more {u} {v} {w} (unchanged b) l m =
      GrowsInSteps-counted size lower lower needed 0 needed (block_of u v b) (omega arith)
      (λ k _. ap lower (omega arith)) (GrowsInSteps-first l m (in_block (SameBlock-refl w)))
  GrowsInSteps-more (grows h r) l m = grows h (GrowsInSteps-more r l m)

  -- the capacity never falls
  pub GrowsInSteps-rises : {u v : Vector T A} → GrowsInSteps size lower needed u v → u.capacity
      ≤ v.capacity
  GrowsInSteps-rises {u} {v} (unchanged b) = omega (arith, ap (λ x. x.capacity) b)
  GrowsInSteps-rises {u} {v} (grows h r) =
      omega (arith, grown_rises size lower needed u, GrowsInSteps-rises r)

  -- where all fit, there is no growth
  pub GrowsInSteps-fits : {u v : Vector T A} → GrowsInSteps size lower needed u v
      → needed ≤ u.capacity → SameBlock u v
  GrowsInSteps-fits {u} {v} (unchanged b) f = block_of u v b
  GrowsInSteps-fits (grows h r) f = absurd (omega (arith, h, f))

  -- what every growth leaves unchanged
  pub GrowsInSteps-keeps : {u v : Vector T A} → GrowsInSteps size lower needed u v
      → (v.growth ≡ u.growth) × (v.alloc ≡ u.alloc)
  GrowsInSteps-keeps (unchanged b) = (ap (λ v. v.growth) b, ap (λ v. v.alloc) b)
  GrowsInSteps-keeps (grows h r) = GrowsInSteps-keeps r

  -- where the bound is just as many as remain, it reserves capacity for them at once
  pub GrowsInSteps-exact : ((n : ℕ) → lower n ≡ n) → {u v : Vector T A}
      → GrowsInSteps size lower needed u v → needed ≤ v.capacity → needed - u.capacity ≤ usize_max
      → MakesRoom size u u.capacity (needed - u.capacity) v
  GrowsInSteps-exact exact {u} {v} (unchanged b) enough few =
      let c = block_of u v b in
      SameBlock-trans (with_room-fits size u u.capacity (needed - u.capacity)
      (omega (arith, enough, c.capacity))) c
  GrowsInSteps-exact exact {u} {v} (grows h r) enough few =
      let left : ℕ = needed - u.capacity in let mid : Vector T A = grown_by size lower needed u in
      let asked : asks size lower needed u
      ≡ left = ap (λ n. min (n + 1) usize_max) (exact (left - 1)) ∙ omega (arith, h, few) in
      let made : MakesRoom size u u.capacity left mid = subst
      (λ k. MakesRoom size u u.capacity k mid) asked (grown_room size lower needed u) in
      SameBlock-trans made
      (GrowsInSteps-fits r
      (omega (
        arith,
        h,
        MakesRoom-fits size u.capacity left u mid made
            (grown_rises size lower needed u),
      )))

-- all items were appended
module _ {T A : Type 0} {size : ℕ} {lower : ℕ → ℕ} {old : Vector T A} {xs added : List T}
    {new : Vector T A} (e : Extends size lower old xs added (Ok tt) new) where
  pub Extends-items : new.items ≡ xs ++ added
  Extends-items = grind (arith, append-nil, e)

  pub Extends-fits : length xs + length added ≤ new.capacity
  Extends-fits = grind (arith, append-nil, e)
