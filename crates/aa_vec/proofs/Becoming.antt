-- What a vector becomes, as one equation and by its parts.
use Rattle.aa_vec.proofs.Common.{◌≡◌, ℕ, ◌+◌, List, ◌++◌, length, refl, ap, append_assoc, arith, Option, Vector, GrowsTo, HasRoom, Holds, SameBlock, Writes, with_room, Becomes, with_spare}
use Rattle.aa_vec.proofs.GrowthLemmas.{MakesRoom-unchanged, SameBlock-trans}

module _ {T A : Type 0} (old : Vector T A) (xs : List T) (n k : ℕ) (new : Vector T A) where
  pub Becomes-holds : Holds old xs new → Writes old n k new → Becomes old xs n k new
  Becomes-holds h w =
      λ i. record {
        items = h.items i;
        capacity = h.block.capacity i;
        growth = h.block.growth i;
        grown = h.block.grown i;
        written = w.written i;
        runs = w.runs i;
        alloc = h.block.alloc i;
        spare = new.spare;
      }

  pub Holds-becomes : Becomes old xs n k new → Holds old xs new
  Holds-becomes e =
      record {
        items = ap (λ v. v.items) e;
        block =
            record {
              capacity = ap (λ v. v.capacity) e;
              growth = ap (λ v. v.growth) e;
              grown = ap (λ v. v.grown) e;
              alloc = ap (λ v. v.alloc) e;
            };
      }

  pub SameBlock-becomes : Becomes old xs n k new → SameBlock old new
  SameBlock-becomes e = (Holds-becomes e).block

  pub Writes-becomes : Becomes old xs n k new → Writes old n k new
  Writes-becomes e = record { written = ap (λ v. v.written) e; runs = ap (λ v. v.runs) e }

  module _ (size more : ℕ) where
    pub Becomes-grows : GrowsTo size old more xs new → Writes old n k new
        → Becomes (with_room size old (length old.items) more) xs n k new
    Becomes-grows g w =
        λ i. record {
          items = g.items i;
          capacity = g.room.capacity i;
          growth = g.room.growth i;
          grown = g.room.grown i;
          written = w.written i;
          runs = w.runs i;
          alloc = g.room.alloc i;
          spare = new.spare;
        }

    pub GrowsTo-becomes : Becomes (with_room size old (length old.items) more) xs n k new
        → GrowsTo size old more xs new
    GrowsTo-becomes e =
        record {
          items = ap (λ v. v.items) e;
          room =
              record {
                capacity = ap (λ v. v.capacity) e;
                growth = ap (λ v. v.growth) e;
                grown = ap (λ v. v.grown) e;
                alloc = ap (λ v. v.alloc) e;
              };
        }

    pub Writes-grown : Becomes (with_room size old (length old.items) more) xs n k new
        → Writes old n k new
    Writes-grown e = record { written = ap (λ v. v.written) e; runs = ap (λ v. v.runs) e }

    -- if there was spare capacity, the block is kept
    pub Holds-fits : GrowsTo size old more xs new → HasRoom old more → Holds old xs new
    Holds-fits g fits =
        record {
          items = g.items;
          block = MakesRoom-unchanged size (length old.items) more old new g.room fits;
        }

    pub Holds-within : Becomes (with_room size old (length old.items) more) xs n k new
        → HasRoom old more → Holds old xs new
    Holds-within e fits = Holds-fits (GrowsTo-becomes e) fits

module _ {T A : Type 0} where
  -- only the places after the items differ
  pub Becomes-spare : (v w : Vector T A) (places : List (Option T)) → w ≡ with_spare v places
      → Becomes v v.items 0 0 w
  Becomes-spare v w places e = grind (arith, Becomes-holds)

  -- nothing was changed
  pub Becomes-refl : (v : Vector T A) → Becomes v v.items 0 0 v
  Becomes-refl v = Becomes-spare v v v.spare refl

  -- one call after another
  pub Becomes-at : (old : Vector T A) (xs : List T) (n k : ℕ) (mid : Vector T A)
      → Becomes old xs n k mid → (ys : List T) (m l : ℕ) (new : Vector T A) → Becomes mid ys m l new
      → (zs : List T) (a b : ℕ) → ys ≡ zs → n + m ≡ a → k + l ≡ b → Becomes old zs a b new
  Becomes-at old xs n k mid e ys m l new f zs a b same all calls =
      grind (arith, Becomes-holds, SameBlock-trans, SameBlock-becomes)

  pub Becomes-then : (old : Vector T A) (xs : List T) (n k : ℕ) (mid : Vector T A)
      → Becomes old xs n k mid → (ys : List T) (m l : ℕ) (new : Vector T A) → Becomes mid ys m l new
      → (a b : ℕ) → n + m ≡ a → k + l ≡ b → Becomes old ys a b new
  Becomes-then old xs n k mid e ys m l new f a b =
      Becomes-at old xs n k mid e ys m l new f ys a b refl

  -- items appended to others, and those to the old items
  pub Becomes-more : (old mid new : Vector T A) (xs ys : List T) (n k m l a b : ℕ)
      → Becomes old (old.items ++ xs) n k mid → Becomes mid (mid.items ++ ys) m l new → n + m ≡ a
      → k + l ≡ b → Becomes old (old.items ++ (xs ++ ys)) a b new
  Becomes-more old mid new xs ys n k m l a b p q all calls = grind (arith, Becomes-at, append_assoc)

  -- what was done once capacity was reserved
  pub Becomes-roomy : (old mid new : Vector T A) → Becomes old old.items 0 0 mid
      → (f : List T → List T) (n : ℕ) → Becomes mid (f mid.items) n n new
      → Becomes old (f old.items) n n new
  Becomes-roomy old mid new made f n p =
      Becomes-at old old.items 0 0 mid made (f mid.items) n n new p _ n n (ap (λ v. f v.items) made)
      (omega arith) (omega arith)

-- vectors with the same fields
pub same_fields : {T A : Type 0} (v w : Vector T A) → v.items ≡ w.items → v.capacity ≡ w.capacity
    → v.growth ≡ w.growth → v.grown ≡ w.grown → v.written ≡ w.written → v.runs ≡ w.runs → v.alloc
    ≡ w.alloc → v.spare ≡ w.spare → v ≡ w
same_fields v w xs c h g n k a b =
    λ i. record {
      items = xs i;
      capacity = c i;
      growth = h i;
      grown = g i;
      written = n i;
      runs = k i;
      alloc = a i;
      spare = b i;
    }

-- an equation from what a call did, and back
pub ruleset becomes = (Becomes-holds, Becomes-grows)

pub ruleset became =
    (Holds-becomes, Writes-becomes, GrowsTo-becomes, Writes-grown, Holds-fits, Holds-within)
