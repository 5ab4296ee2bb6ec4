-- A ring in the block of a vector, and a vector in the block of a ring.
use Rattle.std.specs.Prelude.{◌≡◌, ◌+◌, ◌≤◌, length}
use Rattle.allocator_api2.specs.Vector.{Vector}
use Rattle.aa_ring.specs.Ringed.{Ringed}

module _ {T A : Type 0} where
  -- the ring of the elements of `v`, in its block
  abbrev pub of_vector : Vector T A → Ringed T A
  of_vector v =
      record {
        items = v.items;
        capacity = v.capacity;
        growth = v.growth;
        grown = v.grown;
        written = v.written;
        alloc = v.alloc;
      }

  -- `v` has the items of the ring `r`, in its block, in which each was written once more at most
  pub record HasItemsOf (r : Ringed T A) (v : Vector T A) : Type 0 where
    pub items : v.items ≡ r.items
    pub capacity : v.capacity ≡ r.capacity
    pub growth : v.growth ≡ r.growth
    pub grown : v.grown ≡ r.grown
    pub written : v.written ≤ r.written + length r.items
    pub alloc : v.alloc ≡ r.alloc
