-- The fields of a `Ring`: what holds of them, and what contracts see.
use Rattle.std.specs.Prelude.{◌≡◌, ℕ, ◌+◌, ◌-◌, ◌<◌, ◌≤◌, List, ◌++◌, length, nat_lt, if◌then◌else◌, Option}
use Rattle.allocator_api2.specs.Places.{IsRun, run}
use Rattle.aa_ring.specs.Ringed.{Ringed}
use Rattle.aa_ring.specs.declared.ring.Ring.TheInside.{Inside}

-- `count` items at the places from `front` on, and then `wrapped` items at the first places; if
-- there are wrapped items, the others reach to the end of the block
pub record HasParts {X : Type 0} (places : List (Option X)) (front count wrapped : ℕ) : Type 0 where
  pub first : IsRun places front count
  pub others : IsRun places 0 wrapped
  pub apart : wrapped ≤ front
  pub ends : 0 < wrapped → front + count ≡ length places

-- the place of the item at `index`, if the first `count` items are at the places from `front` on
abbrev pub place_at : (front count index : ℕ) → ℕ
place_at front count index = if nat_lt index count then front + index else index - count

module _ {T A : Type 0} where
  -- the model of the ring with the fields `r`
  abbrev pub view_of : Inside T A → Ringed T A
  view_of r =
      record {
        items = run r.block.places r.front r.count ++ run r.block.places 0 r.wrapped;
        capacity = length r.block.places;
        growth = r.block.growth;
        grown = r.block.grown;
        written = r.added.count + r.block.written;
        alloc = r.block.alloc;
      }

  -- the places of `r` hold items where its fields say
  abbrev pub IsRing : Inside T A → Type 0
  IsRing r = HasParts r.block.places r.front r.count r.wrapped
