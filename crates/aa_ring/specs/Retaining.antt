-- What a closure that tests items leaves of a ring.
use Rattle.std.specs.Prelude.{◌≡◌, Bool, List, length}
use Rattle.allocator_api2.specs.Choosing.{Call, CalledInOrder, kept}
use Rattle.aa_ring.specs.Ringed.{Ringed, with_written}

-- `new` is `old` after one call of the closure for each item, in order, by which the closure `f`
-- became `g`: it has the items for which the closure returned `true`, each of which was written
pub record Retains {F T A : Type 0} (Calls : F → T → Bool → F → T → Type 0) (f : F)
    (old : Ringed T A) (g : F) (new : Ringed T A) : Type 0 where
  pub calls : List (Call T)
  pub called : CalledInOrder Calls f old.items calls g
  pub put : new ≡ with_written old (kept calls) (length (kept calls))
