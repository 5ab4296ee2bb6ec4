use Rattle.std.specs.Cmp.{ties}
use Rattle.allocator_api2.proofs.Distinct.{by_key, leaves_distinct}
use Rattle.allocator_api2.proofs.laws.dedup_by_removes_all_duplicates_of_sorted.Goals as goal

pub returns-clause-by_key : goal.returns-clause-by_key
returns-clause-by_key g c key xs sorted =
    leaves_distinct _ _ xs
    (by_key g.met.K.Ord.total (ties g.met.K.PartialOrd.laws g.met.K.Ord.matches_partial_cmp) key)
    sorted
