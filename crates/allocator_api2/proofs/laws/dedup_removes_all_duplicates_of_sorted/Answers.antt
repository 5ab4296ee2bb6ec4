use Rattle.std.specs.Cmp.{ties}
use Rattle.allocator_api2.proofs.Distinct.{by_key, leaves_distinct}
use Rattle.allocator_api2.proofs.laws.dedup_removes_all_duplicates_of_sorted.Goals as goal

pub returns : goal.returns
returns g c xs sorted =
    leaves_distinct g.T.PartialEq.eq _ xs
    (by_key g.met.T.Ord.total (ties g.met.T.PartialOrd.laws g.met.T.Ord.matches_partial_cmp)
    (λ x. x)) sorted
