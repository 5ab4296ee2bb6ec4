use Rattle.std.specs.Fn.{CalledAtPairMut}
use Rattle.aa_vec.specs.Choosing.{Equals}
use Rattle.allocator_api2.proofs.Differ.{leaves_no_repeats}
use Rattle.allocator_api2.proofs.laws.dedup_leaves_no_equal_neighbours.Goals as goal

pub returns-clause-dedup : goal.returns-clause-dedup
returns-clause-dedup g c xs left results d =
    leaves_no_repeats g.T.PartialEq.eq g.met.T.PartialEq.laws.symm (Equals g.T.PartialEq.eq)
    (λ s t x l y k answer e. e) _ _ xs left results d

pub returns-clause-dedup_by : goal.returns-clause-dedup_by
returns-clause-dedup_by g c = leaves_no_repeats g.T.PartialEq.eq g.met.T.PartialEq.laws.symm
    (CalledAtPairMut g.S.FnMut)
