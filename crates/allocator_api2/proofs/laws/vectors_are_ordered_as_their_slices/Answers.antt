use Rattle.std.specs.Cmp.Lexicographic.{lists_ties}
use Rattle.allocator_api2.proofs.laws.vectors_are_ordered_as_their_slices.Goals as goal

pub returns-clause-agrees : goal.returns-clause-agrees
returns-clause-agrees g c agrees v w = lists_ties g.T.Ord.cmp agrees v.items w.items
