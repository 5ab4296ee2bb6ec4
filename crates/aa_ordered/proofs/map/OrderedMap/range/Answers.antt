use Rattle.aa_ordered.proofs.Cutting.{lists-filled}
use Rattle.aa_ordered.proofs.map.OrderedMap.range.Goals as goal

pub between-requires-clause-some : goal.between-requires-clause-some
between-requires-clause-some g c = lists-filled c.self.inside.leaves.lists c.self.invariant.balanced
