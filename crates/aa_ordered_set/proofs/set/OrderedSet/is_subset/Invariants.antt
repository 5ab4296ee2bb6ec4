use Rattle.std.proofs.Common.{◌≡◌}
use Rattle.std.specs.List.{list_all}
use Rattle.aa_ordered_set.specs.Sets.{has}
use Rattle.aa_ordered_set.proofs.set.OrderedSet.is_subset.Given as goal

-- the remaining elements decide
abbrev pub invariant-each : goal.invariant-each
invariant-each g l =
    let all = list_all (has g.T.Ord.cmp l.other.elements) in
    all l.value-iterator ≡ all l.self.elements
