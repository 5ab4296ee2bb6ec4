use Rattle.std.proofs.Common.{◌≡◌}
use Rattle.std.specs.Prelude.{not}
use Rattle.std.specs.List.{list_all}
use Rattle.aa_ordered_set.specs.Sets.{has}
use Rattle.aa_ordered_set.proofs.set.OrderedSet.is_disjoint.Given as goal

-- the remaining elements decide
abbrev pub invariant-each : goal.invariant-each
invariant-each g l =
    let all = list_all (λ x. not (has g.T.Ord.cmp l.other.elements x)) in
    all l.value-iterator ≡ all l.self.elements
