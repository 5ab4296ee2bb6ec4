use Rattle.std.proofs.Common.{◌≡◌}
use Rattle.std.specs.List.{list_all}
use Rattle.std.specs.Set.{is_member}
use Rattle.aa_table.proofs.set.Set.is_subset.Given as goal

-- the remaining elements decide
abbrev pub invariant-each : goal.invariant-each
invariant-each g l =
    let all = list_all (is_member g.T.PartialEq.eq l.other.elements) in
    all l.value-iterator ≡ all l.self.elements
