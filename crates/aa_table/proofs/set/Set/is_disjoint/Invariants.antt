use Rattle.std.proofs.Common.{◌≡◌}
use Rattle.std.specs.Prelude.{not}
use Rattle.std.specs.List.{list_all}
use Rattle.std.specs.Set.{is_member}
use Rattle.aa_table.proofs.set.Set.is_disjoint.Given as goal

-- the remaining elements decide
abbrev pub invariant-each : goal.invariant-each
invariant-each g l =
    let all = list_all (λ x. not (is_member g.T.PartialEq.eq l.other.elements x)) in
    all l.value-iterator ≡ all l.self.elements
