use Rattle.std.proofs.Common.{Some, ◌≡◌}
use Rattle.std.specs.List.{list_all}
use Rattle.std.specs.Option.{option_eq}
use Rattle.aa_table.specs.Contents.{value}
use Rattle.aa_table.proofs.compare.has_all.Given as goal

-- the remaining entries decide
abbrev pub invariant-each : goal.invariant-each
invariant-each g l =
    let all = list_all (λ (e : _ × _). option_eq g.V.PartialEq.eq (Some e.1) (value g.K.PartialEq.eq l.right.entries e.0)) in
    all l.key-iterator ≡ all l.left.entries
