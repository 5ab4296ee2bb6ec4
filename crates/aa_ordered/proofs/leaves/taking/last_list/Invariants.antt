use Rattle.std.proofs.Common.{◌≡◌, ◌++◌, length, All, List}
use Rattle.aa_ordered.specs.declared.leaves.Head.{Head}
use Rattle.aa_ordered.proofs.leaves.taking.last_list.Given as goal

-- the lists that were passed are empty
abbrev pub invariant-each : goal.invariant-each
invariant-each g l = record {
  empty : List Head;
  all : l.fn.heads.items ≡ l.heads.items ++ empty;
  none : All (λ h. h.len ≡ 0) empty;
}

abbrev pub decreases-each : goal.decreases-each
decreases-each g l = length l.heads.items
