use Rattle.std.proofs.Common.{◌≡◌, ◌++◌, length, All, List}
use Rattle.aa_ordered.specs.declared.leaves.Head.{Head}
use Rattle.aa_ordered.proofs.leaves.taking.first_list.Given as goal

-- the lists that were passed are empty
abbrev pub invariant-each : goal.invariant-each
invariant-each g l = record {
  empty : List Head;
  all : l.fn.heads.items ≡ empty ++ l.heads.items;
  none : All (λ h. h.len ≡ 0) empty;
}

abbrev pub decreases-each : goal.decreases-each
decreases-each g l = length l.heads.items
