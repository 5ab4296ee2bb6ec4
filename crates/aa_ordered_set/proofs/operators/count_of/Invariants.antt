use Rattle.std.proofs.Common.{◌≡◌, length}
use Rattle.aa_ordered_set.proofs.operators.count_of.Given as goal

-- the items so far were counted
abbrev pub invariant-each : goal.invariant-each
invariant-each g l = l.count ≡ length l.yielded
