use Rattle.std.proofs.Common.{◌≡◌, ◌≤◌, length}
use Rattle.std.specs.Prelude.{insert}
use Rattle.aa_inline.proofs.few.Few.remove.Given as goal

-- with what is carried at the index, the list is as it was
abbrev pub invariant-each : goal.invariant-each
invariant-each g l = (insert l.self l.i l.carried ≡ l.fn.self) × (l.index ≤ l.i) × (l.i ≤ length l.self)

abbrev pub decreases-each : goal.decreases-each
decreases-each g l = l.i
