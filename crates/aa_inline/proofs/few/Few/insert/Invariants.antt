use Rattle.std.proofs.Common.{◌≡◌, length}
use Rattle.std.specs.Prelude.{insert}
use Rattle.aa_inline.proofs.few.Few.insert.Given as goal

-- with the carried value at the index, the list is the result
abbrev pub invariant-each : goal.invariant-each
invariant-each g l = (insert l.self l.i l.carried ≡ insert l.fn.self l.index l.fn.item) × (length l.self ≡ length l.fn.self)
