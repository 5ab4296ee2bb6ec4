use Rattle.std.proofs.Common.{◌≡◌, length, take}
use Rattle.aa_inline.proofs.few.Few.truncate.Given as goal

-- the first items are as they were
abbrev pub invariant-each : goal.invariant-each
invariant-each g l = (take l.len l.self ≡ take l.len l.fn.self) × (length l.self ≡ length l.fn.self)
