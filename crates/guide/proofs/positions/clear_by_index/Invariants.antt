use Rattle.std.proofs.Common.{◌≡◌, ◌++◌, drop, replicate}
use Rattle.guide.proofs.positions.clear_by_index.Given as goal

-- the positions before `i` are zeroes, and the others as they were
abbrev pub invariant-loop-i : goal.invariant-loop-i
invariant-loop-i g l = l.v.items ≡ replicate l.i 0 ++ drop l.i l.fn.v.items
