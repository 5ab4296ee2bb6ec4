use Rattle.std.proofs.Common.{◌≡◌, ℕ, ◌<◌, get_or}
use Rattle.guide.proofs.positions.clear_each.Given as goal

-- what the loop has passed is zero
abbrev pub invariant-loop-x : goal.invariant-loop-x
invariant-loop-x g l = (k : ℕ) → k < l.x-index → get_or l.slice k 0 ≡ 0
