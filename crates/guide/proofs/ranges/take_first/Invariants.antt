use Rattle.std.proofs.Common.{◌≡◌, ◌++◌, length}
use Rattle.allocator_api2.specs.Drain.{drain_remaining, DrainKeeps}
use Rattle.allocator_api2.specs.Vector.{HasRoom}
use Rattle.guide.proofs.ranges.take_first.Given as goal

abbrev pub decreases-loop-x : goal.decreases-loop-x
decreases-loop-x g l = length (drain_remaining l.range)

-- what was moved, and what is still to come, which fits
abbrev pub invariant-loop-x : goal.invariant-loop-x
invariant-loop-x g l =
    (l.to.items ++ drain_remaining l.range ≡ l.initial.to.items ++ drain_remaining l.initial.range)
    × DrainKeeps l.initial.range l.range × HasRoom l.to (length (drain_remaining l.range))
