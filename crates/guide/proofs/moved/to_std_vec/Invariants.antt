use Rattle.std.proofs.Common.{◌≡◌, ◌++◌}
use Rattle.guide.proofs.moved.to_std_vec.Given as goal

-- what was pushed, and what is still to come
abbrev pub invariant-loop-x : goal.invariant-loop-x
invariant-loop-x g l = l.to.items ++ l.x-iterator.items ≡ l.fn.from.items
