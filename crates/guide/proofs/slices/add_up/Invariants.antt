use Rattle.std.proofs.Common.{◌≡◌, ◌+◌, sum}
use Rattle.std.specs.Slice.Iter.{iter_rest}
use Rattle.guide.proofs.slices.add_up.Given as goal

-- the total and the numbers that remain come to the sum
abbrev pub invariant-loop-x : goal.invariant-loop-x
invariant-loop-x g l =
    (goal.iterator-loop-x g).can_next l.x-iterator × (goal.iterator-loop-x g).is_finite l.x-iterator
    × (l.total + sum (iter_rest l.x-iterator) ≡ sum l.v.items)
