use Rattle.std.proofs.Common.{◌≡◌, ◌++◌, ◌/◌, map, take, drop}
use Rattle.guide.proofs.slices.halve_each.Given as goal

-- the numbers passed are halved, and the others as they were
abbrev pub invariant-loop-x : goal.invariant-loop-x
invariant-loop-x g l =
    l.numbers ≡ map (λ x. x / 2) (take l.x-index l.initial.numbers)
    ++ drop l.x-index l.initial.numbers
