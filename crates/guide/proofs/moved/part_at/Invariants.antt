use Rattle.std.proofs.Common.{◌≡◌, ◌++◌, nat_lt, not}
use Rattle.std.specs.Prelude.{filter}
use Rattle.guide.proofs.moved.part_at.Given as goal

-- what was moved, and what is still to come of it
abbrev pub invariant-loop-x : goal.invariant-loop-x
invariant-loop-x g l =
    (l.small.items ++ filter (λ x. nat_lt x l.fn.pivot) l.x-iterator.items ≡ l.fn.small.items ++ filter (λ x. nat_lt x l.fn.pivot) l.fn.from.items)
    × (l.big.items ++ filter (λ x. not (nat_lt x l.fn.pivot)) l.x-iterator.items ≡ l.fn.big.items ++ filter (λ x. not (nat_lt x l.fn.pivot)) l.fn.from.items)
