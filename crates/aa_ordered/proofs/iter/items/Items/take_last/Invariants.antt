use Rattle.std.proofs.Common.{◌≡◌, ◌++◌, ◌+◌, length}
use Rattle.aa_ordered.specs.Ranges.{items_of}
use Rattle.aa_ordered.proofs.iter.items.Items.take_last.Given as goal

-- the remaining items are unchanged
abbrev pub invariant-loop-last : goal.invariant-loop-last
invariant-loop-last g l = l.self-inside.front.now ++ items_of l.self-inside.rest ++ l.self-inside.back.now ≡ l.fn.self

abbrev pub decreases-loop-last : goal.decreases-loop-last
decreases-loop-last g l = length l.self-inside.rest + length l.self-inside.front.now
