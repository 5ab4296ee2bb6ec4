use Rattle.std.proofs.Common.{◌≡◌, ◌++◌, ◌+◌, length}
use Rattle.aa_ordered.specs.Ranges.{items_of}
use Rattle.aa_ordered.proofs.iter.items.Items.take_first.Given as goal

-- the remaining items are unchanged
abbrev pub invariant-loop-first : goal.invariant-loop-first
invariant-loop-first g l = l.self-inside.front.now ++ items_of l.self-inside.rest ++ l.self-inside.back.now ≡ l.fn.self

abbrev pub decreases-loop-first : goal.decreases-loop-first
decreases-loop-first g l = length l.self-inside.rest + length l.self-inside.back.now
