use Rattle.std.proofs.Common.{◌≡◌, ◌+◌, ◌≤◌, ◌++◌, length}
use Rattle.aa_inline.proofs.inline.places.collect_in_place.Given as goal

-- the inline items, and those still to come
abbrev pub invariant-loop-item : goal.invariant-loop-item
invariant-loop-item g l =
    (l.few ++ l.item-iterator.items ≡ l.fn.items.items) × (length l.few + length l.item-iterator.items ≤ g.row.N)
