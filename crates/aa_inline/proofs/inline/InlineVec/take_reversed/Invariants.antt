use Rattle.std.proofs.Common.{◌≡◌, ◌++◌, ◌-◌, ◌≤◌, length}
use Rattle.std.specs.Prelude.{reverse}
use Rattle.aa_inline.specs.Inlined.{with_items, with_written, HasRoom}
use Rattle.aa_inline.proofs.inline.InlineVec.take_reversed.Given as goal

-- the items of both are in order, and the others fit
abbrev pub invariant-each : goal.invariant-each
invariant-each g l =
    let n = length l.fn.other.items in
    (l.self.items ++ reverse l.other.items ≡ l.fn.self.items ++ reverse l.fn.other.items) × (length l.other.items ≤ n) × HasRoom g.row.N l.self (length l.other.items)
    × (l.self ≡ with_written l.fn.self l.self.items (n - length l.other.items)) × (l.other ≡ with_items l.fn.other l.other.items)

abbrev pub decreases-each : goal.decreases-each
decreases-each g l = length l.other.items
