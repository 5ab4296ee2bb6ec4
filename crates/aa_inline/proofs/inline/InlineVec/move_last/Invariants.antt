use Rattle.std.proofs.Common.{◌≡◌, ◌++◌, ◌-◌, ◌≤◌, length}
use Rattle.std.specs.Prelude.{reverse}
use Rattle.aa_inline.specs.Inlined.{with_items, with_written, HasRoom}
use Rattle.aa_inline.proofs.inline.InlineVec.move_last.Given as goal

-- the last items were moved, in reverse order, and the others fit
abbrev pub invariant-each : goal.invariant-each
invariant-each g l =
    (l.self.items ++ reverse l.to.items ≡ l.fn.self.items) × (l.self ≡ with_items l.fn.self l.self.items) × (l.to ≡ with_written l.fn.to l.to.items (length l.to.items))
    × (l.rest ≤ length l.self.items) × HasRoom g.row.N l.to (length l.self.items - l.rest)

abbrev pub decreases-each : goal.decreases-each
decreases-each g l = length l.self.items
