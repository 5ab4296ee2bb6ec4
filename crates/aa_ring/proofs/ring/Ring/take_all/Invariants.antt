use Rattle.std.proofs.Common.{◌≡◌, ◌++◌, ◌-◌, ◌≤◌, length}
use Rattle.aa_ring.specs.Ringed.{with_written, HasRoom}
use Rattle.aa_ring.proofs.ring.Ring.take_all.Given as goal

-- the items of both are in order, and the others fit
abbrev pub invariant-each : goal.invariant-each
invariant-each g l =
    let n = length l.fn.other.items in
    (l.self.items ++ l.other.items ≡ l.fn.self.items ++ l.fn.other.items) × (length l.other.items ≤ n) × HasRoom l.self (length l.other.items)
    × (l.self ≡ with_written l.fn.self l.self.items (n - length l.other.items)) × (l.other ≡ with_written l.fn.other l.other.items 0)

abbrev pub decreases-each : goal.decreases-each
decreases-each g l = length l.other.items
