use Rattle.std.proofs.Common.{◌≡◌, ◌++◌, ◌-◌, ◌≤◌, length, take, drop}
use Rattle.aa_ring.specs.Ringed.{with_written}
use Rattle.aa_ring.proofs.ring.Ring.move_last.Given as goal

-- the items from `end` on are in the other ring
abbrev pub invariant-each : goal.invariant-each
invariant-each g l =
    let xs = l.fn.self.items in
    (l.self ≡ with_written l.fn.self (take l.end xs) 0) × (l.tail ≡ with_written l.fn.tail (drop l.end xs ++ l.fn.tail.items) (length xs - l.end))
    × (l.at ≤ l.end) × (l.end ≤ length xs)

abbrev pub decreases-each : goal.decreases-each
decreases-each g l = l.end
