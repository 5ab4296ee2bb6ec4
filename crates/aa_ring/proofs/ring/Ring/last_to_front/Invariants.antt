use Rattle.std.proofs.Common.{◌≡◌, ◌++◌, ◌-◌, ◌≤◌, length, take, drop}
use Rattle.aa_ring.specs.Ringed.{with_written}
use Rattle.aa_ring.proofs.ring.Ring.last_to_front.Given as goal

-- the items from `at` on are before the others
abbrev pub invariant-each : goal.invariant-each
invariant-each g l =
    let xs = l.fn.self.items in
    (l.self ≡ with_written l.fn.self (drop l.at xs ++ take l.at xs) (length xs - l.at)) × (l.rest ≤ l.at) × (l.at ≤ length xs)

abbrev pub decreases-each : goal.decreases-each
decreases-each g l = l.at
