use Rattle.std.proofs.Common.{◌≡◌, ◌+◌, ◌-◌, ◌≤◌, length}
use Rattle.std.specs.Prelude.{insert}
use Rattle.aa_ring.specs.Ringed.{with_written}
use Rattle.aa_ring.proofs.ring.Ring.remove_from_back.Given as goal

-- with what is carried at the index, the list is as it was
abbrev pub invariant-each : goal.invariant-each
invariant-each g l =
    (insert l.self.items l.at l.carried ≡ l.fn.self.items) × (length l.self.items + 1 ≡ length l.fn.self.items)
    × (l.self ≡ with_written l.fn.self l.self.items (length l.self.items - l.at)) × (l.index ≤ l.at) × (l.at ≤ length l.self.items)

abbrev pub decreases-each : goal.decreases-each
decreases-each g l = l.at
