use Rattle.std.proofs.Common.{◌≡◌, ◌-◌, length}
use Rattle.std.specs.Prelude.{insert}
use Rattle.aa_ring.specs.Ringed.{with_written}
use Rattle.aa_ring.proofs.ring.Ring.insert_from_back.Given as goal

-- with the carried value at the index, the list is the result
abbrev pub invariant-each : goal.invariant-each
invariant-each g l =
    (insert l.self.items l.at l.carried ≡ insert l.fn.self.items l.index l.fn.item) × (length l.self.items ≡ length l.fn.self.items)
    × (l.self ≡ with_written l.fn.self l.self.items (l.at - l.index))
