use Rattle.std.proofs.Common.{◌≡◌, ◌+◌, ◌≤◌, length}
use Rattle.aa_ordered.specs.Iterating.{insert_all}
use Rattle.aa_ordered.specs.Capacity.{reserved_capacity, reserved_resizes}
use Rattle.aa_ordered.proofs.map.OrderedMap.append.Given as goal

-- the entries of `other` that remain are still to be inserted
abbrev pub invariant-each : goal.invariant-each
invariant-each g l = record {
  all : insert_all g.K.Ord.cmp l.self.entries l.other.entries ≡ insert_all g.K.Ord.cmp l.fn.self.entries l.fn.other.entries;
  room : length l.self.entries + length l.other.entries ≤ l.self.capacity;
  capacity : l.self.capacity ≡ reserved_capacity l.fn.self (length l.fn.other.entries);
  resizes : l.self.resizes ≡ reserved_resizes l.fn.self (length l.fn.other.entries);
  there : (l.other.capacity ≡ l.fn.other.capacity) × (l.other.resizes ≡ l.fn.other.resizes);
}

abbrev pub decreases-each : goal.decreases-each
decreases-each g l = length l.other.entries
