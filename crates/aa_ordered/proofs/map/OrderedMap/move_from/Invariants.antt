use Rattle.std.proofs.Common.{◌≡◌, ◌≤◌, ◌++◌, length}
use Rattle.aa_ordered.proofs.map.OrderedMap.move_from.Given as goal

-- the entries of both are those of the map before, in order
abbrev pub invariant-each : goal.invariant-each
invariant-each g l = record {
  all : l.self.entries ++ l.rest.entries ≡ l.fn.self.entries;
  within : l.fn.at ≤ length l.self.entries;
  held : (l.self.capacity ≡ l.fn.self.capacity) × (l.self.resizes ≡ l.fn.self.resizes);
  there : (l.rest.capacity ≡ l.fn.rest.capacity) × (l.rest.resizes ≡ l.fn.rest.resizes);
}

abbrev pub decreases-each : goal.decreases-each
decreases-each g l = length l.self.entries
