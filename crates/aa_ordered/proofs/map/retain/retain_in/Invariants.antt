use Rattle.std.proofs.Common.{◌≡◌, ◌+◌, ◌-◌, ◌≤◌, ◌<◌, length}
use Rattle.aa_ordered.specs.Balance.{joined, lengths, position, IsAt, IsBalanced}
use Rattle.aa_ordered.specs.Entries.{IsOrdered}
use Rattle.aa_ordered.proofs.Passing.{IsPassed}
use Rattle.aa_ordered.proofs.map.retain.retain_in.Given as goal

-- the closure was called for the entries before the spot
abbrev pub invariant-each : goal.invariant-each
invariant-each g l = record {
  callable : goal.F-IsAlwaysCallable g l.f;
  balanced : IsBalanced (lengths l.leaves.lists);
  ordered : IsOrdered g.K.Ord.cmp (joined l.leaves.lists);
  room : l.leaves.room ≡ l.fn.leaves.room;
  resizes : l.leaves.resizes ≡ l.fn.leaves.resizes;
  count : l.removed + length (joined l.leaves.lists) ≡ length (joined l.fn.leaves.lists);
  item : l.spot.list < length l.leaves.lists → IsAt l.leaves.lists l.spot.list l.spot.at;
  end : length l.leaves.lists ≤ l.spot.list → position l.leaves.lists l.spot.list l.spot.at ≡ length (joined l.leaves.lists);
  passed : IsPassed (goal.F-step g) l.fn.f (joined l.fn.leaves.lists) l.f (joined l.leaves.lists) (position l.leaves.lists l.spot.list l.spot.at);
}

abbrev pub decreases-each : goal.decreases-each
decreases-each g l = length (joined l.leaves.lists) - position l.leaves.lists l.spot.list l.spot.at
