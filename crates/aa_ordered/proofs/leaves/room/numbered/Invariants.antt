use Rattle.std.proofs.Common.{◌≡◌, ◌<◌, ◌≤◌, ℕ, get_or, length}
use Rattle.aa_ordered.specs.declared.leaves.Head.{Head}
use Rattle.aa_ordered.proofs.leaves.room.numbered.Given as goal

-- the heads so far
abbrev pub invariant-each : goal.invariant-each
invariant-each g l = record {
  count : length l.made.items ≡ l.leaf;
  leaves : (i : ℕ) (d : Head) → i < l.leaf → (get_or l.made.items i d).leaf ≡ i;
  lens : (i : ℕ) (d : Head) → i < l.leaf → i < length l.heads → (get_or l.made.items i d).len ≡ (get_or l.heads i d).len;
  room : l.leaves ≤ l.made.capacity;
}
