use Rattle.std.proofs.Common.{length, ◌+◌, ◌≡◌, ◌≤◌}
use Rattle.allocator_api2.specs.Places.{somes}
use Rattle.aa_table.specs.Slots.{IsIndex}
use Rattle.aa_table.specs.Places.{hashes, hashes_of}
use Rattle.aa_table.proofs.Retaining.{IsPassed}
use Rattle.aa_table.proofs.table.retain.retain_in.Given as goal

-- the closure was called for the entries of earlier slots
abbrev pub invariant-each : goal.invariant-each
invariant-each g l = record {
  callable : g.P.Keeper.is_callable l.keeper;
  index : IsIndex l.index.tags.items l.index.overflows.items (hashes_of (hashes g.S.BuildHasher g.S.Hasher.Hasher g.K.Hash.hash_input l.builder) l.places.places);
  slots : length l.index.tags.items ≡ length l.fn.index.tags.items;
  count : l.removed + length (somes l.places.places) ≡ length (somes l.fn.places.places);
  few : l.removed ≤ l.slot;
  passed : IsPassed g.P.Keeper.calls l.fn.keeper l.fn.places.places l.keeper l.places.places l.slot;
}
