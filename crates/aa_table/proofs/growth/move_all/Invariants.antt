use Rattle.std.proofs.Common.{◌≡◌, ℕ, ◌<◌, ◌≤◌, ◌++◌, None, get_or, length}
use Rattle.std.specs.Prelude.{IsPermutation}
use Rattle.allocator_api2.specs.Places.{somes}
use Rattle.aa_table.specs.Slots.{IsIndex}
use Rattle.aa_table.specs.Places.{hashes, hashes_of}
use Rattle.aa_table.proofs.growth.move_all.Given as goal

-- each key is in the old or the new places, those of earlier slots are moved, and the new index is
-- complete
abbrev pub invariant-each : goal.invariant-each
invariant-each g l =
    IsPermutation (somes l.fn.from.places) (somes l.to.places ++ somes l.from.places)
    × ((s : ℕ) → s < l.slot → get_or l.from.places s None ≡ None)
    × ((s : ℕ) → l.slot ≤ s → get_or l.from.places s None ≡ get_or l.fn.from.places s None)
    × IsIndex l.index.tags.items l.index.overflows.items (hashes_of (hashes g.S.BuildHasher g.S.Hasher.Hasher g.K.Hash.hash_input l.builder) l.to.places)
    × (length l.index.tags.items ≡ length l.fn.index.tags.items)
    × (length l.to.places ≡ length l.fn.to.places)
