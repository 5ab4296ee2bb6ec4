use Rattle.std.proofs.Common.{◌≡◌, ℕ, ◌+◌, ◌-◌, ◌<◌, ◌≤◌, false}
use Rattle.aa_table.specs.Slots.{tag_at}
use Rattle.aa_table.specs.Places.{key_at}
use Rattle.aa_table.proofs.index.HashIndex.slot_with.Given as goal

-- none of the slots passed has the key
abbrev pub invariant-each : goal.invariant-each
invariant-each g l =
    (s : ℕ) → l.from ≤ s → s < l.from + l.past → tag_at l.self.tags.items s ≡ l.tag
    → key_at (g.Q.Lookup.matches l.key) l.places.places s ≡ false

abbrev pub decreases-each : goal.decreases-each
decreases-each g l = 16 - l.past
