use Rattle.std.proofs.Common.{None, get_or, length, ℕ, ◌<◌, ◌≡◌, ◌≢◌, ◌≤◌}
use Rattle.aa_table.specs.Slots.{tag_at}
use Rattle.aa_table.proofs.growth.drop_slots.Given as goal

-- the entries of earlier slots are dropped, and the others are unchanged
abbrev pub invariant-each : goal.invariant-each
invariant-each g l = record {
  len : length l.places.places ≡ length l.fn.places.places;
  gone : (s : ℕ) → l.from ≤ s → s < l.slot → tag_at l.tags s ≢ 0 → get_or l.places.places s None ≡ None;
  others : (s : ℕ) → get_or l.fn.places.places s None ≡ None → get_or l.places.places s None ≡ None;
  same : (s : ℕ) → l.slot ≤ s → get_or l.places.places s None ≡ get_or l.fn.places.places s None;
  after : (s : ℕ) → l.end ≤ s → get_or l.places.places s None ≡ get_or l.fn.places.places s None;
}
