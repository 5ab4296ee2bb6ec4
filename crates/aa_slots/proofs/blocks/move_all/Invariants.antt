use Rattle.std.proofs.Common.{◌≡◌, ℕ, ◌<◌, ◌≤◌, None, get_or, length}
use Rattle.std.specs.Prelude.{true}
use Rattle.aa_slots.specs.Inside.{is_held, state_at}
use Rattle.aa_slots.proofs.blocks.move_all.Given as goal

-- the values of earlier slots are moved, and the others are where they were
abbrev pub invariant-each : goal.invariant-each
invariant-each g l = record {
  moved : (i : ℕ) → i < l.index → is_held (state_at l.slots i) ≡ true
      → get_or l.to.places i None ≡ get_or l.fn.from.places i None;
  others : (i : ℕ) → l.index ≤ i
      → get_or l.from.places i None ≡ get_or l.fn.from.places i None;
  room : length l.to.places ≡ length l.fn.to.places;
  counts : l.to.grown ≡ l.fn.to.grown;
  growth : l.to.growth ≡ l.fn.to.growth;
}
