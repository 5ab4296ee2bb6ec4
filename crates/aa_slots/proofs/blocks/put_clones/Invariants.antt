use Rattle.std.proofs.Common.{◌≡◌, ℕ, ◌<◌, None, Some, get_or, length}
use Rattle.std.specs.Prelude.{true}
use Rattle.aa_slots.specs.Inside.{is_held, state_at}
use Rattle.aa_slots.proofs.blocks.put_clones.Given as goal

-- the values of earlier slots have their clones
abbrev pub invariant-each : goal.invariant-each
invariant-each g l = record {
  made : (i : ℕ) → i < l.index → is_held (state_at l.slots i) ≡ true
      → (x y : _) × (get_or l.from.places i None ≡ Some (tt, x))
      × (get_or l.to.places i None ≡ Some (tt, y)) × g.T.Clone.is_clone x y;
  room : length l.to.places ≡ length l.fn.to.places;
  counts : l.to.grown ≡ l.fn.to.grown;
  growth : l.to.growth ≡ l.fn.to.growth;
}
