use Rattle.std.proofs.Common.{◌≡◌, ◌<◌, ◌≤◌, ℕ, get_or, length}
use Rattle.aa_ordered.specs.Arena.{list_of, IsHeld, IsMoved}
use Rattle.aa_ordered.specs.declared.leaves.Head.{Head}
use Rattle.aa_ordered.proofs.leaves.moves.move_lists.Given as goal

-- the first lists are moved, and the others are where they were
abbrev pub invariant-each : goal.invariant-each
invariant-each g l = record {
  count : length l.to.places ≡ length l.fn.to.places;
  rest : (j : ℕ) (h : Head) → l.i ≤ j → j < length l.heads → h ≡ get_or l.heads j h
      → IsHeld l.from.places h × (list_of l.from.places h ≡ list_of l.fn.from.places h);
  moved : (j : ℕ) (h : Head) → j < l.i → h ≡ get_or l.heads j h → IsMoved l.fn.from.places l.to.places j h;
}
