use Rattle.std.proofs.Common.{◌≡◌, All, drop, length}
use Rattle.aa_ordered.specs.Arena.{IsHeld}
use Rattle.aa_ordered.proofs.leaves.moves.drop_lists.Given as goal

-- the lists that follow have their values
abbrev pub invariant-each : goal.invariant-each
invariant-each g l =
    record {
      count : length l.block.places ≡ length l.fn.block.places;
      held : All (IsHeld l.block.places) (drop l.i l.heads);
    }
