use Rattle.std.proofs.Common.{◌≡◌, ◌++◌, length}
use Rattle.std.specs.Prelude.{◌%◌, ◌==◌}
use Rattle.allocator_api2.specs.Extract.{extract_remaining, extract_lender}
use Rattle.allocator_api2.specs.Sifting.{remaining_matches, items_at_end}
use Rattle.guide.proofs.chosen.move_even.Given as goal

abbrev pub decreases-loop-x : goal.decreases-loop-x
decreases-loop-x g l = length (extract_remaining l.range)

-- what was moved, and what is still to be
abbrev pub invariant-loop-x : goal.invariant-loop-x
invariant-loop-x g l =
    (l.to.items ++ remaining_matches (λ x. x % 2 == 0) l.range ≡ l.initial.to.items ++ remaining_matches (λ x. x % 2 == 0) l.initial.range)
    × (items_at_end (λ x. x % 2 == 0) l.range ≡ items_at_end (λ x. x % 2 == 0) l.initial.range)
    × (extract_lender l.range ≡ extract_lender l.initial.range)
