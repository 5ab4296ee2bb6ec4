-- The rulesets that an author of a collection on a block names, as
-- `#[tactic(auto, using(allocator_api2::proofs::Blocks::at_ends))]`:
--     at_ends     put, take, place, place_mut at the first places or the last
--     at_positions     the same at any place, and runs that move by one
--     at_both_ends     put and take at both ends of a run that begins anywhere, described by its first place and how many values it has
--     between     the same, where it is described by its first place and the first place after it
--     two_runs     a value of two lists in line, of which the first is a run
--     apart     that two runs have no place in common
--     by_arithmetic     put and take at numbers that only arithmetic finds equal, and the parts of a run
--     with_room     the constructors, the reserves and the shrinks
--     shown     slice, slice_mut, and what a loan wrote back
--     in_runs     move_one, move_run, transfer, drop_run, put_array, take_array
--     emptied     that no place holds a value when the block is dropped, after drop_run, take_array, transfer, forget_run, forget_from
--     at_sides, around_run, grown_at_end     that the places before a run, or after it, hold none
--     numbers     the kind and the number of the error of a failed allocation
-- With many lemmas the search proves less: name no more of them than a function needs. Proofs by
-- hand cite the single lemmas.
pub use Rattle.aa_raw.proofs.Calls.{at_ends, with_room, shown}
pub use Rattle.allocator_api2.proofs.BlocksMoved.{at_positions, in_runs}
pub use Rattle.aa_raw.proofs.Beyond.{at_sides, around_run, emptied, grown_at_end, none_there, none-at, none-each, none-still, none-within}
pub use Rattle.aa_raw.proofs.Places.{length-with_run}
pub use Rattle.aa_raw.proofs.Errors.{numbers}
pub use Rattle.aa_raw.proofs.TwoRuns.{apart}
pub use Rattle.aa_raw.proofs.BothEnds.{at_both_ends, between, two_runs, by_arithmetic, rotated, slice_get-front, slice_get-after, slice_get-run_from, run-unshift, IsRun-unshift}
pub use Rattle.aa_raw.proofs.Runs.{length-run, run-push, IsRun-push, run-pop, IsRun-pop, run-shift, IsRun-shift, run-split, IsRun-part, run-none, run-one, IsRun-nil, IsRun-joined, run-set-above, run-set-below, run-set-same, IsRun-set-above, IsRun-set-below, first-filled, last-filled}
