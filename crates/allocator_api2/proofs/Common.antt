-- The names from elsewhere that several proofs here cite, passed on.
pub use Rattle.aa_raw.proofs.Costs.{FewBlocks-grows, FewBlocks-more, FewBlocks-none, FewPlaces, FewPlaces-grows, FewPlaces-none}
pub use Rattle.aa_raw.specs.Growth.{amortized, min_capacity}
pub use Rattle.aa_raw.specs.Growths.{FewBlocks, Growths}
pub use Rattle.aa_raw.specs.declared.collections.TryReserveError.{TryReserveError}
pub use Rattle.aa_raw.specs.declared.collections.TryReserveErrorKind.{TryReserveErrorKind}
pub use Rattle.aa_raw.specs.declared.raw_vec.Growth.{Growth}
pub use Rattle.aa_raw.specs.declared.raw_vec.Growth.TheVariants.{Doubling, InPlace, Sparing}
pub use Rattle.aa_vec.proofs.Becoming.{GrowsTo-becomes, Holds-becomes, SameBlock-becomes}
pub use Rattle.aa_vec.proofs.ExtractRuns.{Extracted-end, Extracted-more, ExtractedTo, ExtractedTo-none, asked_count, asked_parts, extracts_may}
pub use Rattle.aa_vec.proofs.GrowthLemmas.{GrowsInSteps-rises, Holds-more, MakesRoom, MakesRoom-fits, MakesRoom-grows, MakesRoom-has, MakesRoom-rises, MakesRoom-unchanged, SameBlock-refl, SameBlock-trans, asks, block_of, grown_room}
pub use Rattle.aa_vec.specs.Choosing.{Call, CallableAtMut, CalledInOrder, ChainsFrom, Deduplicated, Deduplicates, EndsTrue, IsCallableInOrder, MayCallInOrder, MayChainFrom, MayDeduplicate, Retains, kept, passed_over, results_of}
pub use Rattle.aa_vec.specs.Copies.{IsMadeWithin, WritesAtMost}
pub use Rattle.aa_vec.specs.Drain.{Closes, KeepsRest, TakesRange, drain_remaining, drain_tail, drain_vec, drains_first, drains_last, range_len}
pub use Rattle.aa_vec.specs.Extend.{Extends, GrowsInSteps, LowerExactly, RemainingItems, grows, lower_bound_of, takes_item, unchanged}
pub use Rattle.aa_vec.specs.SpliceItems.{Gapped, PutsWithin, SpliceFails, SplicesAll, SplicesFront, gapped}
pub use Rattle.aa_vec.specs.Vector.{Becomes, GrowsTo, HasRoom, Holds, IsNew, SameBlock, Vector, len}
pub use Rattle.allocator_api2.specs.Commands.{Performs, PerformsOnMain, PerformsStep, TakesChosen, state_with_keep}
pub use Rattle.allocator_api2.specs.Laws.{CutIsJoined, IsDone, LeavesNoRepeats, NeighboursDiffer, PushesWithin, ReserveHolds, TestsEquality}
pub use Rattle.allocator_api2.specs.Machine.{Calls, CallsNone, Ends, FailsWith, Fits, FitsRange, InRange, IsPossible, Replies, State, Step, Succeeds, TakesOut, calls_of, drained_of, ends_of, remaining_of, state_of}
pub use Rattle.allocator_api2.specs.RangeCommands.{Chosen, Drained, TakesBack, TakesFront, TakesUpTo, ends_at}
pub use Rattle.allocator_api2.specs.Run.{AddsOneAtMost, AddsOrRemoves, IsCallableOnRuns, IsRun, MayCall, MayRun, RunsWithin, Turn, added, added_by, cost, cost_of, greatest_length, hint_of, moves_each}
pub use Rattle.allocator_api2.specs.declared.runner.Command.{Command}
pub use Rattle.allocator_api2.specs.declared.runner.Command.TheVariants.{Append, Clear, Dedup, Drain, Extend, ExtractIf, Insert, Pop, Push, Remove, Retain, Splice, SplitOff, SwapRemove, Truncate, Within}
pub use Rattle.allocator_api2.specs.declared.runner.Reply.{Reply}
pub use Rattle.allocator_api2.specs.declared.runner.Reply.TheVariants.{Back, Done, Item, Nothing, Range, Refused}
pub use Rattle.std.proofs.Common.{Bool, List, None, Option, Some, [], add-mul, add-zero, ap, append_assoc, arith, drop, false, inl, inr, length, length-append, length-drop, length-set, length-take, map, max, min, mul-le-mul_right, refl, reverse, rules, subst, suc, suc-mul, sum_by, sym, take, true, zero, zero-add, ℕ, ◌*◌, ◌++◌, ◌+◌, ◌-◌, ◌<◌, ◌∙◌, ◌∷◌, ◌≡◌, ◌≤◌, ◌⊎◌}
pub use Rattle.std.proofs.lemmas.Bool.Decides.{nat_tests}
pub use Rattle.std.proofs.lemmas.List.{append-nil, drop-append-le, drop-drop, drop_all, drop_at, length-map, length-reverse, map-append, reverse-append, take-append-drop, take-append-le, take-take, take_all, take_at}
pub use Rattle.std.proofs.lemmas.List.Sums.{sum_by-cons}
pub use Rattle.std.specs.Fn.{CalledAtMut}
pub use Rattle.std.specs.List.{AllByRecursion, repeat}
pub use Rattle.std.specs.Mem.{type_size}
pub use Rattle.std.specs.Prelude.{Err, Ok, Result, if◌then◌else◌, slice_index_or, slice_range, slice_set, ⊤, ◌/◌}
pub use denote.Param.{param}
