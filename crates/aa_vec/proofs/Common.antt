-- The names from elsewhere that several proofs here cite, passed on.
pub use Rattle.aa_raw.proofs.Beyond.{none-at, none-forgotten_from, none-fresh, none-unallocated}
pub use Rattle.aa_raw.proofs.Calls.{IsRun-reserved, IsRun-rest, IsRun-with-below, at_ends, run-of_none, run-put, run-reserved, run-take_first, run-transferred}
pub use Rattle.aa_raw.proofs.Places.{below_or_not, length-moved, length-with_run, moved_one, same_or_not}
pub use Rattle.aa_raw.proofs.Runs.{IsRun-long, IsRun-part, IsRun-same, IsRun-set-above, cut-long, drop-with, first-filled, length-run, run-drop, run-filled, run-is, run-moved, run-moved-below, run-none, run-one, run-push, run-set-above, run-split, run-take, run-with-below, run-zero}
pub use Rattle.aa_raw.specs.Block.{Block, ReserveResult, Reserves, cut_to, with_moved, with_places, with_written}
pub use Rattle.aa_raw.specs.Closures.{CallableAtPairMut}
pub use Rattle.aa_raw.specs.Growth.{amortized, min_capacity, usize_max}
pub use Rattle.aa_raw.specs.Places.{AreEmpty, IsRun, IsFilled}
unfoldable pub use Rattle.aa_raw.specs.Places.{moved, run, with_run}
pub use Rattle.aa_raw.specs.declared.collections.TryReserveError.{TryReserveError}
pub use Rattle.aa_raw.specs.declared.raw_vec.Growth.{Growth}
pub use Rattle.aa_raw.specs.declared.raw_vec.Growth.TheVariants.{Doubling, InPlace, Sparing}
pub use Rattle.aa_vec.specs.Arrays.{flattened}
unfoldable pub use Rattle.aa_vec.specs.Tail.{count_from}
pub use Rattle.aa_raw.proofs.Firsts.{IsRun-set, run-at, run-set}
pub use Rattle.aa_raw.proofs.Positions.{at_positions, length-inserted, run-inserted}
pub use Rattle.aa_vec.specs.Choosing.{Call, CalledInOrder, ChainsFrom, Deduplicated, Deduplicates, EndsTrue, Equals, IsCallableAlong, IsCallableInOrder, IsPureTest, MayCallInOrder, MayChainFrom, MayDeduplicate, Reads, Retains, CallableAtKeys, CallableAtMut, results_of, kept, kept_after_removed, passed_over}
pub use Rattle.aa_vec.specs.Copies.{AppendsClones, AppendsResults, AssignsPart, ClonesAreEqual, AppendsCopies, IsMade, IsMadeOfOne, MayCallTimes, AppendFails, RolledBack, WritesAtMost}
pub use Rattle.aa_vec.specs.Drain.{Closes, DrainKeeps, KeepsRest, TakesRange, drain_remaining, drain_tail, drains_first, drains_last}
pub use Rattle.aa_vec.specs.Extend.{GrowsInSteps, YieldsCopies, CollectResult, ExtendResult, HasCollected, HasExtended, Extends, RemainingItems, EndsAt, Takes, LowerAtMost, LowerExactly, YieldsWithLower, takes_item, grows, lower_bound_of, unchanged}
pub use Rattle.aa_vec.specs.Extract.{ClosesExtract, Extracted, Extracts, ExtractsAlong, ExtractsRange, extract_count, extract_kept, extract_remaining, extract_tail, extract_vec}
pub use Rattle.aa_vec.specs.Filling.{FillsAndCloses, FillsGap, Collects, LacksRest, OpensGap, Placed, Puts, PutsAll, PutsFront, PutsRest, WidensGap, YieldsForGap}
pub use Rattle.aa_vec.specs.SpliceItems.{Gapped, LacksOthers, PutsWithin, Replaced, SplicesAll, SplicesFront, SpliceFails, gapped, tail_moves}
pub use Rattle.aa_vec.specs.Tail.{ClosesGap, ClosesTwoGaps, DropsAndCloses, DropsTail, LeavesInTail, ShiftsDown, SetsTail, HasTail, tail_items, with_spare}
pub use Rattle.aa_vec.specs.Until.{CallsOnTail, CallsOnLast, CallsUntil, ChainsAlong, ChainsOnTail, ChainsUntil, CallsAndShifts, Picks, KeepsWhen, TakesNext}
pub use Rattle.aa_vec.specs.VecInner.{IsFront, IsWhole, view_of}
pub use Rattle.aa_vec.specs.Vector.{Becomes, GrowsTo, HasRoom, Holds, IsNew, LacksRoom, SameBlock, Vector, Writes, len, moved_over, run_count, new_capacity, vector_in, with_items, with_room}
pub use Rattle.aa_vec.specs.declared.vec.Vec.TheInside.{Inside}
pub use Rattle.aa_vec.specs.declared.vec.drain.Drain.{Drain}
pub use Rattle.aa_vec.specs.declared.vec.extract_if.ExtractBy.{ExtractBy}
pub use Rattle.aa_vec.specs.declared.vec.extract_if.ExtractIf.{ExtractIf}
pub use Rattle.std.proofs.Common.{Bool, List, MutBor, None, Option, Some, [], ap, append_assoc, arith, drop, false, get_or, inl, inr, length, length-append, length-drop, length-set, length-take, map, not, refl, replicate, rules, subst, suc, sym, take, true, true≢false, zero, zero-add, ℕ, ◌*◌, ◌++◌, ◌+◌, ◌-◌, ◌<◌, ◌^◌, ◌∙◌, ◌∷◌, ◌≡◌, ◌≤◌}
pub use Rattle.std.proofs.Math.Nat.{add_assoc, le-mul_of_pos_right}
pub use Rattle.std.proofs.Math.Seq.{drop-cons, take-nil}
pub use Rattle.std.proofs.lemmas.Bool.{cases_lt}
pub use Rattle.std.proofs.lemmas.Bool.Decides.{eqb_tells, nat_tests}
pub use Rattle.std.proofs.lemmas.Grind.{common_steps, get_or-set_at}
pub use Rattle.std.proofs.lemmas.List.{append-nil, drop-append-le, drop-drop, drop-map, drop-set, drop-set-add, drop-set-lt, drop-take, drop_all, drop_at, get_or-drop, get_or-replicate, get_or-take, get_or_append_left, length-map, length-replicate, length-take-le, map-append, map-id, places, replicate_more, same_from_push, take-append-drop, take-append-le, take-set, take_all, take_at}
pub use Rattle.std.proofs.lemmas.List.Elements.{all_zip_more, filter-append, length_all_zip, same_from_all_zip}
pub use Rattle.std.proofs.lemmas.List.Sums.{count_by-le-length, sum_by-append, sum_by-cons, sum_by-take-drop}
pub use Rattle.std.proofs.lemmas.Result.{err_from_is_err_and}
pub use Rattle.std.specs.Fn.{CalledAtMut, CalledAtPairMut, ComparesKeys, TakesAt}
pub use Rattle.std.specs.Iterator.{Count, Drains, IsFinite, IsNearerEnd, MakesProgress, Yields, at_most, size, size as count_of}
pub use Rattle.std.specs.Iterator.Runs.{WholeRun, YieldsInOrder, YieldsInReverse}
pub use Rattle.std.specs.List.{AllZip, FoldsTo, dedup, dedup_from, length_refill, list_all, refill}
pub use Rattle.std.specs.Mem.{type_size}
pub use Rattle.std.specs.Prelude.{All, Err, IfErr, MatchOption, MatchResult, Ok, OnOk, Result, cond, count_by, filter, if◌then◌else◌, insert, is_some, min, nat_le, slice_range, slice_set, ⊤, ◌==◌}
pub use Rattle.std.specs.declared.alloc.Allocator.{Ghosts}
pub use base.Logic.{emp, emp∗, ent, id⊢, mono∗, sep, via}
pub use borrow.Rule.Reborrow.{re_v}
pub use contract.BorrowLft.{◌⊑◌}
pub use contract.Lifetimes.{Lfts}
pub use contract.Monad.{fact, fact_i, fact_use}
pub use denote.Laws.{Are, Is, Ises, Makes, all_tell, owns_show, showss, valss}
pub use denote.Param.{layout, param}
pub use denote.RattleType.{RattleType, Valss, flat, mirs}
pub use denote.Signature.{named_lft, plain}
pub use denote.Struct.Declared.{Declared, row}
pub use mir.Syntax.{Ty, named, w64}
pub use mir.Val.{WT, WTs, has_ty, has_tys, of_list, vint, vstruct}
pub use seplogic.Ra.Ura.{Ura}
pub use types.Kit.{by, fpick, ◌$◌}
pub use types.Logic.{Logic, sem}
