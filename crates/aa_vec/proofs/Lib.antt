-- The names that the proofs of the functions cite, passed on.
pub use Becoming.{Becomes-holds, became, becomes}
pub use Calling.{CallsUntil-here, ChainsAlong-end, ChainsAlong-here, HasCalled, HasCalled-more, HasChained, HasChained-more, Reached-none, called_between, neighbours_are, next_pair}
pub use Common.{CallableAtKeys, CallableAtMut, CallableAtPairMut, CalledAtMut, CalledAtPairMut, ComparesKeys, Deduplicates, Equals, HasTail, IsFinite, IsNearerEnd, IsRun-set, IsRun-set-above, KeepsWhen, LowerAtMost, None, OpensGap, TakesAt, Vector, YieldsCopies, [], ap, arith, at_ends, at_positions, drop, err_from_is_err_and, false, get_or, len, length, length-append, length-run, length-set, length-take-le, none-fresh, param, refl, rules, size, subst, sym, take, type_size, view_of, ◌++◌, ◌+◌, ◌-◌, ◌<◌, ◌∙◌, ◌∷◌, ◌≡◌, ◌≤◌}
pub use ExtendLemmas.{Drains-read, ExtendResult-left, Placing, Placing-end, Placing-fails, Placing-filled, Placing-full, Placing-grown, Placing-misfits, Placing-start, whole_run}
pub use Filling.{FillsAndCloses-gap, IsFront-raised, OpensGap-view, Placed-put, Placed-start, fits, gaps, widen_room}
pub use Forwarded.{Deduplicates-lent, IsCallableAlong-on, IsCallableInOrder-on, Retains-on}
pub use Gaps.{IsRun-cleared, IsRun-closed, IsRun-front, before, borrowed-is, closed, drop-rewritten, last-item, moved-by_one, run-rewritten, taken-value, there, within}
pub use Stages.{Stage, stage-on}
pub use Tails.{closes_none, count, first_tail, others_first, takes_next, takes_none}
pub use Tidy.{IsWhole-restored, few-beside, few-cleared, few-inserted, few-lowered, few-none, few-put, few-raised, few-removed, few-reserve, few-set_apart, few-swapped, few-taken, few-taken_apart, fewer}
pub mod Becoming
pub mod Common
pub mod Boxing
pub mod GrowthLemmas
pub mod CopiesLemmas
pub mod Counted
pub mod ExtendLemmas
pub mod Filled
pub mod Joining
pub mod Room
pub mod Turns
pub mod Gaps
pub mod Calling
pub mod Tails
pub mod Chains
pub mod Stages
pub mod Retaining
pub mod Closed
pub mod Deduplicating
pub mod ExtractTurns
pub mod ExtractLemmas
pub mod ExtractRuns
pub mod Forwarded
pub mod Callable
pub mod PureTests
pub mod Callers
pub mod TailLemmas
pub mod DrainLemmas
pub mod Walks
pub mod GivenUp
pub mod DrainFields
pub mod HintLemmas
pub mod Gathered
pub mod Filling
pub mod Reading
pub mod Replacing
pub mod SpliceLemmas
pub mod SpliceFields
pub mod Outcomes
pub mod SpliceByItems
pub mod Flattening
pub mod Tidy
