-- What a caller of the vector names: the ruleset,
-- `#[tactic(auto, using(allocator_api2::proofs::Callers::callers))]`; what `retain` leaves by a
-- closure that tests each element for itself; what such a closure takes out by `extract_if` and
-- `extract_by`, with the ruleset `sifts` for loops of that; what `dedup_by` and `dedup_by_key`
-- leave if the result depends on the elements alone; what a closure that always returns the same
-- value fills a vector with; and what the items of an `Items` come to.
pub use Rattle.aa_vec.proofs.Becoming.{became}
pub use Rattle.aa_vec.proofs.Callers.{callers, all_same, filled_up, filled_new, Retains_filter, Retains_filter_reading}
pub use Rattle.aa_vec.proofs.Counted.{items-all}
pub use Rattle.allocator_api2.proofs.Sifting.{sifts, left-end, Extracts_filter, Extends_filter, takes}
pub use Rattle.aa_vec.proofs.PureTests.{Deduplicates_dedup}
pub use Rattle.allocator_api2.proofs.Slices.{positions, position_cases, ranged, range_items, mapped, map_in_place, searches, found_in_order, absent_in_order}
