-- The names from elsewhere that proofs here cite, passed on.
pub use Rattle.aa_boxed.specs.Boxed.{value_of}
pub use Rattle.aa_boxed.specs.BoxedSliceInner.{IsWhole}
pub use Rattle.aa_boxed.specs.Hints.{LowerAtMost, YieldsWithLower}
pub use Rattle.aa_boxed.specs.Room.{IsExactFor}
pub use Rattle.aa_boxed.specs.Slice.{Building, CollectCost, FailsAtEnd, FromIterFails, Slice, empty_builder, finished, shrunk, slice_of, with_pushed, with_room}
pub use Rattle.aa_boxed.specs.Text.{StringReserveFails, AppendsTexts, FailsAtText, Text, appended_capacity, reserved_capacity}
pub use Rattle.aa_boxed.specs.contracts.boxed.Box.{the_row}
pub use Rattle.aa_raw.proofs.Beyond.{IsRun-forgot, forgot, length-forgot, none-forgot, none_there}
pub use Rattle.aa_raw.proofs.Common.{AllZip, AllZip-push, Block, IsRun, Logic, SProp, Ura, emp, empty_places, ent, eqb_tells, ex, fact, fresh, length-replicate, list_all, nat_tests, param, run, sep, new_capacity, take_at_read, type_size, usize_max, via, wand, with_run, with_written}
pub use Rattle.aa_raw.proofs.Places.{endless-empty, filled_within, length-empty_places, new_capacity-empty, same_or_not}
pub use Rattle.aa_raw.proofs.Runs.{IsRun-with, length-run, run-is, run-one, run-with}
pub use Rattle.aa_raw.proofs.Singles.{IsRun-as_block, run-as_block}
pub use Rattle.aa_raw.specs.Errors.{IsErrorFor}
pub use Rattle.aa_raw.specs.Growth.{amortized, min_capacity}
pub use Rattle.aa_raw.specs.Room.{LacksRoom}
pub use Rattle.aa_raw.specs.declared.collections.TryReserveError.{TryReserveError}
pub use Rattle.aa_raw.specs.declared.collections.TryReserveErrorKind.TheVariants.{AllocError, CapacityOverflow}
pub use Rattle.aa_raw.specs.declared.raw_vec.Growth.TheVariants.{Doubling}
pub use Rattle.std.proofs.Common.{Bool, Err, IfErr, IfOk, IfSome, IsUtf8, List, None, Ok, Option, Result, Some, String, [], ap, append-nil, append_assoc, arith, drop, eq-eqb, false, flat_map, get_or, if◌then◌else◌, inl, inr, is_none, is_some, length, length-append, map, max, refl, replicate, rules, subst, suc, sym, take, true, zero, ℕ, ◌*◌, ◌++◌, ◌+◌, ◌-◌, ◌<◌, ◌==◌, ◌^◌, ◌∙◌, ◌∷◌, ◌≡◌, ◌≢◌, ◌≤◌}
pub use Rattle.std.proofs.iter.Next.{Yields-more}
pub use Rattle.std.proofs.iter.runs.Consumers.{total_runs}
pub use Rattle.std.proofs.lemmas.List.{take_all}
pub use Rattle.std.proofs.lemmas.Result.{err_from_is_err_and}
pub use Rattle.std.proofs.lemmas.Str.{IsUtf8-append, IsUtf8-had}
pub use Rattle.std.specs.Borrow.{GName, RattleType, follows_if, follows_so, sem}
pub use Rattle.std.specs.Io.{StartsWith}
pub use Rattle.std.specs.Io.BufRead.{FillKeeps}
pub use Rattle.std.specs.Iterator.{Count, Yields, YieldsThen, size}
pub use Rattle.std.specs.Iterator.Runs.{WholeRun}
pub use Rattle.std.specs.Prelude.{min, ⊤}
pub use Rattle.std.specs.String.{string_bytes, string_capacity}
pub use base.Logic.{all, all_i, emp∗, ex_e, ex_i, mono_r, snd∗, wand_i}
pub use borrow.Fn.Refines.{Turns}
unfoldable pub use denote.Follow.{such_by}
pub use Rattle.aa_raw.specs.Growths.{FewBlocks, Growths, of_new, with_growth, with_shrink}
pub use Rattle.std.proofs.Math.Nat.{le-mul_of_pos_right, pow-succ'}
pub use mathlib.Core.Option.{none}
