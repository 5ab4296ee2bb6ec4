-- The names from elsewhere that proofs here cite, passed on.
pub use Rattle.aa_raw.specs.Block.{Block, ReserveResult, Reserves, cut_to, fresh, grown_to, with_places, with_written, without}
pub use Rattle.aa_raw.specs.Clones.{HoldsClones}
pub use Rattle.aa_raw.specs.Growth.{amortized, new_capacity, usize_max}
pub use Rattle.aa_raw.specs.Ownership.{each, fits_isize, capacity_bounds, row_shares, row_owns, place_owns, place_shares, token_for}
pub use Rattle.aa_raw.specs.RowLends.{holding}
unfoldable pub use Rattle.aa_raw.specs.Places.{
  AreEmpty,
  IsCapacity,
  IsFilled,
  IsRun,
  empty_places,
  moved,
  run,
  somes,
  with_run,
  zst_places,
}
pub use Rattle.aa_raw.specs.TwoRuns.{AreApart, AreJoined, AreParted, IsFull, ReservesRuns, both, grown_with}
pub use Rattle.aa_raw.specs.contracts.counter.Counter.{the_row as tally_row}
pub use Rattle.core.proofs.alloc.Calls.{Al, Answer, Answer-typed, Answered, Gives, Gives-Gives, Gives-goes, Goes-blank, Takes, Takes-gives, Takes-goes, answers, at_gives, at_takes, token}
pub use Rattle.core.proofs.alloc.Resizes.{Grows, Resized, Resizes, Resizes-gives, Resizes-goes, at_resizes, flagged}
pub use Rattle.core.proofs.mem.Facts.{says_three, says_two}
pub use Rattle.core.proofs.mem.Param.{El as MemEl, lawful, one}
pub use Rattle.core.proofs.ptr.Rows.{El, Good, R, add_times, apart as array_apart, el_in, el_out, el_x, elτ, sz, times_below, whole as whole_array}
pub use Rattle.core.proofs.slots.Leases.{args as block_args, block_align, block_size, block_ty, uncapped}
pub use Rattle.core.proofs.slots.Lent.{pointer_in, pointer_out}
pub use Rattle.core.proofs.slots.Opens.{row_had as slots_had, row_made as slots_made, row_val}
pub use Rattle.core.proofs.slots.Places.{to_row}
pub use Rattle.core.proofs.slots.Runs.{of_space}
pub use Rattle.core.specs.Allocator.{array_of, block_with_items, resized_if_ok}
pub use Rattle.core.specs.Mem.Slots.{IsFull as slots_full, slots_counts, slots_filled, slots_items, slots_len}
pub use Rattle.core.specs.Ptr.{ptr_add}
pub use Rattle.core.specs.declared.alloc.Allocator.{Ghosts}
pub use Rattle.std.proofs.Common.{Bool, Err, IfOk, List, None, Ok, Option, Result, Some, T, [], add-zero, ap, append_assoc, arith, drop, drop-cons, drop-drop, drop-set-lt, drop_at, eq-eqb, ext_get_or, false, get_or, get_or-drop, get_or-set_other, get_or-set_same, get_or-take, if◌then◌else◌, inl, inr, insert, is_none, is_some, length, length-append, length-drop, length-set, length-take, length-take-le, lit<, map, max, refl, remove, replicate, rules, set as slice_set, set-set, slice_get, subst, suc, suc-mul, swap_remove, sym, take, take-add, take-append-drop, take-take, take_all, take_at, true, w64, zero, zero-add, zero-mul, ℕ, ◌&&◌, ◌*◌, ◌++◌, ◌+◌, ◌-◌, ◌<◌, ◌==◌, ◌^◌, ◌∙◌, ◌∷◌, ◌≡◌, ◌≢◌, ◌≤◌, ◌⊎◌}
pub use Rattle.std.proofs.Math.Nat.{le-mul_of_pos_right, mul-le-mul_left, mul-pos, mul_assoc, pow-succ'}
pub use Rattle.std.proofs.lemmas.Bool.{cases_eq, cases_lt}
pub use Rattle.std.proofs.lemmas.Bool.Decides.{eqb_tells, nat_tests}
pub use Rattle.std.proofs.lemmas.Grind.{take_at_read}
pub use Rattle.std.proofs.lemmas.List.{drop-map, drop-replicate, drop-set, drop_all, drop_more, get_or-map, get_or_past, length-map, length-replicate, map-set, places, same_lists, set_comm, set_split, take-append-le, take-map, take-set-le, take_more_set}
pub use Rattle.std.proofs.lemmas.List.Elements.{AllZip-push, filter_map-append}
pub use Rattle.std.proofs.lemmas.List.Folds.{list_all-append, list_all_at}
pub use Rattle.std.proofs.lemmas.Option.{get_or_from_slice_get, same_Some, slice_get_past, slice_get_read}
pub use Rattle.std.proofs.raw_atomic.Walks.{proved, proved_at}
pub use Rattle.std.specs.List.{AllZip, length_refill, list_all, refill}
pub use Rattle.std.specs.Mem.{type_size}
pub use Rattle.std_alloc.proofs.RawLayout.{as_raw, as_written}
pub use Rattle.std_alloc.proofs.RcSteps.{Good as IsGood, first_Good}
pub use Rattle.std_alloc.proofs.ResultValues.{err_of, ok_of}
pub use Rattle.std_alloc.proofs.VecSteps.El.{El as ItemIn, no_al}
pub use Rattle.std_alloc.proofs.VecSteps.Shapes.{after, arm_body, head}
pub use Rattle.std_alloc.proofs.vec.Blocks.{all, el}
pub use Rattle.std_alloc.proofs.vec.Spares.{From, Into, Into-gives, Into-goes, Made, Row, at_from, at_into, from_gives, from_goes, parts_typed, row_Typed}
pub use base.Fml.{Fml, GName, Incl, Incl-refl, Incl-trans, Lft, Share, fat, fauth, fbor, fdead, ffalse, fhide, flent, flft, fobor, fobs, froom, fsep, ftrue, fupd, fwand}
unfoldable pub use base.Fml.{fseps}
pub use base.Fraction.{full_share}
pub use base.Logic.{SProp, emp, ent, ex, fst∗, guard, id⊢, never, sep, snd∗, upd_i, via, wand, wand_i}
pub use base.Stored.{Gv, coded_list}
pub use borrow.Table.OneValue.{part_in, part_out}
pub use contract.BorrowLft.{meet_⊑_left, ◌⊑◌}
pub use contract.Monad.{fact}
unfoldable pub use contract.Running.{tables, tables_of}
pub use denote.Array.{Array}
pub use denote.Builtin.{RefOf, SliceRefOf, usize}
pub use denote.Exit.{Entries, all_last, all_rest, no, yes}
pub use denote.Follow.{follows, lends_Part}
pub use denote.FollowSlice.{lends_Elements}
pub use denote.Index.{row, whole_in, whole_out}
pub use denote.Laws.{Is, Lawful, Typed, shows}
unfoldable pub use denote.Memory.{cell_at, hidden_shr, lone, mem, part_at, part_of}
pub use Rattle.aa_raw.specs.declared.collections.TryReserveError.{TryReserveError}
pub use denote.Opens.{hide, unhide}
pub use denote.Param.{ArrayAt, bounded, layout, layouts, number, param}
pub use denote.Param.Laws.{Laws, array_at_laws, param_laws}
pub use denote.Param.Shared.{copy_shared}
pub use denote.Plain.{uint_Lawful, uint_Tells, uint_vals}
pub use denote.RattleType.{RattleType, Valss, owns}
pub use denote.RawPtr.{Ptr, RawPtr, block_ptr, in_a_block, null_ptr, ptr_val}
pub use denote.Ref.{MutRef, NamedLft, ShrRef, mut_Tells, mut_vals, shr_Tells, shr_vals}
pub use denote.Shadow.{makes_shadow, pure_i}
pub use denote.Shares.{Shares-less}
pub use denote.Sharing.{ShrLaws, said}
pub use denote.SharingLaws.{beside_shr_laws, nothing_shr_laws, said_shr_laws}
pub use denote.Signature.{mut_ref_to, named_lft, plain, type_at, types_at}
pub use denote.Slice.{MutSlice, Room, elements_shared, shr_slice_vals, slice_val}
pub use denote.Steps.{closes, heard, nothing, opens, owned, peeks}
pub use denote.Struct.Field.{RawPtr-field}
pub use denote.Struct.Laws.{RawPtr-copy, field_copy}
pub use denote.Struct.Lending.{Lends, Lends-both, Lends-false, Lends-first, Lends-nothing, Lends-said, lent_out, of_Lends}
pub use denote.Struct.Members.{Member}
pub use denote.Struct.Owning.{shape}
pub use denote.Struct.Parts.{PartsBack}
pub use denote.Struct.Pick.{field_back, field_out, rest_at}
pub use denote.Struct.Struct.{Struct, Struct-Makes, within}
pub use denote.Struct.Tuple.{Tuple, tuple_laws, tuple_type}
pub use denote.Triple.Call.{calls_at, calls_at_last}
pub use denote.Triple.Entry.{Res, Vals}
pub use denote.Triple.Table.{framed}
pub use denote.Triple.Walked.{Goes-dropped, Goes-ref, Goes-spent_ref, Stays, ends_at, says, stay_dropped, stay_ref, walk_of}
pub use mathlib.Core.Bool.{false≢true, true≢false}
pub use mir.MapTy.{inst_fn}
pub use mir.Raw.{raw as raw_ty}
pub use mir.Syntax.{Args, Body, Lifetime, Ty, a_number, a_type, dcons, dnil, named, ty_array, ty_unit}
pub use mir.Val.{Val, WT, has_ty, of_list, vbool, vcons, vint, vnil, vptr, vstruct, vunit}
pub use prog.Align.{dv_self}
pub use prog.Capped.{capped_fits}
pub use prog.Memory.{align, capped, size as ty_size, up}
pub use prog.Wp.{Wp, WpFn, after_seq, at_return}
pub use seplogic.Ra.Ura.{Ura}
pub use types.ByLocal.{alloc_all, env, free_all, get, get_in, get_tag, is, lands_as, lands_last, look_at, pass_all, sets, sets_last, through}
pub use types.Kit.{ !, Goal, Item, Post as After, Seq, Soaks, Sq, Step, any_q, assume, at_ret, await, by, check, done, drop as lose, feq_i, feq_l, fjoin, fjoin3, flt_i, flt_l, fpack, fpick, frame, fsplit, fsplit3, given, group, join, keep, later, learn, move, now, pick, prop, qed, raw, regoal, rewrite, show, some, split, split3, step, suffices, updating, use0, use1, use2, use3, ‵, ⋆, ◌$◌, ◌∵◌, ◌⊛◌}
pub use types.Logic.{Logic, sem}
pub use types.Match.{in_variant, live, vrt}
pub use types.Mut.{open_ref}
pub use types.Part.{agg, look_in, store_in, sub, whole}
pub use types.Run.{addr, align_word, and_then, assigns, assigns_last, bin, blocks, enter, exec, false_lit, first, fld, from, init, lit, load, look, no_more, of_opd, returns, size_word, stop, switches_on, true_lit, unit_lit}
pub use types.SemTy.{Body as BodyAt, SemTy, cells}
