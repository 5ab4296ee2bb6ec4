-- The names from elsewhere that proofs here cite, passed on.
pub use Rattle.aa_gap.specs.Buffer.{Buffer, GrowsWithin, cursor, empty, gap, len, moved_over, moved_to, put, run_count, text, with_room}
pub use Rattle.aa_gap.specs.Editing.{Edits, with_edit}
pub use Rattle.aa_gap.specs.GapBufferInner.{AreFree, HasGap}
pub use Rattle.aa_gap.specs.Page.{Page, edited, inserts, page, total, written_by}
pub use Rattle.aa_gap.specs.declared.gap_buffer.Edit.{Edit}
pub use Rattle.aa_gap.specs.declared.gap_buffer.Edit.TheVariants.{DeleteBack, DeleteForward, Insert, MoveTo}
pub use Rattle.aa_raw.proofs.BothEnds.{slice_get-after, slice_get-front}
pub use Rattle.aa_raw.proofs.Calls.{IsRun-first, IsRun-last, IsRun-shifted_down, IsRun-moved-above, IsRun-of_none, IsRun-shifted_up, IsRun-shifted_up-below, IsRun-take_first, IsRun-with-above, run-shifted_down, run-moved-above, run-of_none, run-shifted_up, run-shifted_up-below, run-take_first}
pub use Rattle.aa_raw.proofs.Common.{AreParted, Block, IsRun, cases_lt, length-replicate, moved, nat_tests, run, slice_get_past, slice_get_read, take-append-le, type_size}
pub use Rattle.aa_raw.proofs.Costs.{FewBlocks-grows, FewBlocks-more, FewBlocks-none, FewPlaces, FewPlaces-grows, FewPlaces-none}
pub use Rattle.aa_raw.proofs.Places.{length-moved, length-with_run, lengths}
pub use Rattle.aa_raw.proofs.Runs.{IsRun-joined, IsRun-long, IsRun-part, IsRun-set-above, IsRun-set-below, length-run, run-drop, run-set-above, run-set-below, run-split, run-take}
pub use Rattle.aa_raw.proofs.TwoRuns.{AreApart-before}
pub use Rattle.aa_raw.specs.Growth.{amortized, min_capacity}
pub use Rattle.aa_raw.specs.Growths.{FewBlocks, of_new, with_growth}
pub use Rattle.aa_raw.specs.declared.raw_vec.Growth.{Growth}
pub use Rattle.aa_raw.specs.declared.raw_vec.Growth.TheVariants.{Doubling, InPlace, Sparing}
pub use Rattle.std.proofs.Common.{Bor, List, MatchOption, None, Option, Some, [], ap, append_assoc, arith, drop, get_or, inl, inr, insert, length, length-append, length-drop, length-set, length-take, length-take-le, max, min, option_copied, refl, remove, rules, slice_get, subst, suc, sym, take, take-append-drop, zero, ℕ, ◌*◌, ◌++◌, ◌+◌, ◌-◌, ◌<◌, ◌∙◌, ◌∷◌, ◌≡◌, ◌≢◌, ◌≤◌}
pub use Rattle.std.proofs.Math.Seq.{drop-append-add, drop-append_seam, take-append-add, take-append_seam, take-length}
pub use Rattle.std.proofs.iter.Next.{Yields-more}
pub use Rattle.std.proofs.lemmas.List.{append-nil, get_or_past, map-append}
pub use Rattle.std.proofs.lemmas.List.Edits.{remove-append_right}
pub use Rattle.std.proofs.lemmas.Result.{err_from_is_err_and}
pub use Rattle.std.specs.Iterator.{Count, Drains, Yields, YieldsFirst, YieldsLast}
pub use Rattle.std.specs.Iterator.Runs.{WholeRun, YieldsInOrder, YieldsInReverse}
pub use Rattle.std.specs.Prelude.{All, Err, Ok, OnOk, Result, fold, map, replicate, slice_set}
pub use Rattle.std.specs.Slice.{IsItemAt}
