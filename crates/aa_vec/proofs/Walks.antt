-- The names that a walk by hand cites.
pub use Rattle.aa_vec.proofs.Common.{ℕ, ◌-◌, ◌+◌, ◌≡◌, refl, sym, ap, subst, List, [], ◌∷◌, ◌++◌, length, sep, id⊢, fact, fact_i, emp, row, Vector, ClosesTwoGaps, ClosesExtract, ◌$◌}
pub use mir.Syntax.{Args, dcons, dnil, a_type}
pub use mir.MapTy.{inst_fn}
pub use mir.Val.{Val, vunit}
pub use base.Fml.{ftrue}
pub use types.Kit.{‵, raw, ◌⊛◌, some, later, ◌∵◌, !, qed, move, keep, use0, use1, group, split, join, fsplit, fjoin, feq_l, feq_i, pick, await, suffices, done}
pub use types.Part.{whole, sub, agg}
pub use types.Run.{enter, stop, fld, of_opd, addr, unit_lit, and_then, no_more, returns}
pub use types.ByLocal.{alloc_all, pass_all, free_all, look_at, get, get_in, through, sets, lands_as}
pub use contract.Running.{tables}
pub use denote.Builtin.{unit}
pub use denote.Exit.{yes}
pub use denote.Laws.{Is}
pub use denote.Param.{bounded}
pub use denote.RattleType.{owns}
pub use denote.Steps.{nothing, heard, only, owned}
pub use denote.Struct.Declared.{fields}
pub use denote.Struct.Laws.{vals, tells, lawful, owed}
pub use denote.Triple.Call.{calls_at}
pub use denote.Triple.Clauses.{Ended, lasts}
pub use denote.Triple.Entry.{alive}
pub use denote.Triple.Spec.{triple_of}
pub use denote.Triple.Table.{framed}
pub use denote.Triple.Walked.{Stays, walk_of, ends_at}
pub use Rattle.std.proofs.raw_atomic.Walks.{proved}
