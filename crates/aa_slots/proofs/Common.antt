-- The names from elsewhere that several proofs here cite, passed on.
pub use Rattle.std.proofs.Common.{List, None, Option, Some, [], ap, arith, cond, drop, ext_get_or, false, get_or, get_or-set_other, get_or-set_same, inl, inr, is_some, length, length-append, length-set, refl, rules, set-set, slice_get, slice_set, subst, suc, sym, take, true, zero, ℕ, ◌++◌, ◌+◌, ◌-◌, ◌^◌, ◌<◌, ◌∙◌, ◌∷◌, ◌≡◌, ◌≢◌, ◌≤◌}
pub use Rattle.std.proofs.lemmas.Bool.{cases_eq, cases_lt}
pub use Rattle.std.specs.Prelude.{⊤, count_by}
pub use Rattle.aa_slots.specs.declared.key.Key.{Key}
pub use Rattle.aa_slots.specs.declared.key.KeyData.{KeyData}
pub use Rattle.aa_slots.specs.declared.slots.Chain.{Chain}
pub use Rattle.aa_slots.specs.declared.slots.State.{State}
pub use Rattle.aa_slots.specs.declared.slots.State.TheVariants.{Free, Held}
pub use Rattle.aa_slots.specs.Inside.{held, is_held, is_held_by, rest_of, seen, serial_in, state_at, AreClones, AreFree, AreHeld, IsChain, IsRest, IsSound}
pub use Rattle.aa_slots.specs.Slotted.{Slotted, Puts, count, entries_from, find, slot_at, value_under, with_at, with_value}
