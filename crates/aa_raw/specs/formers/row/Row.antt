-- A `Row` inside a recursive type: it holds the values in its places.
use Rattle.std.specs.Prelude.{[]}
use mathlib.Core.Path.{refl, sym}
use mathlib.Core.Former.{Former, this, const, pair, via}
use base.Fml.{fsep}
use denote.RattleType.{RattleType}
use denote.RawPtr.{Ptr, null_ptr}
use denote.Sharing.{beside}
use denote.Struct.Struct.{Struct}
use denote.Struct.Owning.{shape, to}
use denote.HoleLaws.{Alike}
use denote.HolePlaces.{Recodes}
use denote.Param.Weighed.{Weighed}
use Rattle.aa_raw.specs.Held.{slots, w_slots, slots_recoded, pair_recoded}
use Rattle.aa_raw.specs.Placed.{row_owns_placed, row_shares_placed}
use Rattle.aa_raw.specs.declared.row.Row.{Row}
use Rattle.aa_raw.specs.contracts.row.Row as C

abbrev pub the_former : Former {0} → Former {0}
the_former g = via (pair (const Ptr) (slots g)) (λ X. Row (g.Of X)) (λ X r. (r.ptr, r.places)) (λ X v. record { ptr = v.0; places = v.1 }) (λ X r. refl) (λ X v. refl)

abbrev pub the_weighed : {g : Former {0}} → Weighed g → Weighed (the_former g)
the_weighed w = record { weight = λ X μ r. (w_slots w).weight X μ r.places; puts = λ X μ r. (w_slots w).puts X μ r.places }

pub the_empty : Row ⊥
the_empty = record { ptr = null_ptr; places = [] }

module _ (R S : RattleType) (h : R.Denot → S.Denot) where
  pub the_places : Alike R S h → Alike (C.the_row R) (C.the_row S) ((the_former this).map R.Denot S.Denot h)
  the_places a = record {
    mir_same = refl;
    own_same = λ d i vs. fsep ((Struct (shape (C.the_type R))).own_val (to (C.the_type R) d) vs) (row_owns_placed R S h a d.ptr d.places i);
    shr_same = λ d i b o. beside ((Struct (shape (C.the_type R))).shr_at (to (C.the_type R) d) b o) (row_shares_placed R S h a d.ptr d.places i);
  }

  pub the_codes_placed : Recodes R S h → Recodes (C.the_row R) (C.the_row S) ((the_former this).map R.Denot S.Denot h)
  the_codes_placed e d = pair_recoded refl (pair_recoded (slots_recoded _ _ h refl (λ x. pair_recoded refl (sym (e x))) d.places) refl)
