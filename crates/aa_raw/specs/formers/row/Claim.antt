-- A `Claim` inside a recursive type: it holds no value.
use Rattle.std.specs.Prelude.{ℕ}
use mathlib.Core.Path.{refl}
use mathlib.Core.Former.{Former, this, const, via}
use base.Fml.{fsep}
use denote.RattleType.{RattleType}
use denote.RawPtr.{Ptr, null_ptr}
use denote.Sharing.{beside, said}
use denote.Struct.Struct.{Struct}
use denote.Struct.Owning.{shape, to}
use denote.HoleLaws.{Alike}
use denote.HolePlaces.{Recodes}
use denote.Param.Weighed.{Weighed, none_max}
use denote.Param.Nested.{deepest}
use Rattle.std.specs.declared.alloc.Allocator.{Ghosts}
use Rattle.core.specs.declared.marker.PhantomData.{PhantomData}
use Rattle.aa_raw.specs.Placed.{claim_owns_placed, capacity_bounds_placed}
use Rattle.aa_raw.specs.declared.row.Claim.{Claim}
use Rattle.aa_raw.specs.contracts.row.Claim as C

abbrev Parts : Type 0 → Type 0
Parts Z = PhantomData Ptr × (Ptr × (ℕ × Z))

abbrev pub the_former : Former {0} → Type 0 → Former {0}
the_former g Z = via (const (Parts Z)) (λ X. Claim (g.Of X) Z) (λ X c. (c.mark, (c.ptr, (c.len, c.alloc))))
    (λ X v. record { mark = v.0; ptr = v.1.0; len = v.1.1.0; alloc = v.1.1.1 }) (λ X c. refl) (λ X v. refl)

abbrev pub the_weighed : {g : Former {0}} → Weighed g → (Z : Type 0) → Weighed (the_former g Z)
the_weighed w Z = record { weight = λ X μ c. 0; puts = λ X μ c n t. none_max (deepest μ n t) }

pub the_empty : (Z : Type 0) → Z → Claim ⊥ Z
the_empty Z z = record { mark = record {}; ptr = null_ptr; len = 0; alloc = z }

module _ (Z : RattleType) (G : Ghosts Z.Denot) (R S : RattleType) (h : R.Denot → S.Denot) where
  pub the_places : Alike R S h → Alike (C.the_row R Z G) (C.the_row S Z G) ((the_former this Z.Denot).map R.Denot S.Denot h)
  the_places a = record {
    mir_same = refl;
    own_same = λ d i vs. fsep ((Struct (shape (C.the_type R Z G))).own_val (to (C.the_type R Z G) d) vs) (claim_owns_placed R S h a (G.dealloc_token d.alloc) d.ptr d.len i);
    shr_same = λ d i b o. beside ((Struct (shape (C.the_type R Z G))).shr_at (to (C.the_type R Z G) d) b o) (said (capacity_bounds_placed R S h a d.len i));
  }

  pub the_codes_placed : Recodes R S h → Recodes (C.the_row R Z G) (C.the_row S Z G) ((the_former this Z.Denot).map R.Denot S.Denot h)
  the_codes_placed e c = refl
