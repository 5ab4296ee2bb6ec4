-- A `RawBox` inside a recursive type: it holds the value in its place.
use Rattle.std.specs.Prelude.{◌≡◌, Option, Some, None, length}
use Rattle.std.specs.Option.{option_map}
use mathlib.Core.Path.{refl, sym, ◌∙◌}
use mathlib.Core.Bool.{Bool-set}
use mathlib.Core.Former.{Former, this, const, pair, via}
use native.Mathlib.Nat.{ℕ_set}
use lib.ListN.{length-map}
use base.Stored.{Coded-set}
use denote.RattleType.{RattleType}
use denote.RawPtr.{coded_ptr}
use denote.HoleLaws.{Alike}
use denote.HolePlaces.{Recodes, struct_places, laid}
use denote.Hole.Fix.{over}
use denote.Param.Weighed.{Weighed}
use denote.Model.Placed as placed
use Rattle.std.specs.declared.alloc.Allocator.{Ghosts}
use Rattle.aa_raw.specs.Held.{option, w_option, pair_recoded}
use Rattle.aa_raw.specs.Mapped.{first_over, first_held, others_over}
use Rattle.aa_raw.specs.Single.{Single}
use Rattle.aa_raw.specs.RawBoxInner.{IsWhole}
use Rattle.aa_raw.specs.declared.raw_box.RawBox.TheInside.{Inside}
use Rattle.aa_raw.specs.declared.raw_box.RawBox.TheView.{view, invariant}
use Rattle.aa_raw.specs.contracts.raw_box.RawBox as C
use Rattle.aa_raw.specs.contracts.raw_box.RawBox.TheInside as I
use Rattle.aa_raw.specs.formers.row.Row as row
use Rattle.aa_raw.specs.formers.row.Claim as claim

abbrev pub the_former : Former {0} → Type 0 → Former {0}
the_former g Z = via (pair (option g) (const Z)) (λ X. Single (g.Of X) Z)
    (λ X s. (s.place, s.alloc)) (λ X v. record { place = v.0; alloc = v.1 }) (λ X s. refl) (λ X v. refl)

abbrev pub the_weighed : {g : Former {0}} → Weighed g → (Z : Type 0) → Weighed (the_former g Z)
the_weighed w Z = record {
  weight = λ X μ s. (w_option w).weight X μ s.place;
  puts = λ X μ s. (w_option w).puts X μ s.place;
}

pub the_empty : (Z : Type 0) → Z → Single ⊥ Z
the_empty Z z = record { place = None; alloc = z }

abbrev fields : Type 0 → Former {0}
fields Z = via (pair (row.the_former this) (pair (claim.the_former this Z) (const Z)))
    (λ X. Inside X Z) (λ X a. (a.row, (a.claim, a.alloc)))
    (λ X v. record { row = v.0; claim = v.1.0; alloc = v.1.1 }) (λ X a. refl) (λ X v. refl)

module _ {X Y Z : Type 0} (k : X → Y) (v : Inside X Z) where
  as_long : length ((fields Z).map X Y k v).row.places ≡ length v.row.places
  as_long = length-map v.row.places (option_map k)

  whole_over : IsWhole v → IsWhole ((fields Z).map X Y k v)
  whole_over w = record {
    claim = (w.claim.0, w.claim.1 ∙ sym as_long, w.claim.2);
    long = λ other. as_long ∙ w.long (λ e. other (as_long ∙ e));
    others = others_over k 1 v.row.places ∙ w.others;
  }

  whole_under : IsWhole ((fields Z).map X Y k v) → IsWhole v
  whole_under w = record {
    claim = (w.claim.0, w.claim.1 ∙ as_long, w.claim.2);
    long = λ other. sym as_long ∙ w.long (λ e. other (sym as_long ∙ e));
    others = sym (others_over k 1 v.row.places) ∙ w.others;
  }

module _ (Z : RattleType) (G : Ghosts Z.Denot) (R S : RattleType) (h : R.Denot → S.Denot) where
  whole_once : {X : Type 0} (v : Inside X Z.Denot) → IsProp (IsWhole v)
  whole_once v p q = λ i. record {
    claim = (
      Coded-set coded_ptr _ _ p.claim.0 q.claim.0 i,
      ℕ_set _ _ p.claim.1 q.claim.1 i,
      Coded-set Z.coded _ _ p.claim.2 q.claim.2 i,
    );
    long = λ other. ℕ_set _ _ (p.long other) (q.long other) i;
    others = Bool-set _ _ p.others q.others i;
  }

  pub the_places : Alike R S h
      → Alike (C.the_row R Z G) (C.the_row S Z G) ((the_former this Z.Denot).map R.Denot S.Denot h)
  the_places a = placed.view_places_where
      (fields Z.Denot) (the_former this Z.Denot) (λ X. view X Z.Denot G)
      (λ X Y k u i. record { place = first_over k u.row.places i; alloc = u.alloc })
      (λ X u. IsWhole u) (λ X Y k u. whole_under k u) (λ X u w. first_held u.row.places w.others)
      R.Denot S.Denot h (C.the_row R Z G).coded (C.the_row S Z G).coded
      (invariant R.Denot Z.Denot G) (invariant S.Denot Z.Denot G)
      whole_once whole_once (whole_over h) (whole_under h) (λ u w. w)
      (over (I.the_row R Z G)) (over (I.the_row S Z G))
      (struct_places (I.the_type R Z G) (I.the_type S Z G) (
        (row.the_former this).map R.Denot S.Denot h,
        ((claim.the_former this Z.Denot).map R.Denot S.Denot h, (λ n. n, tt)),
      ) _ (λ d. refl) refl (
        laid _ _ _ (row.the_places R S h a),
        (laid _ _ _ (claim.the_places Z G R S h a), ((refl, (λ n. refl, λ n. refl)), tt)),
      ))

  place_recoded : Recodes R S h → (c : Option R.Denot) (z : Z.Denot)
      → (C.the_row S Z G).coded.code (record { place = option_map h c; alloc = z })
      ≡ (C.the_row R Z G).coded.code (record { place = c; alloc = z })
  place_recoded e None z = refl
  place_recoded e (Some x) z = pair_recoded (pair_recoded refl (e x)) refl

  pub the_codes_placed : Recodes R S h
      → Recodes (C.the_row R Z G) (C.the_row S Z G) ((the_former this Z.Denot).map R.Denot S.Denot h)
  the_codes_placed e d = place_recoded e d.place d.alloc
