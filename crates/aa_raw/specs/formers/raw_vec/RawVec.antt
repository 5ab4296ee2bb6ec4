-- A `RawVec` inside a recursive type: it holds the values in its places.
use Rattle.std.specs.Prelude.{ℕ, []}
use mathlib.Core.Path.{refl, sym, ◌∙◌}
use mathlib.Core.Former.{Former, this, const, pair, via}
use native.Mathlib.Nat.{ℕ_set}
use lib.ListN.{length-map}
use base.Stored.{Coded-set}
use denote.RattleType.{RattleType}
use denote.RawPtr.{coded_ptr}
use denote.HoleLaws.{Alike}
use denote.HolePlaces.{Recodes, struct_places, laid}
use denote.Hole.Fix.{over}
use denote.Param.Weighed.{Weighed}
use denote.Model.Placed.{view_places}
use Rattle.std.specs.Option.{option_map}
use Rattle.std.specs.declared.alloc.Allocator.{Ghosts}
use Rattle.aa_raw.specs.Held.{slots, w_slots, slots_recoded, pair_recoded}
use Rattle.aa_raw.specs.Block.{Block, Growths, of_new}
use Rattle.aa_raw.specs.RawVecInner.{IsWhole}
use Rattle.aa_raw.specs.declared.raw_vec.Growth.{Growth}
use Rattle.aa_raw.specs.declared.raw_vec.Growth.TheVariants.{Doubling}
use Rattle.aa_raw.specs.declared.counter.Counter.{Counter}
use Rattle.aa_raw.specs.declared.counter.GrowthCounters.{GrowthCounters}
use Rattle.aa_raw.specs.declared.raw_vec.RawVec.TheInside.{Inside}
use Rattle.aa_raw.specs.declared.raw_vec.RawVec.TheView.{view, invariant}
use Rattle.aa_raw.specs.contracts.raw_vec.RawVec as C
use Rattle.aa_raw.specs.contracts.raw_vec.RawVec.TheInside as I
use Rattle.aa_raw.specs.formers.row.Row as row
use Rattle.aa_raw.specs.formers.row.Claim as claim

abbrev Rest : Type 0 → Type 0
Rest Z = Growth × (Growths × (ℕ × (ℕ × Z)))

abbrev pub the_former : Former {0} → Type 0 → Former {0}
the_former g Z = via (pair (slots g) (const (Rest Z))) (λ X. Block (g.Of X) Z) (λ X b. (b.places, (b.growth, (b.grown, (b.written, (b.runs, b.alloc))))))
    (λ X v. record { places = v.0; growth = v.1.0; grown = v.1.1.0; written = v.1.1.1.0; runs = v.1.1.1.1.0; alloc = v.1.1.1.1.1 }) (λ X b. refl) (λ X v. refl)

abbrev pub the_weighed : {g : Former {0}} → Weighed g → (Z : Type 0) → Weighed (the_former g Z)
the_weighed w Z = record { weight = λ X μ b. (w_slots w).weight X μ b.places; puts = λ X μ b. (w_slots w).puts X μ b.places }

pub the_empty : (Z : Type 0) → Z → Block ⊥ Z
the_empty Z z = record { places = []; growth = Doubling; grown = of_new 0 0; written = 0; runs = 0; alloc = z }

abbrev Others : Type 0 → Type 0
Others Z = ℕ × (GrowthCounters × (Counter × (Counter × Z)))

abbrev fields : Type 0 → Former {0}
fields Z = via (pair (row.the_former this) (pair (claim.the_former this Z) (const (Others Z)))) (λ X. Inside X Z)
    (λ X a. (a.row, (a.claim, (a.word, (a.grown, (a.written, (a.runs, a.alloc)))))))
    (λ X v. record { row = v.0; claim = v.1.0; word = v.1.1.0; grown = v.1.1.1.0; written = v.1.1.1.1.0; runs = v.1.1.1.1.1.0; alloc = v.1.1.1.1.1.1 }) (λ X a. refl) (λ X v. refl)

module _ (Z : RattleType) (G : Ghosts Z.Denot) (R S : RattleType) (h : R.Denot → S.Denot) where
  whole_once : {X : Type 0} (v : Inside X Z.Denot) → IsProp (IsWhole v)
  whole_once v p q = λ i. record {
    claim = (Coded-set coded_ptr _ _ p.claim.0 q.claim.0 i, ℕ_set _ _ p.claim.1 q.claim.1 i, Coded-set Z.coded _ _ p.claim.2 q.claim.2 i);
    long = ℕ_set _ _ p.long q.long i;
  }

  pub the_places : Alike R S h → Alike (C.the_row R Z G) (C.the_row S Z G) ((the_former this Z.Denot).map R.Denot S.Denot h)
  the_places a = view_places (fields Z.Denot) (the_former this Z.Denot) (λ X. view X Z.Denot G) (λ X Y k u. refl) (λ X u. refl) R.Denot S.Denot h (C.the_row R Z G).coded (C.the_row S Z G).coded
      (invariant R.Denot Z.Denot G) (invariant S.Denot Z.Denot G) whole_once whole_once
      (λ u w. record { claim = w.claim; long = length-map u.row.places (option_map h) ∙ w.long })
      (λ u w. record { claim = w.claim; long = sym (length-map u.row.places (option_map h)) ∙ w.long })
      (over (I.the_row R Z G)) (over (I.the_row S Z G))
      (struct_places (I.the_type R Z G) (I.the_type S Z G)
      ((row.the_former this).map R.Denot S.Denot h, (λ n. n, ((claim.the_former this Z.Denot).map R.Denot S.Denot h, (λ n. n, (λ n. n, (λ n. n, (λ n. n, tt))))))) _ (λ d. refl) refl (
        laid _ _ _ (row.the_places R S h a),
        (
          (refl, (λ n. refl, λ n. refl)),
          (
            laid _ _ _ (claim.the_places Z G R S h a),
            ((refl, (λ n. refl, λ n. refl)), ((refl, (λ n. refl, λ n. refl)), ((refl, (λ n. refl, λ n. refl)), ((refl, (λ n. refl, λ n. refl)), tt)))),
          ),
        ),
      ))

  pub the_codes_placed : Recodes R S h → Recodes (C.the_row R Z G) (C.the_row S Z G) ((the_former this Z.Denot).map R.Denot S.Denot h)
  the_codes_placed e d = pair_recoded (slots_recoded _ _ h refl (λ x. pair_recoded refl (sym (e x))) d.places) refl
