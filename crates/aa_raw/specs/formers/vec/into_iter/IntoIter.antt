-- An `IntoIter` inside a recursive type: it holds its remaining items.
use Rattle.std.specs.Prelude.{◌≡◌, ℕ, ◌-◌, [], List}
use Rattle.std.specs.Option.{option_map}
use Rattle.std.proofs.Common.{arith}
use mathlib.Core.Path.{refl, sym, ◌∙◌}
use mathlib.Core.Bool.{Bool-set}
use mathlib.Core.Former.{Former, this, const, pair, list, via, children}
use lib.ListN.{length-map}
use native.Mathlib.Bridge.{le_prop}
use base.Stored.{code_map}
use denote.RattleType.{RattleType}
use denote.HoleLaws.{Alike}
use denote.HolePlaces.{Recodes, struct_places, laid}
use denote.Hole.Carrier.{listed, list-listed}
use denote.Hole.Fix.{over}
use denote.Param.Weighed.{Weighed, most, List-puts}
use denote.Model.Placed as placed
use Rattle.std.specs.declared.alloc.Allocator.{Ghosts}
use Rattle.aa_raw.specs.Held.{slots, pair_recoded}
use Rattle.aa_raw.specs.Block.{Growths, of_new}
use Rattle.aa_raw.specs.IntoIter.{Remaining}
use Rattle.aa_raw.specs.IntoIterInner.{IsBetween}
use Rattle.aa_raw.specs.Mapped.{first_none_over, others_over, run_over, IsRun-over, IsRun-under, IsRun-once, run_held}
use Rattle.aa_raw.specs.Places.{run}
use Rattle.aa_raw.specs.declared.vec.into_iter.IntoIter.TheInside.{Inside}
use Rattle.aa_raw.specs.declared.vec.into_iter.IntoIter.TheView.{view, invariant}
use Rattle.aa_raw.specs.contracts.vec.into_iter.IntoIter as C
use Rattle.aa_raw.specs.contracts.vec.into_iter.IntoIter.TheInside as I
use Rattle.aa_raw.specs.formers.raw_vec.RawVec as raw

abbrev Rest : Type 0 → Type 0
Rest Z = ℕ × (Growths × (ℕ × (ℕ × Z)))

abbrev pub the_former : Former {0} → Type 0 → Former {0}
the_former g Z = via (pair (list g) (const (Rest Z))) (λ X. Remaining (g.Of X) Z)
    (λ X s. (s.items, (s.capacity, (s.grown, (s.written, (s.runs, s.alloc))))))
    (λ X v. record { items = v.0; capacity = v.1.0; grown = v.1.1.0; written = v.1.1.1.0; runs = v.1.1.1.1.0; alloc = v.1.1.1.1.1 })
    (λ X s. refl) (λ X v. refl)

abbrev pub the_weighed : {g : Former {0}} → Weighed g → (Z : Type 0) → Weighed (the_former g Z)
the_weighed w Z = record { weight = λ X μ s. most (w.weight X μ) s.items; puts = λ X μ s. List-puts w X μ s.items }

pub the_empty : (Z : Type 0) → Z → Remaining ⊥ Z
the_empty Z z = record { items = []; capacity = 0; grown = of_new 0 0; written = 0; runs = 0; alloc = z }

abbrev pub the_items : (Z X : Type 0) → Remaining X Z → List X
the_items Z X s = s.items

pub the_items_listed : (Z X : Type 0) (s : Remaining X Z) → listed _ (children (the_former this Z) X s) ≡ the_items Z X s
the_items_listed Z X s = list-listed X s.items

abbrev fields : Type 0 → Former {0}
fields Z = via (pair (raw.the_former this Z) (const (ℕ × ℕ))) (λ X. Inside X Z) (λ X a. (a.block, (a.front, a.back))) (λ X v. record { block = v.0; front = v.1.0; back = v.1.1 }) (λ X a. refl) (λ X v. refl)

module _ {X Z : Type 0} where
  between_held : (v : Inside X Z) → IsBetween v → placed.held (list this) X (run v.block.places v.front (v.back - v.front)) ≡ placed.held (slots this) X v.block.places
  between_held v w = run_held v.front (v.back - v.front) v.back v.block.places (omega (arith, w.between)) w.before w.filled w.after

  between_once : (v : Inside X Z) → IsProp (IsBetween v)
  between_once v p q = λ i. record {
    between = le_prop p.between q.between i;
    filled = IsRun-once v.front (v.back - v.front) v.block.places p.filled q.filled i;
    before = Bool-set _ _ p.before q.before i;
    after = Bool-set _ _ p.after q.after i;
  }

module _ {X Y Z : Type 0} (k : X → Y) (v : Inside X Z) where
  between_over : IsBetween v → IsBetween ((fields Z).map X Y k v)
  between_over w = record {
    between = w.between;
    filled = IsRun-over k v.front (v.back - v.front) v.block.places w.filled;
    before = first_none_over k v.front v.block.places ∙ w.before;
    after = others_over k v.back v.block.places ∙ w.after;
  }

  between_under : IsBetween ((fields Z).map X Y k v) → IsBetween v
  between_under w = record {
    between = w.between;
    filled = IsRun-under k v.front (v.back - v.front) v.block.places w.filled;
    before = sym (first_none_over k v.front v.block.places) ∙ w.before;
    after = sym (others_over k v.back v.block.places) ∙ w.after;
  }

module _ (Z : RattleType) (G : Ghosts Z.Denot) (R S : RattleType) (h : R.Denot → S.Denot) where
  pub the_places : Alike R S h → Alike (C.the_row R Z G) (C.the_row S Z G) ((the_former this Z.Denot).map R.Denot S.Denot h)
  the_places a = placed.view_places_where (fields Z.Denot) (the_former this Z.Denot) (λ X. view X Z.Denot G)
      (λ X Y k u i. record {
        items = run_over k u.front (u.back - u.front) u.block.places i;
        capacity = length-map u.block.places (option_map k) i;
        grown = u.block.grown;
        written = u.block.written;
        runs = u.block.runs;
        alloc = u.block.alloc;
      })
      (λ X u. IsBetween u) (λ X Y k u. between_under k u) (λ X u. between_held u)
      R.Denot S.Denot h (C.the_row R Z G).coded (C.the_row S Z G).coded
      (invariant R.Denot Z.Denot G) (invariant S.Denot Z.Denot G) between_once between_once (between_over h) (between_under h) (λ u w. w)
      (over (I.the_row R Z G)) (over (I.the_row S Z G))
      (struct_places (I.the_type R Z G) (I.the_type S Z G) ((raw.the_former this Z.Denot).map R.Denot S.Denot h, (λ n. n, (λ n. n, tt))) _ (λ d. refl) refl
      (laid _ _ _ (raw.the_places Z G R S h a), ((refl, (λ n. refl, λ n. refl)), ((refl, (λ n. refl, λ n. refl)), tt))))

  pub the_codes_placed : Recodes R S h → Recodes (C.the_row R Z G) (C.the_row S Z G) ((the_former this Z.Denot).map R.Denot S.Denot h)
  the_codes_placed e d = pair_recoded (sym (code_map R.coded.code S.coded.code h (λ x. sym (e x)) d.items))
      (pair_recoded refl (pair_recoded refl (pair_recoded refl (pair_recoded refl refl))))
