-- A `BoxedSlice` inside a recursive type: it holds its items, and nothing else.
use Rattle.std.specs.Prelude.{◌≡◌, ℕ, List, [], map, length, Option}
use Rattle.std.specs.Option.{option_map}
use Rattle.std.proofs.Common.{arith}
use mathlib.Core.Path.{refl, sym, ◌∙◌}
use mathlib.Core.Bool.{Bool-set}
use mathlib.Core.Former.{Former, this, const, pair, list, via, children}
use native.Mathlib.Nat.{ℕ_set}
use lib.ListN.{length-map}
use base.Stored.{code_map}
use denote.RattleType.{RattleType}
use denote.HoleLaws.{Alike}
use denote.HolePlaces.{Recodes, struct_places, laid}
use denote.Hole.Carrier.{listed, list-listed}
use denote.Hole.Fix.{over}
use denote.Param.Weighed.{Weighed, most, List-puts}
use denote.Model.Placed as placed
use Rattle.std.specs.declared.alloc.Allocator.{Ghosts}
use Rattle.aa_raw.specs.Held.{slots, pair_recoded}
use Rattle.aa_raw.specs.Mapped.{others_over, run_over, IsRun-over, IsRun-under, IsRun-once, run_held}
use Rattle.aa_raw.specs.Growths.{Growths, of_new}
use Rattle.aa_raw.specs.Places.{run}
use Rattle.aa_raw.specs.declared.raw_vec.Growth.{Growth}
use Rattle.aa_raw.specs.declared.raw_vec.Growth.TheVariants.{Doubling}
use Rattle.aa_raw.specs.formers.raw_vec.RawVec as raw
use Rattle.aa_boxed.specs.Slice.{Slice}
use Rattle.aa_boxed.specs.BoxedSliceInner.{IsWhole}
use Rattle.aa_boxed.specs.declared.boxed.slice.BoxedSlice.TheInside.{Inside}
use Rattle.aa_boxed.specs.declared.boxed.slice.BoxedSlice.TheView.{view, invariant}
use Rattle.aa_boxed.specs.contracts.boxed.slice.BoxedSlice as C
use Rattle.aa_boxed.specs.contracts.boxed.slice.BoxedSlice.TheInside as I

abbrev pub the_former : Former {0} → Type 0 → Former {0}
the_former g Z = via (pair (list g) (const (Growth × (Growths × Z)))) (λ X. Slice (g.Of X) Z) (λ X s. (s.items, (s.growth, (s.grown, s.alloc))))
    (λ X v. record { items = v.0; growth = v.1.0; grown = v.1.1.0; alloc = v.1.1.1 }) (λ X s. refl) (λ X v. refl)

abbrev pub the_weighed : {g : Former {0}} → Weighed g → (Z : Type 0) → Weighed (the_former g Z)
the_weighed w Z = record { weight = λ X μ s. most (w.weight X μ) s.items; puts = λ X μ s. List-puts w X μ s.items }

pub the_empty : (Z : Type 0) → Z → Slice ⊥ Z
the_empty Z z = record { items = []; growth = Doubling; grown = of_new 0 0; alloc = z }

abbrev pub the_items : (Z X : Type 0) → Slice X Z → List X
the_items Z X s = s.items

pub the_items_listed : (Z X : Type 0) (s : Slice X Z) → listed _ (children (the_former this Z) X s) ≡ the_items Z X s
the_items_listed Z X s = list-listed X s.items

module _ {X : Type 0} where
  whole_held : {Z : Type 0} (v : Inside X Z) → IsWhole v → placed.held (list this) X (run v.block.places 0 v.len) ≡ placed.held (slots this) X v.block.places
  whole_held v w = run_held 0 v.len v.len v.block.places (omega arith) refl w.filled w.others

  whole_once : {Z : Type 0} (v : Inside X Z) → IsProp (IsWhole v)
  whole_once v p q = λ i. record {
    filled = IsRun-once 0 v.len v.block.places p.filled q.filled i;
    exact = λ other. ℕ_set _ _ (p.exact other) (q.exact other) i;
    others = Bool-set _ _ p.others q.others i;
  }

abbrev fields : Type 0 → Former {0}
fields Z = via (pair (raw.the_former this Z) (const ℕ)) (λ X. Inside X Z) (λ X a. (a.block, a.len)) (λ X v. record { block = v.0; len = v.1 }) (λ X a. refl) (λ X v. refl)

module _ {X Y Z : Type 0} (k : X → Y) (v : Inside X Z) where
  abbrev cs : List (Option X)
  cs = v.block.places

  long : length (map (option_map k) cs) ≡ length cs
  long = length-map cs (option_map k)

  whole_over : IsWhole v → IsWhole ((fields Z).map X Y k v)
  whole_over w = record {
    filled = IsRun-over k 0 v.len cs w.filled;
    exact = λ other. long ∙ w.exact (λ e. other (long ∙ e));
    others = others_over k v.len cs ∙ w.others;
  }

  whole_under : IsWhole ((fields Z).map X Y k v) → IsWhole v
  whole_under w = record {
    filled = IsRun-under k 0 v.len cs w.filled;
    exact = λ other. sym long ∙ w.exact (λ e. other (sym long ∙ e));
    others = sym (others_over k v.len cs) ∙ w.others;
  }

module _ (Z : RattleType) (G : Ghosts Z.Denot) (R S : RattleType) (h : R.Denot → S.Denot) where
  pub the_places : Alike R S h → Alike (C.the_row R Z G) (C.the_row S Z G) ((the_former this Z.Denot).map R.Denot S.Denot h)
  the_places a = placed.view_places_where (fields Z.Denot) (the_former this Z.Denot) (λ X. view X Z.Denot G)
      (λ X Y k u i. record { items = run_over k 0 u.len u.block.places i; growth = u.block.growth; grown = u.block.grown; alloc = u.block.alloc })
      (λ X u. IsWhole u) (λ X Y k u. whole_under k u) (λ X u. whole_held u)
      R.Denot S.Denot h (C.the_row R Z G).coded (C.the_row S Z G).coded
      (invariant R.Denot Z.Denot G) (invariant S.Denot Z.Denot G) whole_once whole_once (whole_over h) (whole_under h) (λ u w. w)
      (over (I.the_row R Z G)) (over (I.the_row S Z G))
      (struct_places (I.the_type R Z G) (I.the_type S Z G) ((raw.the_former this Z.Denot).map R.Denot S.Denot h, (λ n. n, tt)) _ (λ d. refl) refl
      (laid _ _ _ (raw.the_places Z G R S h a), ((refl, (λ n. refl, λ n. refl)), tt)))

  pub the_codes_placed : Recodes R S h → Recodes (C.the_row R Z G) (C.the_row S Z G) ((the_former this Z.Denot).map R.Denot S.Denot h)
  the_codes_placed e d = pair_recoded (sym (code_map R.coded.code S.coded.code h (λ x. sym (e x)) d.items)) refl
