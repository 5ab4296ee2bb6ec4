-- A `Box` inside a recursive type: it holds its value, and nothing else.
use Rattle.std.specs.Prelude.{◌≡◌, Option, Some, None, is_some, IsSome}
use Rattle.std.specs.Option.{option_map}
use mathlib.Core.Path.{refl, sym, ◌∙◌}
use mathlib.Core.Bool.{Bool-set}
use mathlib.Core.Former.{Former, none_left, one_more, this, const, pair, via, such}
use denote.RattleType.{RattleType}
use denote.HoleLaws.{Alike}
use denote.HolePlaces.{Recodes, struct_places, laid}
use denote.Hole.Fix.{over}
use denote.Param.Weighed.{Weighed}
use denote.Model.Placed as placed
use Rattle.std.proofs.Common.{true≢false}
use Rattle.std.specs.declared.alloc.Allocator.{Ghosts}
use Rattle.aa_raw.specs.Held.{option, pair_recoded}
use Rattle.aa_raw.specs.formers.raw_box.RawBox as raw
use Rattle.aa_boxed.specs.Boxed.{Boxed, value_of}
use Rattle.aa_boxed.specs.declared.boxed.Box.TheInside.{Inside}
use Rattle.aa_boxed.specs.declared.boxed.Box.TheView.{view, invariant}
use Rattle.aa_boxed.specs.contracts.boxed.Box as C
use Rattle.aa_boxed.specs.contracts.boxed.Box.TheInside as I

abbrev pub the_former : Former {0} → Type 0 → Former {0}
the_former g Z = via (pair g (const Z)) (λ X. Boxed (g.Of X) Z) (λ X b. (b.value, b.alloc)) (λ X v. record { value = v.0; alloc = v.1 }) (λ X b. refl) (λ X v. refl)

abbrev pub the_weighed : {g : Former {0}} → Weighed g → (Z : Type 0) → Weighed (the_former g Z)
the_weighed w Z = record { weight = λ X μ b. w.weight X μ b.value; puts = λ X μ b. w.puts X μ b.value }

module _ {X Y : Type 0} (k : X → Y) where
  some_over : (c : Option X) → is_some (option_map k c) ≡ is_some c
  some_over None = refl
  some_over (Some x) = refl

  held_over : (c : Option X) (p : IsSome c) (q : IsSome (option_map k c)) → value_of (option_map k c) q ≡ k (value_of c p)
  held_over None p q = absurd (true≢false (sym p))
  held_over (Some x) p q = refl

module _ {X : Type 0} where
  one_held : (c : Option X) (p : IsSome c) → ◌≡◌ {A = placed.Held X} (one_more none_left, (value_of c p, tt)) (placed.held (option this) X c)
  one_held None p = absurd (true≢false (sym p))
  one_held (Some x) p = refl

abbrev fields : Type 0 → Former {0}
fields Z = via (such (raw.the_former this Z) (λ X b. IsSome b.place) (λ a. IsSome a.0) (λ X b. Bool-set _ _) (λ a. Bool-set _ _)
    (λ X b s. some_over (λ _. tt) b.place ∙ s) (λ X b s. sym (some_over (λ _. tt) b.place) ∙ s))
    (λ X. Inside X Z) (λ X a. (a.block, a.filled)) (λ X v. record { block = v.0; filled = v.1 }) (λ X a. refl) (λ X v. refl)

module _ (Z : RattleType) (G : Ghosts Z.Denot) (R S : RattleType) (h : R.Denot → S.Denot) where
  pub the_places : Alike R S h → Alike (C.the_row R Z G) (C.the_row S Z G) ((the_former this Z.Denot).map R.Denot S.Denot h)
  the_places a = placed.view_places (fields Z.Denot) (the_former this Z.Denot) (λ X. view X Z.Denot G)
      (λ X Y k u i. record { value = held_over k u.block.place u.filled ((fields Z.Denot).map X Y k u).filled i; alloc = u.block.alloc })
      (λ X u. one_held u.block.place u.filled)
      R.Denot S.Denot h (C.the_row R Z G).coded (C.the_row S Z G).coded
      (invariant R.Denot Z.Denot G) (invariant S.Denot Z.Denot G) (λ u p q. refl) (λ u p q. refl) (λ u e. tt) (λ u e. tt)
      (over (I.the_row R Z G)) (over (I.the_row S Z G))
      (struct_places (I.the_type R Z G) (I.the_type S Z G) ((raw.the_former this Z.Denot).map R.Denot S.Denot h, tt) _ (λ d. refl) refl (laid _ _ _ (raw.the_places Z G R S h a), tt))

  pub the_codes_placed : Recodes R S h → Recodes (C.the_row R Z G) (C.the_row S Z G) ((the_former this Z.Denot).map R.Denot S.Denot h)
  the_codes_placed e d = pair_recoded (e d.value) refl
