-- Closures that are called with two values of a block.
use denote.Ref.{MutBor}
use denote.Param.Members.{Mut}
use Rattle.std.specs.Prelude.{◌≡◌, ℕ, get_or, slice_set, Some, None}
use Rattle.aa_raw.specs.Block.{Block, with_places}

-- `f` may be called with a `&mut` to `x` and one to `y`
abbrev pub CallableAtPairMut : {F T R : Type 0}
    → Mut F (MutBor T × (MutBor T × Unit {0})) (R × (MutBor T × (MutBor T × Unit {0})))
    → F → T → T → Type 0
CallableAtPairMut {F} {T} g f x y = (p q : MutBor T) → p.now ≡ x → q.now ≡ y → g.pre f (p, (q, tt))

-- `f` was called once with the values in the places `i` and `j` of `old`. It returned `r` and
-- became `g`, and `new` has in these places what it left there
pub record CalledAtPlaces {F T R A : Type 0} (Calls : F → T → T → R → F → T → T → Type 0)
    (f : F) (old : Block T A) (i j : ℕ) (r : R) (g : F) (new : Block T A) : Type 0 where
  pub first : T
  pub second : T
  pub first_left : T
  pub second_left : T
  pub had : (get_or old.places i None ≡ Some first) × (get_or old.places j None ≡ Some second)
  pub called : Calls f first second r g first_left second_left
  pub left : new
      ≡ with_places old (slice_set (slice_set old.places i (Some first_left)) j (Some second_left))
