-- In what a row and a claim own, elements are only put in their places: it depends on nothing of
-- their type but its layout and what its values own and share.
--     N-placed      `N` says the same of `S` at `h x` as of `R` at `x`, if the two have the same
--                   layout, and own and share the same
use Rattle.std.specs.Prelude.{◌≡◌, ℕ, suc, ◌+◌, ◌*◌, ◌^◌, List, [], ◌∷◌, map, length, Option, Some, None}
use Rattle.std.specs.Option.{option_map}
use mathlib.Core.Path.{refl}
use lib.ListN.{length-map}
use base.Fraction.{full_share}
use base.Fml.{Lft, Fml, fsep, flt, froom}
use mir.Raw.{raw}
use mir.Syntax.{Ty}
use prog.Memory.{size}
use denote.RattleType.{RattleType}
use denote.Memory.{lone, part_of, raw_all}
use denote.RawPtr.{Ptr, block_ptr, null_ptr}
use denote.HoleLaws.{Alike}
use Rattle.aa_raw.specs.Ownership.{each, place_owns, place_shares, fits_isize, row_owns, row_shares, claim_owns, capacity_bounds}

module _ (R S : RattleType) (h : R.Denot → S.Denot) (a : Alike R S h) where
  abbrev over_places : List (Option R.Denot) → List (Option S.Denot)
  over_places = map (option_map h)

  module _ (b o : ℕ) where
    place_owns_placed : (k : ℕ) (c : Option R.Denot) → place_owns S b o k (option_map h c)
        ≡ place_owns R b o k c
    unfolding part_of
    place_owns_placed k (Some x) = λ i. part_of (raw_all (a.mir_same i))
        (λ (_ : Unit {0}). a.own_same x i) full_share tt b (k * size (lone (a.mir_same i)) + o)
    place_owns_placed k None =
        λ i. froom (raw (lone (a.mir_same i))) b (k * size (lone (a.mir_same i)) + o)

    place_shares_placed : (κ : Lft) (k : ℕ) (c : Option R.Denot)
        → place_shares S b o κ k (option_map h c) ≡ place_shares R b o κ k c
    place_shares_placed κ k (Some x) = λ i. a.shr_same x i b (k * size (lone (a.mir_same i)) + o) κ
    place_shares_placed κ k None = refl

    each_placed : (k : ℕ) (cs : List (Option R.Denot))
        → each (place_owns S b o) k (over_places cs) ≡ each (place_owns R b o) k cs
    each_placed k [] = refl
    each_placed k (c ∷ cs) = λ i. fsep (place_owns_placed k c i) (each_placed (suc k) cs i)

    each_shares_placed : (κ : Lft) (k : ℕ) (cs : List (Option R.Denot))
        → each (place_shares S b o κ) k (over_places cs) ≡ each (place_shares R b o κ) k cs
    each_shares_placed κ k [] = refl
    each_shares_placed κ k (c ∷ cs) =
        λ i. fsep (place_shares_placed κ k c i) (each_shares_placed κ (suc k) cs i)

  fits_isize_placed : (cs : List (Option R.Denot))
      → fits_isize S (length (over_places cs)) ≡ fits_isize R (length cs)
  fits_isize_placed cs = λ i. flt (length-map cs (option_map h) i * size (lone (a.mir_same i)))
      (2 ^ 63)

  pub row_owns_placed : (p : Ptr) (cs : List (Option R.Denot))
      → row_owns S p (over_places cs) ≡ row_owns R p cs
  row_owns_placed null_ptr cs = refl
  row_owns_placed (block_ptr b o) cs = λ i. fsep (fits_isize_placed cs i) (each_placed b o 0 cs i)

  pub row_shares_placed : (p : Ptr) (cs : List (Option R.Denot))
      → row_shares S p (over_places cs) ≡ row_shares R p cs
  row_shares_placed null_ptr cs = refl
  row_shares_placed (block_ptr b o) cs = λ i κ. fsep (fits_isize_placed cs i)
      (each_shares_placed b o κ 0 cs i)

  pub claim_owns_placed : (t : Ty → Ptr → Fml) (p : Ptr) (n : ℕ)
      → claim_owns S t p n ≡ claim_owns R t p n
  claim_owns_placed t p n = λ i. claim_owns (record R { mir = a.mir_same i }) t p n

  pub capacity_bounds_placed : (n : ℕ) → capacity_bounds S n ≡ capacity_bounds R n
  capacity_bounds_placed n = λ i. capacity_bounds (record R { mir = a.mir_same i }) n
