-- The view of the fields of a `RawBox`, and their invariant.
use Rattle.std.specs.Prelude.{◌≡◌, ◌≢◌, get_or, length, drop, None}
use Rattle.aa_raw.specs.Growth.{usize_max}
use Rattle.aa_raw.specs.Places.{AreEmpty}
use Rattle.aa_raw.specs.Single.{Single}
use Rattle.aa_raw.specs.declared.raw_box.RawBox.TheInside.{Inside}

module _ {X A : Type 0} where
  -- the raw box with the fields `v`, as contracts see it: the first place of its row
  abbrev pub view_of : Inside X A → Single X A
  view_of v = record { place = get_or v.row.places 0 None; alloc = v.alloc }

module _ {X A : Type 0} where
  -- the fields `v` are consistent: the claim is for the row, which has one place or `usize::MAX`,
  -- and only its first may be filled
  pub record IsWhole (v : Inside X A) : Type 0 where
    pub claim : (v.claim.ptr ≡ v.row.ptr) × (v.claim.len ≡ length v.row.places)
        × (v.claim.alloc ≡ v.alloc)
    pub long : length v.row.places ≢ 1 → length v.row.places ≡ usize_max
    pub others : AreEmpty (drop 1 v.row.places)
