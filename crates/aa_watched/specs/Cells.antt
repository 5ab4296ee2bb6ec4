-- What a cell of this crate owns, and what the holder of a `&` to it can reach.
use Rattle.std.specs.Prelude.{◌≡◌, ℕ, ◌≤◌, List}
use mir.Val.{Val}
use base.Fraction.{full_share}
use base.Fml.{Lft, Fml, ffalse, ftrue, fsep, fex}
use denote.RattleType.{RattleType}
use denote.Memory.{cell_at}
use denote.RawPtr.{Ptr, block_ptr, null_ptr}
use denote.Sharing.{said}
use denote.Hidden.{guarded}

-- of the bytes that a cell of `limit` bytes notes, `allocated` are within `most`, and those within
-- the limit
abbrev pub IsWithin : ℕ → ℕ → ℕ → Type 0
IsWithin limit allocated most = (allocated ≤ most) × (most ≤ limit)

-- the same, as what is owned
abbrev pub noted_within : ℕ → ℕ → ℕ → ℕ → Fml
noted_within limit l a m = fex ((l ≡ limit) × IsWithin limit a m) (λ _. ftrue)

module _ (F : RattleType) (I : F.Denot → Fml) where
  -- the fields of a cell at the block `b` and offset `o`, such that `I` holds of them
  abbrev pub holds_at : ℕ → ℕ → Fml
  holds_at b o =
      fex (List Val) (λ vs. fsep (cell_at full_share F.mir vs b o)
      (fex F.Denot (λ i. fsep (F.own_val i vs) (I i))))

  -- through a `&`, one call at a time reaches the fields, and `I` holds again after it
  abbrev pub seen_by_one : Ptr → Lft → Fml
  seen_by_one null_ptr = said ffalse
  seen_by_one (block_ptr b o) = guarded (b, o) (holds_at b o)
