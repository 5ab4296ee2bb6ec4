-- The text machine, a reference model: a text and a position in it, without a gap.
use Rattle.std.specs.Prelude.{ℕ, ◌+◌, ◌-◌, min, List, [], ◌∷◌, ◌++◌, length, take, drop, insert, remove}
use Rattle.aa_gap.specs.declared.gap_buffer.Edit.{Edit}
use Rattle.aa_gap.specs.declared.gap_buffer.Edit.TheVariants.{Insert, DeleteBack, DeleteForward, MoveTo}
use Rattle.aa_gap.specs.Buffer.{Buffer, text, cursor}

-- a text and a position in it
pub record Page (T : Type 0) : Type 0 where
  pub text : List T
  pub position : ℕ

-- the gap buffer `b` without its gap
abbrev pub page : {T A : Type 0} → Buffer T A → Page T
page b = record { text = text b; position = cursor b }

module _ {T : Type 0} where
  -- the page `p` after an edit
  abbrev pub edited : Page T → Edit T → Page T
  edited p (Insert x) = record { text = insert p.text p.position x; position = p.position + 1 }
  edited p DeleteBack =
      let before = p.position - 1 in
      record { text = take before p.text ++ drop p.position p.text; position = before }
  edited p DeleteForward = record { text = remove p.text p.position; position = p.position }
  edited p (MoveTo q) = record { text = p.text; position = min q (length p.text) }

  -- how many elements an edit of the page `p` writes at most: those that the cursor passes, and the
  -- one that it inserts
  abbrev pub written_by : Edit T → Page T → ℕ
  written_by (Insert x) p = 1
  written_by DeleteBack p = 0
  written_by DeleteForward p = 0
  written_by (MoveTo q) p =
      let there = min q (length p.text) in (p.position - there) + (there - p.position)

  -- how many of these edits insert an element
  abbrev pub inserts : List (Edit T) → ℕ
  inserts [] = 0
  inserts (Insert x ∷ es) = inserts es + 1
  inserts (DeleteBack ∷ es) = inserts es
  inserts (DeleteForward ∷ es) = inserts es
  inserts (MoveTo q ∷ es) = inserts es

  -- the sum of `by` over these edits, each with the page that it is applied to
  abbrev pub total : (by : Edit T → Page T → ℕ) → List (Edit T) → Page T → ℕ
  total by [] p = 0
  total by (e ∷ es) p = by e p + total by es (edited p e)
