use Rattle.aa_gap.proofs.{empty, len, refl, type_size, ◌∙◌, ◌≡◌}
use Rattle.aa_raw.proofs.Beyond.{none-fresh}
use Rattle.aa_raw.proofs.Places.{length-empty_places}
use Rattle.std.proofs.lemmas.List.Elements.{same_from_all_zip}
use denote.Param.{param}
use Rattle.aa_gap.proofs.Extending.{IsCopy-made, parts-made}
use Rattle.aa_gap.proofs.gap_buffer.GapBuffer.clone.Given.{Over}
use Rattle.aa_gap.proofs.gap_buffer.GapBuffer.clone.Goals as goal

-- the text that the clones are inserted into
made-empty : (g : Over) (c : goal.After-move_to g) → let size = type_size (param 0 g.row.T) in
    c.with_block-copy.result
    ≡ empty size (len c.args.self.now) c.args.self.now.growth c.in-Ok.alloc
made-empty g c =
    let T = param 0 g.row.T in
    let long = length-empty_places T.Denot (type_size T) (len c.args.self.now) in
    let block = c.in_ok-block.ensures.made in
    let sizes = c.len-capacity.ensures.count in let growth = c.growth-growth.ensures in
    c.with_block-copy.ensures ∙ rw (block, sizes, growth, long)

pub with_block-copy-requires : goal.with_block-copy-requires
with_block-copy-requires g c =
    let T = param 0 g.row.T in
    rw c.in_ok-block.ensures.made (none-fresh T.Denot (type_size T) c.len-capacity.result)

pub returns-clause-made : goal.returns-clause-made
returns-clause-made g c =
    let size = type_size (param 0 g.row.T) in let b = c.args.self.now in
    let none = c.with_block-copy.result in let t = c.if-not-insert_text.ensures.added refl in
    let made = IsCopy-made g.T.Clone.is_clone size b none t.0 c.insert_text.new.self t.1 t.2 in
    rw (c.move_to.ensures, c.cursor.ensures) (made c.in-Ok.alloc (made-empty g c))

pub returns-clause-copied : goal.returns-clause-copied
returns-clause-copied g c =
    λ equal. let size = type_size (param 0 g.row.T) in let b = c.args.self.now in
    let none = c.with_block-copy.result in let t = c.if-not-insert_text.ensures.added refl in
    let clones = g.T.Clone.is_clone in let same = same_from_all_zip clones in
    let parts = parts-made clones size b none t.0 c.insert_text.new.self t.1 t.2 in
    let is = parts c.in-Ok.alloc (made-empty g c) in
    rw (c.move_to.ensures, c.cursor.ensures)
    (is.0 ∙ same _ _ t.1.each equal, is.1 ∙ same _ _ t.2.each equal)
