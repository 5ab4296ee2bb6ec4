use Rattle.std.proofs.Common.{ap, get_or, insert, remove, ◌∙◌}
use Rattle.std.proofs.lemmas.List.{get_or_default}
use Rattle.aa_ordered.proofs.Edits.{head}
use Rattle.aa_ordered.proofs.Heads.{moved-down}
use Rattle.aa_ordered.proofs.leaves.heads.move_down.Goals as goal

pub returns : goal.returns
returns c d =
    let hs = c.args.heads.now in let from = c.args.from in let to = c.args.to in let copy = c.copy_within.ensures in
    moved-down hs c.copy_within.new.self from to (get_or hs from (head 0 0)) copy.len c.requires.0 c.requires.1 copy.by_index.0 copy.by_index.1 copy.by_index.2
    ∙ ap (insert (remove hs from) to) (get_or_default hs from (head 0 0) d c.requires.1)
