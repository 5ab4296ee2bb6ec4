use Rattle.aa_vec.proofs.{FillsAndCloses-gap, rules}
use Rattle.aa_vec.proofs.vec.Vec.fill_and_close.Goals as goal

pub returns-clause-filled : goal.returns-clause-filled
returns-clause-filled g c =
    let closed = FillsAndCloses-gap _ _ _ _ _ _ _ c.replace_with-left.new.dest c.close_gap.new.self
    c.replace_with-left.ensures.1.0 c.close_gap.ensures in search (rules, closed)
