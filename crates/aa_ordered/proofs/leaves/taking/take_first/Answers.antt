use Rattle.std.proofs.Common.{◌<◌, arith}
use Rattle.aa_raw.proofs.Runs.{first-filled}
use Rattle.aa_ordered.proofs.Taking.{first-parts}
use Rattle.aa_ordered.proofs.leaves.taking.take_first.Goals as goal

pub take-requires : goal.take-requires
take-requires g c =
    let cs = c.args.block.now.places in let p = c.open_first-part.result in let hs = c.open_first-part.new.heads.items in let q = c.open_first-part.new.back in let is = c.open_first-part.ensures.parts in let some : 0 < p.len = omega (arith, c.if-part-eq0.false) in
    first-filled cs p.at p.len is.first some

pub returns-clause-parts : goal.returns-clause-parts
returns-clause-parts g c =
    let cs = c.args.block.now.places in let p = c.open_first-part.result in let hs = c.open_first-part.new.heads.items in let q = c.open_first-part.new.back in let is = c.open_first-part.ensures.parts in let some : 0 < p.len = omega (arith, c.if-part-eq0.false) in
    rw c.take.ensures.after (first-parts cs p q hs is some c.take.result)
