use Rattle.aa_vec.proofs.Common.{arith}
use Rattle.aa_vec.proofs.Filled.{IsMadeOfOne-filled, IsMade-copied}
use Rattle.aa_vec.proofs.vec.Vec.from_elem_in.Goals as goal

pub returns-then-fill-clause-made : goal.returns-then-fill-clause-made
returns-then-fill-clause-made g c =
    IsMadeOfOne-filled _ _ _ _ (omega (arith, c.if-n-eq0.false)) c.args.alloc c.in_ok-made.made
    c.fill.new.self c.in_ok-made.ensures.made (c.fill.ensures.filled c.if-fill.true)

pub returns-then-fill-clause-copied : goal.returns-then-fill-clause-copied
returns-then-fill-clause-copied g c copies =
    IsMade-copied _ _ _ _ (omega (arith, c.if-n-eq0.false)) c.fill.new.self copies
    (returns-then-fill-clause-made g c)
