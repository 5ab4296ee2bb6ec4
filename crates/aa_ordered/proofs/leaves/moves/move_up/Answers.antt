use Rattle.aa_ordered.proofs.Moves.{IsRun-kept_up, IsRun-there_up, keeps_up}
use Rattle.aa_ordered.proofs.leaves.moves.move_up.Goals as goal

pub returns-clause-filled : goal.returns-clause-filled
returns-clause-filled g c =
    let a = c.args in let r = c.requires in
    rw (c.move_run-2.ensures, c.move_run.ensures) (IsRun-kept_up a.block.now.places a.leaf a.len a.k a.to a.count r.places r.apart r.filled r.filled_there r.within r.room)

pub returns-clause-filled_there : goal.returns-clause-filled_there
returns-clause-filled_there g c =
    let a = c.args in let r = c.requires in
    rw (c.move_run-2.ensures, c.move_run.ensures) (IsRun-there_up a.block.now.places a.leaf a.len a.k a.to a.count r.places r.apart r.filled r.filled_there r.within r.room)

pub returns-clause-others : goal.returns-clause-others
returns-clause-others g c =
    let a = c.args in let r = c.requires in
    rw (c.move_run-2.ensures, c.move_run.ensures) (keeps_up a.block.now.places a.leaf a.len a.k a.to a.count r.places r.apart r.filled r.filled_there r.within r.room)
