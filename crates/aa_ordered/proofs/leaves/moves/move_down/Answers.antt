use Rattle.aa_ordered.proofs.Moves.{IsRun-kept_down, IsRun-there_down, keeps_down}
use Rattle.aa_ordered.proofs.leaves.moves.move_down.Goals as goal

pub returns-clause-filled : goal.returns-clause-filled
returns-clause-filled g c =
    let a = c.args in let r = c.requires in
    rw (c.move_run-2.ensures, c.move_run.ensures) (IsRun-kept_down a.block.now.places a.leaf a.len a.k a.to a.count r.places r.apart r.filled r.filled_there r.within r.room)

pub returns-clause-filled_there : goal.returns-clause-filled_there
returns-clause-filled_there g c =
    let a = c.args in let r = c.requires in
    rw (c.move_run-2.ensures, c.move_run.ensures) (IsRun-there_down a.block.now.places a.leaf a.len a.k a.to a.count r.places r.apart r.filled r.filled_there r.within r.room)

pub returns-clause-others : goal.returns-clause-others
returns-clause-others g c =
    let a = c.args in let r = c.requires in
    rw (c.move_run-2.ensures, c.move_run.ensures) (keeps_down a.block.now.places a.leaf a.len a.k a.to a.count r.places r.apart r.filled r.filled_there r.within r.room)
