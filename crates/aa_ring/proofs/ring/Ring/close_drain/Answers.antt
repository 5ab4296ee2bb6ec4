use Rattle.aa_ring.proofs.Draining.{closed}
use Rattle.aa_ring.proofs.ring.Ring.close_drain.Goals as goal

pub returns : goal.returns
returns g c =
    closed c.args.self.now c.drop_first.new.self c.rotate_left.new.self c.args.removed c.args.turn c.len.result c.min.result c.drop_first.ensures c.len.ensures.count c.min.ensures c.rotate_left.ensures
