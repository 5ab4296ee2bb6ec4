use Rattle.std.specs.Mem.{type_size}
use Rattle.aa_ring.proofs.Filling.{results-roomy}
use Rattle.aa_ring.proofs.ring.Ring.resize_with.Goals as goal

pub returns-clause-filled : goal.returns-clause-filled
returns-clause-filled g c =
    λ longer. (c.push_results.new.f, results-roomy _ (type_size g.row.T) c.args.self.now c.reserve.new.self _ c.len-len.result c.args.new_len _ _ c.len-len.ensures.count c.in_default.ensures.reserved c.push_results.ensures)
