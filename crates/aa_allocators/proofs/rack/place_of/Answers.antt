use Rattle.aa_allocators.proofs.Placing.{is_place}
use Rattle.aa_allocators.proofs.rack.place_of.Goals as goal

pub returns : goal.returns
returns c = is_place c.args.size c.max.result c.ilog2.result c.saturating_sub.result c.min.result c.max.ensures c.ilog2.ensures.power_le c.ilog2.ensures.next_power_gt c.saturating_sub.ensures c.min.ensures
