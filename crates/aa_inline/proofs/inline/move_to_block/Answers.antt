use Rattle.std.specs.Mem.{type_size}
use denote.Param.{param}
use Rattle.aa_inline.proofs.Spilled.{spilled}
use Rattle.aa_inline.proofs.inline.move_to_block.Goals as goal

pub returns-clause-made : goal.returns-clause-made
returns-clause-made g c =
    spilled (type_size (param 0 g.row.T)) c.args.needed c.args.few.now c.args.alloc c.new_in-heap.result c.try_reserve.new.self c.pour.new.into c.new_in-heap.ensures c.in_ok-try_reserve.ensures.reserved c.pour.ensures.items c.pour.ensures.block c.pour.ensures.written
