use Rattle.std.specs.Mem.{type_size}
use Rattle.allocator_api2.specs.declared.raw_vec.Growth.TheVariants.{Doubling}
use denote.Param.{param}
use Rattle.aa_ring.specs.Ringed.{empty}
use Rattle.aa_ring.proofs.Extending.{extended-all}
use Rattle.aa_ring.proofs.ring.made.RingFromIterator.from_iter.Goals as goal

pub returns-in-Ok-clause-collected : goal.returns-in-Ok-clause-collected
returns-in-Ok-clause-collected g c =
    let bytes = type_size (param 0 g.row.T) in
    let none = empty bytes 0 Doubling c.args.alloc in
    let made = c.in-Ok.ensures.made in let all = made.2 in
    let has = extended-all bytes none all.bound all.added c.in-Ok.ring all.put in
    (made.0, all.added, made.1, all.yields, c.args.alloc, has)
