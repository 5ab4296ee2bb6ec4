use Rattle.std.proofs.Common.{arith}
use Rattle.aa_table.proofs.Moving.{all-free}
use Rattle.aa_table.proofs.Naming.{none-taken}
use Rattle.aa_table.proofs.Placed.{hash-none, length-hashes}
use Rattle.aa_table.specs.Places.{hashes, hashes_of}
use Rattle.allocator_api2.proofs.Blocks.{none-each}
use Rattle.aa_table.proofs.growth.resize.Goals as goal

pub move_indexed-requires-clause-index : goal.move_indexed-requires-clause-index
move_indexed-requires-clause-index g c =
    let h = hashes g.S.BuildHasher g.S.Hasher.Hasher g.K.Hash.hash_input c.args.builder.now in
    let fresh = c.in_ok-fresh.fresh in let room = c.in_ok-room.room.places in
    none-taken fresh.tags.items fresh.overflows.items (hashes_of h room) c.in_ok-fresh.ensures.slots (omega (arith, length-hashes h room, c.in_ok-room.ensures.many)) (hash-none h room c.in_ok-room.ensures.empty) (all-free fresh.tags.items c.in_ok-fresh.ensures.free)

pub drop-places-requires : goal.drop-places-requires
drop-places-requires g c = none-each c.move_indexed.new.from.places (λ s h. c.move_indexed.ensures.emptied s)
