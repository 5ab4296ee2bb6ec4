use Rattle.aa_ordered.proofs.Mending.{inserted-balanced, inserted-there}
use Rattle.aa_ordered.proofs.map.spots.insert_at.Goals as goal

pub returns-in-Ok-make_room-clause-inserted : goal.returns-in-Ok-make_room-clause-inserted
returns-in-Ok-make_room-clause-inserted g c = rw (c.insert.ensures) (inserted-there c.args.leaves.now.lists _ c.make_room.new.leaves.lists c.in-Ok-make_room.to.list c.in-Ok-make_room.to.at c.in-Ok-make_room.ensures.moved c.args.item)

pub returns-in-Ok-make_room-clause-balanced : goal.returns-in-Ok-make_room-clause-balanced
returns-in-Ok-make_room-clause-balanced g c = rw (c.insert.ensures) (inserted-balanced c.args.leaves.now.lists _ c.make_room.new.leaves.lists c.in-Ok-make_room.to.list c.in-Ok-make_room.to.at c.in-Ok-make_room.ensures.moved c.args.item)
