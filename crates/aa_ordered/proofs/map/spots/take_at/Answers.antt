use Rattle.std.proofs.Common.{◌∙◌}
use Rattle.aa_ordered.proofs.Flat.{joined-removed}
use Rattle.aa_ordered.proofs.Mending.{left-place, left-within, nearly, removed-item}
use Rattle.aa_ordered.proofs.map.spots.take_at.Goals as goal

pub mend-requires-clause-nearly : goal.mend-requires-clause-nearly
mend-requires-clause-nearly g c = rw (c.remove-item.ensures.removed) (nearly c.args.leaves.now.lists c.args.spot.list c.args.spot.at c.requires.item c.requires.balanced)

pub returns-clause-item : goal.returns-clause-item
returns-clause-item g c = removed-item c.args.leaves.now.lists c.args.spot.list c.args.spot.at c.requires.item c.remove-item.result c.remove-item.ensures.item

pub returns-clause-removed : goal.returns-clause-removed
returns-clause-removed g c =
    c.mend.ensures.same ∙ rw (c.remove-item.ensures.removed) (joined-removed c.args.leaves.now.lists c.args.spot.list c.requires.item.list c.args.spot.at c.requires.item.within)

pub mend-requires-clause-within : goal.mend-requires-clause-within
mend-requires-clause-within g c = rw (c.remove-item.ensures.removed) (left-within c.args.leaves.now.lists c.args.spot.list c.args.spot.at c.requires.item)

pub returns-clause-place : goal.returns-clause-place
returns-clause-place g c = c.mend.ensures.place ∙ rw (c.remove-item.ensures.removed) (left-place c.args.leaves.now.lists c.args.spot.list c.args.spot.at c.requires.item _)
