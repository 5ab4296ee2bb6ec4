use Rattle.std.proofs.Common.{Some, ap, ◌∙◌}
use Rattle.aa_ordered.proofs.Ends.{first-get, spot-get}
use Rattle.aa_ordered.proofs.map.OrderedMap.first_key_value.Goals as goal

pub returns-in-Some : goal.returns-in-Some
returns-in-Some g c =
    ap Some c.index-list-spot.is
    ∙ spot-get c.self.inside.leaves.lists c.in-Some.spot.list c.in-Some.spot.at c.in-Some.ensures.item c.list.result.now c.index-list-spot.result c.list.ensures.list
    ∙ first-get c.self.inside.leaves c.args.self.now c.self.view_is _ c.in-Some.ensures.first
