use Rattle.std.proofs.Common.{ap, sym, ◌∙◌}
use Rattle.std.specs.BTreeMap.{is_at}
use Rattle.std.specs.Map.{lookup}
use Rattle.aa_ordered.specs.Entries.{OrderedView}
use Rattle.aa_ordered.proofs.Found.{gap-value}
use Rattle.aa_ordered.proofs.Reading.{read-value}
use Rattle.aa_ordered.proofs.map.OrderedMap.get.Goals as goal

pub returns-in-Ok : goal.returns-in-Ok
returns-in-Ok g c =
    read-value (g.Q.Lookup.order c.args.key) c.self.inside.leaves.lists c.in-Ok.spot.list c.in-Ok.spot.at c.in-Ok.ensures.item c.in-Ok.ensures.found c.list.result.now c.index-list-spot.result c.list.ensures.list
    ∙ ap (λ (m : OrderedView g.row.K.Denot g.row.V.Denot). lookup (is_at (g.Q.Lookup.order c.args.key)) m.entries) c.self.view_is

pub returns-in-Err : goal.returns-in-Err
returns-in-Err g c =
    sym (gap-value (g.Q.Lookup.order c.args.key) _ _ c.in-Err.ensures.absent)
    ∙ ap (λ (m : OrderedView g.row.K.Denot g.row.V.Denot). lookup (is_at (g.Q.Lookup.order c.args.key)) m.entries) c.self.view_is
