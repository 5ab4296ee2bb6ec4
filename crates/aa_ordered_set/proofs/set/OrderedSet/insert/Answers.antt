use Rattle.std.proofs.Common.{ap, ◌∙◌}
use Rattle.std.specs.BTreeSet.{insert_key}
use Rattle.std.specs.Map.{keys_of}
use Rattle.std.specs.Ordering.{eq_by_cmp}
use Rattle.aa_ordered.proofs.Resizing.{stays-as}
use Rattle.aa_ordered_set.specs.Sets.{has, SetView}
use Rattle.aa_ordered_set.proofs.Keys.{inserted, member, there}
use Rattle.aa_ordered_set.proofs.set.OrderedSet.insert.Goals as goal

pub returns-clause-kept : goal.returns-clause-kept
returns-clause-kept g c = λ present.
    let cmp = g.T.Ord.cmp in let x = c.args.value in let m = c.self.inside.map in let e = c.in-Ok.ensures in
    let same = e.kept (member (eq_by_cmp cmp x) m.entries ∙ ap (λ (s : SetView _). has cmp s.elements x) c.self.view_is ∙ present) in
    let seen = ap (λ (s : SetView _). s.elements) c.self.view_is in
    let elements = ap keys_of e.inserted ∙ inserted cmp x tt m.entries
    ∙ (λ i. insert_key cmp (seen i) x) ∙ there g.met.T.Ord.total x c.args.self.now.elements c.prove_order.ensures present in
    let capacity = same ∙ ap (λ (s : SetView _). s.capacity) c.self.view_is in
    let resizes = stays-as m c.insert.new.self same e.resizes ∙ ap (λ (s : SetView _). s.resizes) c.self.view_is in
    λ i. record { elements = elements i; capacity = capacity i; resizes = resizes i }
