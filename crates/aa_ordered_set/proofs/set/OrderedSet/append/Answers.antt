use Rattle.std.proofs.Common.{ap, ◌∙◌}
use Rattle.aa_ordered.specs.Capacity.{reserved_capacity, reserved_resizes}
use Rattle.aa_ordered.specs.Entries.{OrderedView}
use Rattle.aa_ordered_set.specs.Sets.{insert_keys, set_of}
use Rattle.aa_ordered_set.proofs.Sets.{all-inserted, ok-then, seen-as, seen-count}
use Rattle.aa_ordered_set.proofs.set.OrderedSet.append.Goals as goal

pub returns-clause-appended : goal.returns-clause-appended
returns-clause-appended g c =
    let cmp = g.T.Ord.cmp in let m = c.self.inside.map in let n = c.other.inside.map in
    let s = c.args.self.now in let t = c.args.other.now in
    let seen = seen-as m s c.self.view_is in let long = seen-count n t c.other.view_is in
    ok-then c.append.result (λ same.
    let elements = ap (λ (u : OrderedView _ _). (set_of u).elements) same ∙ all-inserted cmp m.entries n.entries
    ∙ (λ i. insert_keys cmp (c.self.view_is i).elements (c.other.view_is i).elements) in
    let capacity = ap (λ (u : OrderedView _ _). u.capacity) same ∙ (λ i. reserved_capacity (seen i) (long i)) in
    let resizes = ap (λ (u : OrderedView _ _). u.resizes) same ∙ (λ i. reserved_resizes (seen i) (long i)) in
    λ i. record { elements = elements i; capacity = capacity i; resizes = resizes i })
    c.append.ensures.appended
