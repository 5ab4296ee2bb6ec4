use Rattle.std.proofs.Common.{rules, ◌+◌, ◌<◌, ◌≤◌, ◌^◌, [], arith, get_or, length, subst, sym}
use Rattle.aa_ordered.specs.Balance.{joined, position}
use Rattle.aa_ordered.specs.Entries.{IsFound, IsGap}
use Rattle.aa_ordered.proofs.Splitting.{count-small, view-found-after, view-found-before, view-gap-after, view-gap-before}
use Rattle.aa_ordered.proofs.map.OrderedMap.count_below.Goals as goal
use Rattle.aa_ordered.proofs.map.OrderedMap.count_below.Goals.{in-Ok, in-Err}

pub overflow_add-result : goal.overflow_add-result
overflow_add-result g c =
    let ls = c.self.inside.leaves.lists in let s = c.match-find.spot in
    let here : s.list < length ls = search rules in
    let at : s.at ≤ length (get_or ls s.list []) = search rules in
    let small : c.count_in.result + s.at < 2 ^ 64 = omega (arith, at, c.count_in.ensures, count-small ls s.list here c.self.inside.leaves.room c.prove_bounds.ensures.lists c.prove_bounds.ensures.within c.prove_bounds.ensures.room) in
    search (rules, small)

pub returns-clause-before : goal.returns-clause-before
returns-clause-before g c =
    let cmp = g.K.Ord.cmp in let k = c.args.key.now in let l = c.self.inside.leaves in
    elim c.match-find.branch [
      | in-Ok w ↦ view-found-before cmp k l c.args.self.now c.self.view_is c.count_in.result c.match-find.spot.list c.match-find.spot.at c.count_in.ensures g.met.K.Ord.total
          (subst (λ s. IsFound (cmp k) (joined l.lists) (position l.lists s.list s.at)) (sym w.spot-is) w.in-Ok.ensures.found) c.self.invariant.ordered
      | in-Err w ↦ view-gap-before cmp k l c.args.self.now c.self.view_is c.count_in.result c.match-find.spot.list c.match-find.spot.at c.count_in.ensures
          (subst (λ s. IsGap (cmp k) (joined l.lists) (position l.lists s.list s.at)) (sym w.spot-is) w.in-Err.ensures.absent)
    ]

pub returns-clause-after : goal.returns-clause-after
returns-clause-after g c =
    let cmp = g.K.Ord.cmp in let k = c.args.key.now in let l = c.self.inside.leaves in
    elim c.match-find.branch [
      | in-Ok w ↦ view-found-after cmp k l c.args.self.now c.self.view_is c.count_in.result c.match-find.spot.list c.match-find.spot.at c.count_in.ensures g.met.K.Ord.total
          (subst (λ s. IsFound (cmp k) (joined l.lists) (position l.lists s.list s.at)) (sym w.spot-is) w.in-Ok.ensures.found) c.self.invariant.ordered
      | in-Err w ↦ view-gap-after cmp k l c.args.self.now c.self.view_is c.count_in.result c.match-find.spot.list c.match-find.spot.at c.count_in.ensures
          (subst (λ s. IsGap (cmp k) (joined l.lists) (position l.lists s.list s.at)) (sym w.spot-is) w.in-Err.ensures.absent)
    ]
