use Rattle.aa_vec.proofs.{CalledAtMut, ◌∙◌}
use Rattle.aa_vec.proofs.ExtractTurns.{joined_stand, next_asked, next_gap, Picks-none, Picks-taken}
use Rattle.aa_vec.proofs.vec.Vec.pick.Goals.{then-passed-count, else-passed-count}
use Rattle.aa_vec.proofs.vec.Vec.pick.Goals as goal

pub pass_over-passed-requires-clause-has_tail : goal.pass_over-passed-requires-clause-has_tail
pass_over-passed-requires-clause-has_tail g c =
    joined_stand c.args.rest.start c.args.rest.end c.requires.ordered c.requires.has_tail.0
    c.requires.has_tail.1 c.close_gap.ensures

pub take_at-requires : goal.take_at-requires
take_at-requires g c =
    next_asked c.args.rest.start c.args.rest.end c.requires.ordered c.requires.has_tail.0
    c.requires.has_tail.1 c.close_gap.ensures (CalledAtMut g.F.FnMut) c.pass_over-passed.ensures
    c.len-len.result c.len-len.ensures.count c.if-passed-count.true

pub returns : goal.returns
returns g c =
    let set = rw c.len-len.ensures.count at c.set_tail.ensures.tail_set in
    let gap = next_gap c.args.rest.start c.args.rest.end c.requires.ordered c.requires.has_tail.0
    c.requires.has_tail.1 c.close_gap.ensures (CalledAtMut g.F.FnMut) c.pass_over-passed.ensures
    c.len-len.result c.len-len.ensures.count in
    elim c.if-passed-count.branch [
      | then-passed-count w ↦ rw w.next-is
          (Picks-taken c.args.rest.start c.args.rest.end c.requires.ordered c.requires.has_tail.0
          c.requires.has_tail.1 c.close_gap.ensures
          (CalledAtMut g.F.FnMut) c.pass_over-passed.ensures
          w.if-passed-count.true (rw gap at w.take_at.ensures.0)
          (w.self-is ∙ (rw gap at w.take_at.ensures.1)) set)
      | else-passed-count w ↦ rw w.next-is
          (Picks-none c.args.rest.start c.args.rest.end c.requires.ordered c.requires.has_tail.0
          c.requires.has_tail.1 c.close_gap.ensures
          (CalledAtMut g.F.FnMut) c.pass_over-passed.ensures
          w.if-passed-count.false (rw w.self-is at set))
    ]
