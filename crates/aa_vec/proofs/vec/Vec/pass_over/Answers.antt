use Rattle.aa_vec.proofs.{CalledAtMut, KeepsWhen, closes_none, false}
use Rattle.aa_vec.proofs.ExtractTurns.{asked_first, asked_down}
use Rattle.aa_vec.proofs.vec.Vec.pass_over.Goals as goal

pub close_gap-requires : goal.close_gap-requires
close_gap-requires g c =
    asked_first (KeepsWhen false (CalledAtMut g.F.FnMut)) c.count_passed-passed.ensures
    c.requires.has_tail

pub close_gap_by_one-requires-clause-has_tail : goal.close_gap_by_one-requires-clause-has_tail
close_gap_by_one-requires-clause-has_tail g c =
    rw c.if-passed-eq1.true at
    (asked_first (KeepsWhen false (CalledAtMut g.F.FnMut)) c.count_passed-passed.ensures
    c.requires.has_tail)

pub returns-then-passed-eq0 : goal.returns-then-passed-eq0
returns-then-passed-eq0 g c =
    asked_down (KeepsWhen false (CalledAtMut g.F.FnMut)) c.count_passed-passed.ensures
    c.requires.has_tail c.if-passed-eq0.true (closes_none c.count_passed-passed.new.self c.args.gap)

pub returns-then-gap-gt0 : goal.returns-then-gap-gt0
returns-then-gap-gt0 g c =
    asked_down (KeepsWhen false (CalledAtMut g.F.FnMut)) c.count_passed-passed.ensures
    c.requires.has_tail c.if-passed-eq1.true c.close_gap_by_one.ensures
