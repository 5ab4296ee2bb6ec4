use Rattle.aa_vec.proofs.Common.{CallableAtMut, CalledAtMut, run}
use Rattle.aa_vec.specs.Extract.{extract_remaining}
use Rattle.aa_vec.proofs.ExtractLemmas.{may_spare, picked_held}
use Rattle.aa_vec.proofs.vec.extract_if.ExtractBy.next_by.Goals as goal

pub pick-passed-requires-clause-callable : goal.pick-passed-requires-clause-callable
unfolding extract_remaining run
pick-passed-requires-clause-callable g c =
    may_spare (CalledAtMut g.F.FnMut) (CallableAtMut g.F.FnMut) c.args.f.now _ c.requires.along

pub invariant_of-self-clause-held : goal.invariant_of-self-clause-held
invariant_of-self-clause-held g c = let p = c.pick-passed in
    picked_held c.args.self.now (CalledAtMut g.F.FnMut) c.args.f.now p.result.0 p.result.1
    p.result.2 p.new.f p.new.self p.ensures
