use Rattle.aa_vec.proofs.Common.{rules}
use Rattle.aa_vec.proofs.Gathered.{LacksRest-clone, LacksRest-more}
use Rattle.aa_vec.proofs.vec.Vec.gather.Goals as goal

pub returns-in_default-clause-failed : goal.returns-in_default-clause-failed
returns-in_default-clause-failed g c =
    LacksRest-clone _ _ _ _ _ _ c.args.self.now _ c.lower_bound.ensures _
    c.saturating_add-wanted.ensures _ (search rules) (search rules)

pub returns-in-Err-extend_with_bound-clause-failed :
    goal.returns-in-Err-extend_with_bound-clause-failed
returns-in-Err-extend_with_bound-clause-failed g c =
    LacksRest-more _ _ _ _ _ _ c.args.self.now _ c.lower_bound.ensures _
    c.saturating_add-wanted.ensures _ c.new_in-more.result c.new_in-more.ensures
    c.try_reserve.new.self c.in_default-try_reserve.ensures.reserved c.put_next.new.self
    c.put_next.ensures.put _ _ _ c.in-Err-extend_with_bound.ensures.extended.error
