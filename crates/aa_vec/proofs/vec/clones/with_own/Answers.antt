use Rattle.std.proofs.Common.{get_or, subst, ◌≡◌, ◌+◌}
use Rattle.aa_vec.proofs.CopiesLemmas.{own-fails}
use Rattle.aa_vec.proofs.vec.clones.with_own.Goals as goal

pub returns-in-Err-clause-clone_failed : goal.returns-in-Err-clause-clone_failed
returns-in-Err-clause-clone_failed g c =
    λ less. let x = c.index-as_slice-from.result in let at = c.args.own.0 + c.each.pushed in
    let seen = subst (λ xs. x ≡ get_or xs at x) c.as_slice.ensures c.index-as_slice-from.is in
    own-fails g.T.Clone.is_clone g.T.Clone.is_infallible c.args.list c.each.list _ _ _ x
    c.each.invariant less c.requires.range seen c.in-Err.ensures.cases
