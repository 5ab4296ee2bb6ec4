use Rattle.aa_vec.proofs.Common.{drop-set-lt, length-run, length-set, rules, run-at, run-set}
use Rattle.aa_vec.proofs.vec.Vec.item_mut.Goals as goal

pub returns : goal.returns
returns g c = search (rules, length-run, run-set, length-set, drop-set-lt, run-at)
