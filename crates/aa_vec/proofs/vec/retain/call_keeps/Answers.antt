use Rattle.std.proofs.Common.{rules}
use Rattle.aa_vec.proofs.Calling.{result_is}
use Rattle.aa_vec.proofs.vec.retain.call_keeps.Goals as goal

pub returns : goal.returns
returns g c = rw (← result_is c.keep.result c.args.keep_when) (search rules)
