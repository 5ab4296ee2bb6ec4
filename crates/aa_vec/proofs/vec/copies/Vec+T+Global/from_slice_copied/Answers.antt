use Rattle.std.proofs.Common.{rules}
use Rattle.aa_vec.proofs.vec.copies.Vec+T+Global.from_slice_copied.Goals as goal

pub returns-clause-made : goal.returns-clause-made
returns-clause-made g c = search rules
