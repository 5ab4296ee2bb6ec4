use Rattle.std.proofs.Common.{eqb, not, arith, ◌∙◌}
use Rattle.std.proofs.lemmas.Simd.{bitmask_splat}
use Rattle.aa_table.proofs.Groups.{sixteen, window}
use Rattle.aa_table.proofs.Walking.{fresh}
use Rattle.aa_table.proofs.walk.taken_in.Goals as goal
use mir.Syntax.{w8}

pub returns : goal.returns
returns c = λ from l.
    let ts = c.args.tags.now in
    bitmask_splat w8 (λ a b. not (eqb a b)) (window ts c.args.base) 16 0 (sixteen ts c.args.base 0 c.requires) (omega arith) ∙ fresh ts c.args.base from l c.requires
