use Rattle.std.proofs.Common.{subst, ◌++◌}
use Rattle.aa_table.specs.SetOperators.{part_of, MakesSet}
use Rattle.aa_table.specs.declared.set.operators.Part.TheVariants.{Own}
use Rattle.aa_table.proofs.Combining.{all-of}
use Rattle.aa_table.proofs.set.operators.RefSetBitOr.bitor.Goals as goal

pub returns : goal.returns
returns g c =
    let xs = c.args.self.now.elements in let ys = c.args.other.now.elements in
    subst (λ zs. MakesSet g.T.PartialEq.eq g.T.Clone.is_clone g.S.Default.is_default (zs ++ part_of g.T.PartialEq.eq Own ys xs) c.of_parts.result) (all-of xs) c.of_parts.ensures
