use Rattle.std.proofs.Common.{ap, append-nil, subst, ◌++◌, ◌∙◌}
use Rattle.aa_table.specs.SetOperators.{part_of, MakesSet}
use Rattle.aa_table.specs.declared.set.operators.Part.TheVariants.{Common}
use Rattle.aa_table.proofs.Combining.{none-of}
use Rattle.aa_table.proofs.set.operators.RefSetBitAnd.bitand.Goals as goal

pub returns : goal.returns
returns g c =
    let xs = c.args.self.now.elements in let ys = c.args.other.now.elements in
    let part = part_of g.T.PartialEq.eq Common xs ys in
    subst (λ zs. MakesSet g.T.PartialEq.eq g.T.Clone.is_clone g.S.Default.is_default zs c.of_parts.result) (ap (λ zs. part ++ zs) (none-of ys) ∙ append-nil part) c.of_parts.ensures
