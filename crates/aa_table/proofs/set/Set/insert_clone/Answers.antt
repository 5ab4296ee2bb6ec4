use Rattle.aa_table.proofs.Combining.{one-cloned}
use Rattle.aa_table.proofs.set.Set.insert_clone.Goals as goal

pub returns : goal.returns
returns g c =
    let e = c.in-Ok-insert.ensures in
    λ _. one-cloned g.T.PartialEq.eq g.T.Clone.is_clone g.met.T.Eq.laws c.args.self.now c.insert.new.self c.args.value.now c.in-Ok.copy c.in-Ok-insert.field-0 c.in-Ok.ensures.cases c.requires e.new e.added e.made e.resized e.kept e.builder
