use Rattle.std.proofs.Common.{ap, sym, ◌∷◌}
use Rattle.aa_table.specs.SetContents.{SetView}
use Rattle.aa_table.proofs.Elements.{permuted}
use Rattle.aa_table.proofs.set.Set.take_next.Goals as goal

pub returns-clause-taken : goal.returns-clause-taken
returns-clause-taken g c =
    rw (ap (λ (s : SetView _ _). s.elements) (sym c.self.view_is)) (permuted c.self.inside.table.entries (_ ∷ c.take_next.new.self.entries) (rw c.in-Some.is at c.take_next.ensures.taken))
