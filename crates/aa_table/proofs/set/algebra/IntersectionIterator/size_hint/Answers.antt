use Rattle.std.proofs.Common.{arith, length, subst, ◌≤◌}
use Rattle.aa_table.proofs.Elements.{fewer}
use Rattle.aa_table.proofs.set.algebra.IntersectionIterator.size_hint.Goals as goal

pub returns : goal.returns
returns g c =
    let few = subst (λ l. length l ≤ length c.self.inside.rest) c.self.view_is (fewer _ c.self.inside.rest) in
    record { lower = λ _. omega arith; upper = (tt, omega (arith, few, c.len.ensures.value)) }
