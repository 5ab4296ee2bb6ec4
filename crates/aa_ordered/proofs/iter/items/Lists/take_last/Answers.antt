use Rattle.std.proofs.Common.{[], ◌-◌, arith, sym, ◌∙◌}
use Rattle.std.proofs.lemmas.List.{get_or_default}
use Rattle.aa_ordered.proofs.Slicing.{slice-last}
use Rattle.aa_ordered.proofs.iter.items.Lists.take_last.Goals as goal

pub returns : goal.returns
returns g c =
    let i = c.self.inside in let ls = i.leaves.now.lists in let x = c.list.result.now in let inv = c.self.invariant in
    let read = c.list.ensures.list ∙ get_or_default ls (i.end - 1) [] x (omega (arith, c.if-self.false, inv.0, inv.1)) in
    sym c.self.view_is ∙ slice-last ls i.from i.end x (omega (arith, c.if-self.false, inv.0)) inv.1 read
