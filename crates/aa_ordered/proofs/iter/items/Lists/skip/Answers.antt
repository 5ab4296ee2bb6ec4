use Rattle.std.proofs.Common.{ap, arith, drop, length, sym, ◌∙◌}
use Rattle.aa_ordered.proofs.Slicing.{slice-drop, slice-length}
use Rattle.aa_ordered.proofs.iter.items.Lists.skip.Goals as goal

pub returns : goal.returns
returns g c =
    let i = c.self.inside in let ls = i.leaves.now.lists in let inv = c.self.invariant in
    let count = ap length (sym c.self.view_is) ∙ slice-length ls i.from i.end inv.0 inv.1 in
    slice-drop ls i.from i.end c.args.n (omega (arith, count, c.requires, inv.0)) ∙ ap (drop c.args.n) c.self.view_is
