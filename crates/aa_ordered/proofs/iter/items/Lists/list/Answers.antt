use Rattle.std.proofs.Common.{arith, [], sym, ◌+◌, ◌<◌, ◌∙◌}
use Rattle.std.proofs.lemmas.List.{get_or_default}
use Rattle.aa_ordered.proofs.Slicing.{slice-get}
use Rattle.aa_ordered.proofs.iter.items.Lists.list.Goals as goal

pub returns : goal.returns
returns g c =
    let i = c.self.inside in let ls = i.leaves.now.lists in let x = c.list.result.now in
    let within : i.from + c.args.i < i.end = omega (arith, c.if-prove.false) in
    let read = c.list.ensures.list ∙ get_or_default ls (i.from + c.args.i) [] x (omega (arith, within, c.self.invariant.1)) in
    rw (sym c.self.view_is) (read ∙ sym (slice-get ls i.from i.end c.args.i x within))
