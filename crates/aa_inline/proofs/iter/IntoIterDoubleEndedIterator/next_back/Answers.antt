use Rattle.std.proofs.Common.{◌<◌, drop, length, arith}
use Rattle.aa_inline.proofs.Fews.{left-back, fewer-back}
use Rattle.aa_inline.proofs.iter.IntoIterDoubleEndedIterator.next_back.Goals as goal

pub returns-clause-steps : goal.returns-clause-steps
returns-clause-steps g c =
    let xs = c.self.inside.rest.items in let i = c.self.inside.front in
    let few : i < length xs = grind (arith, c.if-self-len.false, c.len.ensures, c.self.invariant) in
    left-back c.args.self.now xs c.pop.new.self.items i c.pop.result c.self.view_is few c.pop.ensures.taken

pub returns-clause-goes : goal.returns-clause-goes
returns-clause-goes g c =
    let xs = c.self.inside.rest.items in let i = c.self.inside.front in
    let few : i < length xs = grind (arith, c.if-self-len.false, c.len.ensures, c.self.invariant) in
    fewer-back _ (λ s. tt) c.args.self.now (drop i c.pop.new.self.items) c.pop.result (left-back c.args.self.now xs c.pop.new.self.items i c.pop.result c.self.view_is few c.pop.ensures.taken)
