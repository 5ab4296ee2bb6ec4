use Rattle.std.proofs.Common.{rules, ◌+◌, ◌<◌, ◌∷◌, drop, length, sym, ap, ◌∙◌, arith}
use Rattle.aa_inline.proofs.Fews.{fewer-front, left-next}
use Rattle.aa_inline.proofs.iter.IntoIterIterator.next.Goals as goal

pub returns-clause-steps : goal.returns-clause-steps
returns-clause-steps g c =
    let xs = c.self.inside.rest.items in let i = c.self.inside.front in
    let few : i < length xs = grind (arith, c.if-front-len.false, c.len.ensures, c.self.invariant) in
    sym c.self.view_is ∙ left-next xs i c.replace.result c.made_with-blank.result few c.replace.ensures.old ∙ ap (λ s. c.replace.result ∷ drop (i + 1) s.items) (sym c.replace.ensures.replaced)

pub returns-clause-goes : goal.returns-clause-goes
returns-clause-goes g c =
    fewer-front _ (λ s. tt) c.args.self.now (drop (c.self.inside.front + 1) c.replace.new.self.items) c.replace.result (returns-clause-steps g c)

pub replace-requires : goal.replace-requires
replace-requires g c = (search rules, search rules)
