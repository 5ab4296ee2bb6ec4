use Rattle.std.proofs.Common.{◌+◌, ◌<◌, ◌∷◌, length, take, drop, refl, sym, ap, ◌∙◌, arith}
use Rattle.std.proofs.lemmas.List.{take-set-le}
use Rattle.aa_inline.specs.Inlined.{with_items}
use Rattle.aa_inline.proofs.Fews.{left-next}
use Rattle.aa_inline.proofs.drain.DrainIterator.next.Goals as goal

pub returns-clause-steps : goal.returns-clause-steps
returns-clause-steps g c =
    let d = c.args.self.now in let xs = d.vec.now.items in let i = d.front in let b = c.made_with-blank.result in let put = c.replace.ensures in
    let few : i < length xs = grind (arith, c.if-self-eq0.false, c.requires.1) in (
      record {
        lender = refl;
        left = ap (λ s. with_items s (take d.kept s.items)) put.replaced ∙ ap (λ ys. with_items d.vec.now ys) (take-set-le d.kept xs i b c.requires.0);
      },
      left-next xs i c.replace.result b few put.old ∙ ap (λ s. c.replace.result ∷ drop (i + 1) s.items) (sym put.replaced),
    )
