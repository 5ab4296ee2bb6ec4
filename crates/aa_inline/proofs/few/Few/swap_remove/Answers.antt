use Rattle.std.proofs.Common.{◌<◌, ◌∷◌, [], length, ap, ◌∙◌, arith, length-append}
use Rattle.aa_inline.proofs.Fews.{swap-removed}
use Rattle.aa_inline.proofs.few.Few.swap_remove.Goals as goal

pub returns-clause-items : goal.returns-clause-items
returns-clause-items g c =
    let ys = c.pop-last.new.self in let x = c.pop-last.result in
    let few : c.args.index < length ys = grind (arith, c.requires, c.if-index-len.false, c.len.ensures.count, ap length c.pop-last.ensures, length-append ys (x ∷ [])) in
    c.replace.ensures.replaced ∙ swap-removed c.args.self.now ys x c.replace.result c.args.index c.pop-last.ensures few
