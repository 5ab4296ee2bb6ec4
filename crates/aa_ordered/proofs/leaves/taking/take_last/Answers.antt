use Rattle.std.proofs.Common.{◌≡◌, ◌+◌, ◌-◌, ◌<◌, ◌++◌, ◌∷◌, [], None, Some, arith, get_or, slice_set, subst, sym, ◌∙◌}
use Rattle.aa_ordered.specs.Taking.{rest_of, AreParts}
use Rattle.aa_ordered.proofs.Taking.{last-parts, last-rest, part, turned}
use Rattle.aa_ordered.proofs.leaves.taking.take_last.Goals as goal

pub returns-clause-parts : goal.returns-clause-parts
returns-clause-parts g c =
    let cs = c.args.block.now.places in let p = c.open_last-part.result in let hs = c.open_last-part.new.heads.items in let q = c.open_last-part.new.front in let some : 0 < p.len = omega (arith, c.if-part-eq0.false) in let x = c.take.result in
    let is = turned cs q p hs c.open_last-part.ensures.parts in let at : p.at + p.len - 1 ≡ p.at + (p.len - 1) = omega (arith, some) in
    rw c.take.ensures.after (subst (λ i. AreParts (slice_set cs i None) q hs (part p.at (p.len - 1))) at (turned (slice_set cs (p.at + p.len - 1) None) (part p.at (p.len - 1)) q hs (last-parts cs p q hs is some x)))

pub returns-clause-some : goal.returns-clause-some
returns-clause-some g c =
    let cs = c.args.block.now.places in let p = c.open_last-part.result in let hs = c.open_last-part.new.heads.items in let q = c.open_last-part.new.front in let some : 0 < p.len = omega (arith, c.if-part-eq0.false) in let x = c.take.result in
    let is = turned cs q p hs c.open_last-part.ensures.parts in let at : p.at + p.len - 1 ≡ p.at + (p.len - 1) = omega (arith, some) in
    let read : get_or cs (p.at + p.len - 1) None ≡ Some x = subst (λ i. get_or cs i None ≡ Some x) (sym at) c.take.ensures.value in
    rw c.take.ensures.after (subst (λ i. rest_of cs c.args.front.now c.args.heads.now.items c.args.back.now ≡ rest_of (slice_set cs i None) q hs (part p.at (p.len - 1)) ++ x ∷ []) at (sym c.open_last-part.ensures.same ∙ last-rest cs p q hs is some x read))
