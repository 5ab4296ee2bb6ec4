use Rattle.aa_boxed.proofs.{AllZip, AllZip-push, [], ap, subst, sym, take, take_at_read, ◌++◌, ◌+◌, ◌∙◌, ◌∷◌, ◌≡◌}
use Rattle.aa_boxed.proofs.boxed.builder.Builder.put_clones.Goals as goal

pub each-preserved : goal.each-preserved
each-preserved g c =
    let xs = c.args.source.now in let i = c.each.i in let x = c.index-source-i.result in
    let y = c.in-Ok.copy in let inv = c.each.invariant in
    let next : take (i + 1) xs ≡ take i xs ++ x ∷ [] = (take_at_read xs i x c.each-test.true).1
    ∙ ap (λ z. take i xs ++ z ∷ []) (sym c.index-source-i.is) in
    let each : AllZip g.T.Clone.is_clone (take i xs ++ x ∷ []) (c.each.self.items ++ y ∷ []) =
    AllZip-push g.T.Clone.is_clone (take i xs) c.each.self.items x y inv.0 c.in-Ok.ensures.cases
    in
    rw c.put.ensures (
      subst (λ l. AllZip g.T.Clone.is_clone l (c.each.self.items ++ y ∷ [])) (sym next) each,
      inv.1,
      inv.2,
      inv.3,
      inv.4,
    )
