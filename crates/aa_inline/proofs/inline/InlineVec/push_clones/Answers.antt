use Rattle.std.proofs.Common.{rules, ◌≡◌, ◌+◌, ◌++◌, ◌∷◌, [], length, take, sym, subst, ap, ◌∙◌, arith, append_assoc}
use Rattle.std.proofs.lemmas.Grind.{take_at_read}
use Rattle.std.proofs.lemmas.List.{append-nil}
use Rattle.std.proofs.lemmas.List.Elements.{AllZip-push}
use Rattle.std.specs.List.{AllZip}
use Rattle.aa_inline.specs.Inlined.{with_written}
use Rattle.aa_inline.proofs.Extending.{room-with_written, with_written-none, with_written-with_written}
use Rattle.aa_inline.proofs.inline.InlineVec.push_clones.Goals as goal

pub each-init : goal.each-init
each-init g c = let r = c.args.self.now in ([], tt, sym (with_written-none r) ∙ ap (λ xs. with_written r xs 0) (sym (append-nil r.items)), omega (arith, c.requires))

pub each-preserved : goal.each-preserved
each-preserved g c =
    let xs = c.args.source.now in let i = c.each.i in let x = c.index-source-i.result in let y = c.in-Ok.copy in let inv = c.each.invariant in let r = c.args.self.now in
    let next : take (i + 1) xs ≡ take i xs ++ x ∷ [] = (take_at_read xs i x c.each-test.true).1 ∙ ap (λ z. take i xs ++ z ∷ []) (sym c.index-source-i.is) in
    let each : AllZip g.T.Clone.is_clone (take i xs ++ x ∷ []) (inv.0 ++ y ∷ []) = AllZip-push g.T.Clone.is_clone (take i xs) inv.0 x y inv.1 c.in-Ok.ensures.cases in (
      inv.0 ++ y ∷ [],
      subst (λ l. AllZip g.T.Clone.is_clone l (inv.0 ++ y ∷ [])) (sym next) each,
      c.put_last.ensures ∙ rw inv.2 (with_written-with_written r (r.items ++ inv.0) ((r.items ++ inv.0) ++ y ∷ []) i 1 ∙ ap (λ zs. with_written r zs (i + 1)) (append_assoc r.items inv.0 (y ∷ []))),
      rw c.put_last.ensures (room-with_written g.row.N c.each.self y (length xs) i c.each-test.true inv.3),
    )

pub put_last-requires : goal.put_last-requires
put_last-requires g c = (search rules, search rules)
