use Rattle.std.proofs.Common.{◌≡◌, ◌+◌, ◌++◌, ◌<◌, ◌∷◌, [], length, take, sym, subst, ap, ◌∙◌, arith, append_assoc, length-append}
use Rattle.std.proofs.lemmas.Grind.{take_at_read}
use Rattle.std.proofs.lemmas.List.{append-nil}
use Rattle.std.proofs.lemmas.List.Elements.{AllZip-push}
use Rattle.std.specs.List.{AllZip}
use Rattle.aa_ring.proofs.ring.Ring.push_clones.Goals as goal

pub each-init : goal.each-init
each-init g c =
    let r = c.args.self.now in let none : r.written ≡ r.written + 0 = omega arith in
    ([], tt, (λ t. record { items = sym (append-nil r.items) t; capacity = r.capacity; growth = r.growth; grown = r.grown; written = none t; alloc = r.alloc }), omega (arith, c.requires))

pub each-preserved : goal.each-preserved
each-preserved g c =
    let xs = c.args.source.now.items in let i = c.each.i in let x = c.index.result.now in let y = c.in-Ok.copy in let inv = c.each.invariant in
    let few : i < length xs = omega (arith, c.each-test.true, c.len-i-end.ensures.count) in
    let next : take (i + 1) xs ≡ take i xs ++ x ∷ [] = (take_at_read xs i x few).1 ∙ ap (λ z. take i xs ++ z ∷ []) (sym c.index.ensures) in
    let each : AllZip g.T.Clone.is_clone (take i xs ++ x ∷ []) (inv.0 ++ y ∷ []) = AllZip-push g.T.Clone.is_clone (take i xs) inv.0 x y inv.1 c.in-Ok.ensures.cases in
    let r = c.args.self.now in let more : r.written + i + 1 ≡ r.written + (i + 1) = omega arith in (
      inv.0 ++ y ∷ [],
      subst (λ l. AllZip g.T.Clone.is_clone l (inv.0 ++ y ∷ [])) (sym next) each,
      c.put_back.ensures ∙ rw inv.2 (λ t. record { items = append_assoc r.items inv.0 (y ∷ []) t; capacity = r.capacity; growth = r.growth; grown = r.grown; written = more t; alloc = r.alloc }),
      omega (arith, inv.3, few, ap (λ s. s.capacity) c.put_back.ensures, ap (λ s. length s.items) c.put_back.ensures, length-append c.each.self.items (y ∷ [])),
    )
