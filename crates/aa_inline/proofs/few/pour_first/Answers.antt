use Rattle.std.proofs.Common.{◌≡◌, ◌+◌, ◌<◌, ◌++◌, ◌∷◌, [], length, take, sym, ap, ◌∙◌, arith, append_assoc, length-append, length-set}
use Rattle.std.proofs.lemmas.List.{drop-set-lt}
use Rattle.std.proofs.lemmas.Grind.{drop_more_same}
use Rattle.aa_inline.proofs.Fews.{read_ahead}
use Rattle.aa_inline.proofs.few.pour_first.Goals as goal

pub each-preserved : goal.each-preserved
each-preserved g c =
    let xs = c.args.places.now in let ys = c.each.places in let i = c.each.i in let h = c.each.invariant in let pushed = c.push_within.ensures in
    let x = c.replace.result in let few : i < length ys = omega (arith, c.each-test.true, c.requires.within, h.2) in
    let more : take (i + 1) xs ≡ take i xs ++ x ∷ [] = read_ahead xs ys i x c.index-places-i.result few h.2 h.1 c.replace.ensures.value in (
      pushed.items ∙ ap (λ zs. zs ++ x ∷ []) h.0 ∙ append_assoc c.args.into.now.items (take i xs) (x ∷ []) ∙ ap (λ zs. c.args.into.now.items ++ zs) (sym more),
      drop-set-lt (i + 1) ys i c.replace.new.dest (omega arith) ∙ drop_more_same ys xs i h.1,
      length-set ys i c.replace.new.dest ∙ h.2,
      record { capacity = pushed.block.capacity ∙ h.3.capacity; growth = pushed.block.growth ∙ h.3.growth; grown = pushed.block.grown ∙ h.3.grown; alloc = pushed.block.alloc ∙ h.3.alloc },
      record { written = omega (arith, pushed.written.written, h.4.written); runs = omega (arith, pushed.written.runs, h.4.runs) },
      omega (arith, pushed.block.capacity, ap length pushed.items, length-append c.each.into.items (x ∷ []), h.5, c.each-test.true, length-set ys i c.replace.new.dest),
    )
