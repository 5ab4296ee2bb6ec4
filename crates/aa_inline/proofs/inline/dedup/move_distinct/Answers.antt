use Rattle.std.proofs.Common.{rules, ◌≡◌, ◌<◌, true, false, length, arith}
use Rattle.aa_inline.proofs.Deduplicating.{swap-is, repeat-passed, distinct-kept}
use Rattle.aa_inline.proofs.inline.dedup.move_distinct.Goals as goal
use Rattle.aa_inline.proofs.inline.dedup.move_distinct.Goals.{then-ne, else-ne}

pub each-preserved : goal.each-preserved
each-preserved g c =
    let eq = g.T.PartialEq.eq in let xs = c.args.items.now in let ys = c.each.items in let i = c.each.i in let k = c.each.kept in let m = c.each.invariant in
    let x = c.index-items-i.result in let l = c.index-items-kept.result in
    let few : i < length xs = omega (arith, c.each-test.true) in
    elim c.if-ne.branch [
      | then-ne w ↦
          let apart : eq x l ≡ false = search rules in
          rw (w.items-is, w.kept-is, w.swap.ensures.after, swap-is ys k i x x (omega (arith, few, m.3, m.4)) (omega (arith, few, m.4)) c.index-items-i.is)
          (distinct-kept eq xs ys i k m few x l x c.index-items-i.is c.index-items-kept.is apart)
      | else-ne w ↦
          let same : eq x l ≡ true = search rules in
          rw (w.items-is, w.kept-is) (repeat-passed eq xs ys i k m few x l x c.index-items-i.is c.index-items-kept.is same)
    ]
