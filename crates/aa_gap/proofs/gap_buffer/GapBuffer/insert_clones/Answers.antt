use Rattle.aa_gap.proofs.{append_assoc, ap, arith, length-append, [], length, ◌+◌, ◌++◌, ◌∙◌, ◌∷◌, ◌≡◌}
use Rattle.std.proofs.Common.{◌<◌}
use Rattle.std.proofs.lemmas.List.Elements.{all_zip_more}
use Rattle.aa_gap.proofs.gap_buffer.GapBuffer.insert_clones.Goals as goal

pub each-preserved : goal.each-preserved
each-preserved g c =
    let xs = c.args.source.now in let i = c.each.i in let x = c.index-source-i.result in
    let y = c.in-Ok.copy in let inv = c.each.invariant in
    let few : i < length xs = omega (arith, c.each-test.true) in
    let old = c.args.self.now in
    let wrote : old.written + i + 1 ≡ old.written + (i + 1) = omega arith in
    let ran : old.runs + i + 1 ≡ old.runs + (i + 1) = omega arith in (
      inv.0 ++ y ∷ [],
      all_zip_more g.T.Clone.is_clone xs inv.0 i x y few c.index-source-i.is inv.1
          c.in-Ok.ensures.cases,
      c.put.ensures ∙ rw (inv.2, append_assoc old.before inv.0 (y ∷ []), wrote, ran),
      omega (
        arith,
        inv.3,
        few,
        ap (λ b. b.capacity) c.put.ensures,
        ap (λ b. length b.before) c.put.ensures,
        ap (λ b. length b.after) c.put.ensures,
        length-append c.each.self.before (y ∷ []),
      ),
    )
