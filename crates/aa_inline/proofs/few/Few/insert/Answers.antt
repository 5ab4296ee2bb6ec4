use Rattle.std.proofs.Common.{add-one, length-set, ap, ◌∙◌, length}
use Rattle.aa_inline.proofs.Fews.{carry}
use Rattle.aa_inline.proofs.few.Few.insert.Goals as goal

pub each-preserved : goal.each-preserved
each-preserved g c =
    let after = c.replace-carried.ensures.replaced in (
      rw (add-one, after) (carry c.each.self c.each.i c.each.carried c.replace-carried.result c.replace-carried.ensures.old ∙ c.each.invariant.0),
      ap length after ∙ length-set c.each.self c.each.i c.each.carried ∙ c.each.invariant.1,
    )
