use Rattle.std.proofs.Common.{rules, ◌≡◌, suc, ◌-◌, length-set, sym, ap, ◌∙◌, length, arith}
use Rattle.aa_inline.proofs.Fews.{carry_back}
use Rattle.aa_inline.proofs.few.Few.remove.Goals as goal

pub each-preserved : goal.each-preserved
each-preserved g c =
    let k = c.each.i - 1 in let some : suc k ≡ c.each.i = omega (arith, c.each-test.true) in let after = c.replace-carried.ensures.replaced in (
      rw after (sym (carry_back c.each.self k c.each.carried c.replace-carried.result c.replace-carried.ensures.old) ∙ (rw (← some) at c.each.invariant.0)),
      omega (arith, c.each-test.true),
      omega (arith, c.each.invariant.2, ap length after, length-set c.each.self k c.each.carried),
    )

pub replace-carried-requires : goal.replace-carried-requires
replace-carried-requires g c = (search rules, search rules)

pub pop-carried-requires : goal.pop-carried-requires
pop-carried-requires g c = (search rules, search rules)
