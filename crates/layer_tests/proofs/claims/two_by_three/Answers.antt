use Rattle.std.proofs.Common.{rules, None, Some, refl, arith}
use Rattle.layer_tests.proofs.Claimed.{five_there, told_some, told_none}
use Rattle.layer_tests.proofs.claims.two_by_three.Goals as goal

pub returns : goal.returns
returns g c =
    let d = c.splice-range.ensures.drained in let s = c.in_ok-finish_hinted.ensures.replaced.spliced in let same = c.splice-range.ensures.items in
    record {
      items = let e = five_there d s same c.requires.old c.requires.new in search rules;
      exact = λ hint. let e = told_some d s same c.requires.old c.requires.new None 1 8 hint refl (omega arith) refl (omega arith) in search rules;
      hundred = λ hint. let e = told_some d s same c.requires.old c.requires.new (Some 100) 100 104 hint refl (omega arith) refl (omega arith) in search rules;
      none = λ hint. let e = told_none d s same c.requires.old c.requires.new hint in search rules;
    }
