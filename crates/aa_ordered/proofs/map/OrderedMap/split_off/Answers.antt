use Rattle.std.proofs.Common.{arith, ap, length, sym, true≢false, ◌∙◌}
use Rattle.std.proofs.lemmas.List.{length-drop}
use Rattle.aa_ordered.proofs.map.OrderedMap.split_off.Goals as goal

pub returns-in_err-rest-clause-none : goal.returns-in_err-rest-clause-none
returns-in_err-rest-clause-none g c = λ none.
    let e = ap length (sym c.count_below-at.ensures.after ∙ none) in
    absurd (true≢false (sym (c.in_err-rest.ensures.none (omega (arith, e, length-drop c.count_below-at.result c.args.self.now.entries, c.len.ensures.len)))))
