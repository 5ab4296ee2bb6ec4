use Rattle.std.proofs.Common.{List, ap, arith, length, sym, ◌∙◌}
use Rattle.std.specs.Prelude.{filter}
use Rattle.aa_table.specs.SetOperators.{is_in}
use Rattle.aa_table.proofs.Combining.{in-part, not-in-part}
use Rattle.aa_table.proofs.Elements.{fewer}
use Rattle.aa_table.proofs.set.Set.count_in.Goals as goal

pub overflow_sub-count : goal.overflow_sub-count
overflow_sub-count g c =
    let test = is_in g.T.PartialEq.eq c.args.part c.args.other.now.elements in
    let rest = c.next.new.self in
    let passed = ap (λ (xs : List g.row.T.Denot). length (filter test xs)) c.in-Some.ensures.steps ∙ ap length (not-in-part test c.in-Some.value.now rest (sym c.has_in.ensures ∙ c.if-not-has_in.true)) in
    omega (arith, c.each.invariant, passed, ap length c.in-Some.ensures.steps, fewer test rest)

pub each-preserved-then-not-has_in : goal.each-preserved-then-not-has_in
each-preserved-then-not-has_in g c =
    let test = is_in g.T.PartialEq.eq c.args.part c.args.other.now.elements in
    let rest = c.next.new.self in
    let passed = ap (λ (xs : List g.row.T.Denot). length (filter test xs)) c.in-Some.ensures.steps ∙ ap length (not-in-part test c.in-Some.value.now rest (sym c.has_in.ensures ∙ c.if-not-has_in.true)) in
    omega (arith, c.each.invariant, passed, ap length c.in-Some.ensures.steps, fewer test rest)

pub each-preserved : goal.each-preserved
each-preserved g c =
    let test = is_in g.T.PartialEq.eq c.args.part c.args.other.now.elements in
    let taken = ap (λ (xs : List g.row.T.Denot). length (filter test xs)) c.in-Some.ensures.steps ∙ ap length (in-part test c.in-Some.value.now c.next.new.self (sym c.has_in.ensures ∙ c.if-not-has_in.false)) in
    omega (arith, c.each.invariant, taken, ap length c.in-Some.ensures.steps)
