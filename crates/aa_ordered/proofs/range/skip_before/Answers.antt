use Rattle.std.proofs.Common.{◌≡◌, ◌-◌, ◌<◌, [], ◌++◌, List, ap, arith, length, sym, ◌∙◌}
use Rattle.std.proofs.lemmas.List.{take_rest}
use Rattle.std.proofs.lemmas.List.Elements.{All-drop, All-rest}
use Rattle.aa_ordered.specs.Ranges.{is_before, items_of}
use Rattle.aa_ordered.proofs.Cutting.{cut-after, inner-prefix, lists-failing, skipped-count, skipped-is}
use Rattle.aa_ordered.proofs.Ranging.{keep-all}
use Rattle.aa_ordered.proofs.range.skip_before.Goals as goal

pub returns-then-count-eq0-clause-skipped : goal.returns-then-count-eq0-clause-skipped
returns-then-count-eq0-clause-skipped g c =
    let t = is_before g.K.Ord.cmp c.args.key.now c.args.after in let ls = c.args.lists.now in
    let none : c.lists_before-count.result ≡ 0 = c.if-count-eq0.true in
    sym (keep-all t (items_of ls) (lists-failing t ls (rw none at c.lists_before-count.ensures.after) c.requires.sorted))

pub count_before-at-requires : goal.count_before-at-requires
count_before-at-requires g c =
    let some : 0 < c.lists_before-count.result = omega (arith, c.if-count-eq0.false) in
    let ls = c.args.lists.now in let l = c.in-Some.list.now in let rest = c.take_first.new.self in let n = c.lists_before-count.result in
    let e = c.lists_before-count.ensures in let cut = sym c.skip.ensures ∙ c.in-Some.ensures in
    inner-prefix (is_before g.K.Ord.cmp c.args.key.now c.args.after) [] ls _ l rest n
    (skipped-is ls n e.within l rest cut) (skipped-count ls n e.within l some) e.before e.after c.requires.sorted

pub returns-clause-skipped : goal.returns-clause-skipped
returns-clause-skipped g c =
    let some : 0 < c.lists_before-count.result = omega (arith, c.if-count-eq0.false) in
    let ls = c.args.lists.now in let l = c.in-Some.list.now in let rest = c.take_first.new.self in let n = c.lists_before-count.result in
    let e = c.lists_before-count.ensures in let cut = sym c.skip.ensures ∙ c.in-Some.ensures in
    let at = c.count_before-at.result in
    ap (λ (es : List (g.row.K.Denot × g.row.V.Denot)). es ++ items_of rest) (take_rest l at)
    ∙ cut-after (is_before g.K.Ord.cmp c.args.key.now c.args.after) [] ls _ l rest n
    (skipped-is ls n e.within l rest cut) (skipped-count ls n e.within l some) e.before e.after c.requires.sorted
    at c.count_before-at.ensures.before c.count_before-at.ensures.after

pub returns-clause-some : goal.returns-clause-some
returns-clause-some g c =
    All-rest (λ (l : List (g.row.K.Denot × g.row.V.Denot)). 0 < length l) c.in-Some.list.now c.take_first.new.self c.skip.new.self c.in-Some.ensures
    (rw c.skip.ensures (All-drop (λ (l : List (g.row.K.Denot × g.row.V.Denot)). 0 < length l) (c.lists_before-count.result - 1) c.args.lists.now c.requires.some))
