use Rattle.std.proofs.Common.{◌++◌, [], ap, append-nil, drop, sym, take, ◌∙◌}
use Rattle.aa_ordered.specs.Ranges.{is_before, items_of}
use Rattle.aa_ordered.proofs.Cutting.{cut-before, front-alone, front-prefix, inner-prefix, kept-count, kept-is, none-kept}
use Rattle.aa_ordered.proofs.range.up_to.Goals as goal

pub count_before-at-requires : goal.count_before-at-requires
count_before-at-requires g c =
    let ls = c.args.lists in let l = c.in-Some.list.now in let init = c.take_last.new.self in let n = c.lists_before-count.result in
    let e = c.lists_before-count.ensures in let cut = sym c.truncate.ensures ∙ c.in-Some.ensures in
    inner-prefix (is_before g.K.Ord.cmp c.args.key.now c.args.after) c.args.front.now ls init l (drop n ls) n
    (kept-is ls n e.within l init cut) (kept-count ls n e.within l init cut) e.before e.after c.requires.sorted

pub returns-in-Some : goal.returns-in-Some
returns-in-Some g c =
    let ls = c.args.lists in let l = c.in-Some.list.now in let init = c.take_last.new.self in let n = c.lists_before-count.result in
    let e = c.lists_before-count.ensures in let cut = sym c.truncate.ensures ∙ c.in-Some.ensures in
    c.of.ensures ∙ cut-before (is_before g.K.Ord.cmp c.args.key.now c.args.after) c.args.front.now ls init l (drop n ls) n
    (kept-is ls n e.within l init cut) (kept-count ls n e.within l init cut) e.before e.after c.requires.sorted
    c.count_before-at.result c.count_before-at.ensures.before c.count_before-at.ensures.after

pub count_before-at-requires-in-None : goal.count_before-at-requires-in-None
count_before-at-requires-in-None g c =
    front-prefix (is_before g.K.Ord.cmp c.args.key.now c.args.after) c.args.front.now c.args.lists c.requires.sorted

pub returns-in-None : goal.returns-in-None
returns-in-None g c =
    let ls = c.args.lists in let n = c.lists_before-count.result in
    let none = none-kept ls n c.lists_before-count.ensures.within (sym c.truncate.ensures ∙ c.in-None.ensures.0) in
    let at = c.count_before-at-in-None.result in let e = c.count_before-at-in-None.ensures in
    c.of-in-None.ensures ∙ ap (λ ms. take at c.args.front.now ++ items_of ms ++ []) c.in-None.ensures.1 ∙ ap (λ es. es ++ []) (append-nil (take at c.args.front.now)) ∙ append-nil (take at c.args.front.now)
    ∙ front-alone (is_before g.K.Ord.cmp c.args.key.now c.args.after) c.args.front.now ls (rw none at c.lists_before-count.ensures.after) c.requires.sorted at e.before e.after
