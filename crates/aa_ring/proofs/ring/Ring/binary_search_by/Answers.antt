use Rattle.std.proofs.Common.{◌+◌, Ok, Err, length, sym, ap, ◌∙◌, subst}
use Rattle.std.specs.List.Sorted.{IsBinarySearchResult}
use Rattle.std.specs.Ordering.{is_gt}
use Rattle.aa_ring.proofs.Searching.{computed, computes-next, gt_is, not_gt, in-first, found-second, none-second}
use Rattle.aa_ring.proofs.ring.Ring.binary_search_by.Goals as goal

pub returns-then-is_gt-clause-cases : goal.returns-then-is_gt-clause-cases
returns-then-is_gt-clause-cases g c =
    λ ord h. let found = c.binary_search_by-then-is_gt.ensures in
    let e = computed g.F.FnMut ord c.args.f c.in-Some.item.now c.call_on.result c.call_on.new.f c.call_on.ensures.called h in
    let n = computes-next g.F.FnMut ord c.args.f c.in-Some.item.now c.call_on.result c.call_on.new.f c.call_on.ensures.called h in
    subst (λ l. IsBinarySearchResult ord l c.binary_search_by-then-is_gt.result) c.as_slices.ensures
    (in-first ord c.as_slices.result.0.now c.as_slices.result.1.now (λ d some. gt_is _ (ap (λ y. is_gt (ord y)) (c.in-Some.ensures.first d) ∙ ap is_gt (sym e) ∙ sym c.if-is_gt.ensures)) c.binary_search_by-then-is_gt.result found.bound (found.position ord n))

pub returns-in-Ok-clause-cases : goal.returns-in-Ok-clause-cases
returns-in-Ok-clause-cases g c =
    λ ord h. let xs = c.as_slices.result.0.now in
    let e = computed g.F.FnMut ord c.args.f c.in-Some.item.now c.call_on.result c.call_on.new.f c.call_on.ensures.called h in
    let n = computes-next g.F.FnMut ord c.args.f c.in-Some.item.now c.call_on.result c.call_on.new.f c.call_on.ensures.called h in
    subst (λ l. IsBinarySearchResult ord l (Ok (length xs + c.in-Ok.at))) c.as_slices.ensures
    (found-second ord xs c.as_slices.result.1.now c.in-Some.ensures.some (λ d. not_gt _ (ap (λ y. is_gt (ord y)) (c.in-Some.ensures.first d) ∙ ap is_gt (sym e) ∙ sym c.if-is_gt.ensures)) c.in-Ok.at (c.in-Ok.ensures.position ord n))

pub returns-in-Err-clause-cases : goal.returns-in-Err-clause-cases
returns-in-Err-clause-cases g c =
    λ ord h. let xs = c.as_slices.result.0.now in
    let e = computed g.F.FnMut ord c.args.f c.in-Some.item.now c.call_on.result c.call_on.new.f c.call_on.ensures.called h in
    let n = computes-next g.F.FnMut ord c.args.f c.in-Some.item.now c.call_on.result c.call_on.new.f c.call_on.ensures.called h in
    subst (λ l. IsBinarySearchResult ord l (Err (length xs + c.in-Err.at))) c.as_slices.ensures
    (none-second ord xs c.as_slices.result.1.now c.in-Some.ensures.some (λ d. not_gt _ (ap (λ y. is_gt (ord y)) (c.in-Some.ensures.first d) ∙ ap is_gt (sym e) ∙ sym c.if-is_gt.ensures)) c.in-Err.at c.in-Err.ensures.bound (c.in-Err.ensures.position ord n))
