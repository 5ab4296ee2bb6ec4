use Rattle.std.proofs.Common.{◌+◌, Ok, Err, length, sym, ap, ◌∙◌, subst, arith}
use Rattle.std.specs.List.Sorted.{IsBinarySearchResult}
use Rattle.std.specs.declared.cmp.Ordering.{Ordering}
use Rattle.aa_ring.proofs.Searching.{computes-next, key-above, key-not_above, in-first, found-second, none-second}
use Rattle.aa_ring.proofs.ring.Ring.binary_search_by_key.Goals as goal

pub returns-in_default-clause-cases : goal.returns-in_default-clause-cases
returns-in_default-clause-cases g c =
    λ key h. let found = c.binary_search_by_key.ensures in
    let ord : g.row.T.Denot → Ordering = λ y. g.B.Ord.cmp (key y) c.args.b.now in
    subst (λ l. IsBinarySearchResult ord l c.binary_search_by_key.result) c.as_slices.ensures
    (in-first ord c.as_slices.result.0.now c.as_slices.result.1.now
    (λ d some. absurd (omega (arith, some, c.in_default.ensures.none)))
    c.binary_search_by_key.result found.bound (found.position key h))

pub returns-then-is_gt-clause-cases : goal.returns-then-is_gt-clause-cases
returns-then-is_gt-clause-cases g c =
    λ key h. let found = c.binary_search_by_key-then-is_gt.ensures in
    let ord : g.row.T.Denot → Ordering = λ y. g.B.Ord.cmp (key y) c.args.b.now in
    let x = c.in-Some.item.now in let k = c.call_on.result in let rest = c.call_on.new.f in
    let n = computes-next g.F.FnMut key c.args.f x k rest c.call_on.ensures.called h in
    let gt = key-above g.F.FnMut key c.args.f x k rest c.call_on.ensures.called h g.B.Ord.cmp
    c.args.b.now c.cmp.result c.cmp.ensures c.if-is_gt.ensures in
    subst (λ l. IsBinarySearchResult ord l c.binary_search_by_key-then-is_gt.result)
    c.as_slices.ensures
    (in-first ord c.as_slices.result.0.now c.as_slices.result.1.now
    (λ d some. ap ord (c.in-Some.ensures.first d) ∙ gt)
    c.binary_search_by_key-then-is_gt.result found.bound (found.position key n))

pub returns-in-Ok-clause-cases : goal.returns-in-Ok-clause-cases
returns-in-Ok-clause-cases g c =
    λ key h. let xs = c.as_slices.result.0.now in
    let ord : g.row.T.Denot → Ordering = λ y. g.B.Ord.cmp (key y) c.args.b.now in
    let x = c.in-Some.item.now in let k = c.call_on.result in let rest = c.call_on.new.f in
    let n = computes-next g.F.FnMut key c.args.f x k rest c.call_on.ensures.called h in
    let other = key-not_above g.F.FnMut key c.args.f x k rest c.call_on.ensures.called h g.B.Ord.cmp
    c.args.b.now c.cmp.result c.cmp.ensures c.if-is_gt.ensures in
    subst (λ l. IsBinarySearchResult ord l (Ok (length xs + c.in-Ok.found))) c.as_slices.ensures
    (found-second ord xs c.as_slices.result.1.now c.in-Some.ensures.some
    (λ d e. other (sym (ap ord (c.in-Some.ensures.first d)) ∙ e)) c.in-Ok.found
    (c.in-Ok.ensures.position key n))

pub returns-in-Err-clause-cases : goal.returns-in-Err-clause-cases
returns-in-Err-clause-cases g c =
    λ key h. let xs = c.as_slices.result.0.now in
    let ord : g.row.T.Denot → Ordering = λ y. g.B.Ord.cmp (key y) c.args.b.now in
    let x = c.in-Some.item.now in let k = c.call_on.result in let rest = c.call_on.new.f in
    let n = computes-next g.F.FnMut key c.args.f x k rest c.call_on.ensures.called h in
    let other = key-not_above g.F.FnMut key c.args.f x k rest c.call_on.ensures.called h g.B.Ord.cmp
    c.args.b.now c.cmp.result c.cmp.ensures c.if-is_gt.ensures in
    subst (λ l. IsBinarySearchResult ord l (Err (length xs + c.in-Err.place))) c.as_slices.ensures
    (none-second ord xs c.as_slices.result.1.now c.in-Some.ensures.some
    (λ d e. other (sym (ap ord (c.in-Some.ensures.first d)) ∙ e)) c.in-Err.place
    c.in-Err.ensures.bound (c.in-Err.ensures.position key n))
