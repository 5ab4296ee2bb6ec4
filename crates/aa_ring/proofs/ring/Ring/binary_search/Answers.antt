use Rattle.std.proofs.Common.{◌≡◌, ◌+◌, Err, length, refl, subst}
use Rattle.std.specs.List.{HoldsAt}
use Rattle.std.specs.List.Sorted.{IsBinarySearchResult}
use Rattle.std.specs.declared.cmp.Ordering.{Ordering}
use Rattle.std.specs.declared.cmp.Ordering.TheVariants.{Equal}
use Rattle.aa_ring.proofs.Searching.{in-first, found-second, none-second}
use Rattle.aa_ring.proofs.ring.Ring.binary_search.Goals as goal

pub returns-then-begins_above-clause-cases : goal.returns-then-begins_above-clause-cases
returns-then-begins_above-clause-cases g c =
    let ord : g.row.T.Denot → Ordering = λ y. g.T.Ord.cmp y c.args.x.now in let found = c.binary_search.ensures in
    subst (λ l. IsBinarySearchResult ord l c.binary_search.result) c.as_slices.ensures
    (in-first ord c.as_slices.result.0.now c.as_slices.result.1.now (c.if-begins_above.ensures.good refl) c.binary_search.result found.bound found.position)

pub returns-in-Ok-clause-found : goal.returns-in-Ok-clause-found
returns-in-Ok-clause-found g c =
    let ord : g.row.T.Denot → Ordering = λ y. g.T.Ord.cmp y c.args.x.now in let xs = c.as_slices.result.0.now in
    subst (λ l. HoldsAt (λ y. ord y ≡ Equal) l (length xs + c.in-Ok.index)) c.as_slices.ensures
    (found-second ord xs c.as_slices.result.1.now (c.if-begins_above.ensures.some refl) (c.if-begins_above.ensures.found refl) c.in-Ok.index c.in-Ok.ensures.ok)

pub returns-in-Ok-clause-cases : goal.returns-in-Ok-clause-cases
returns-in-Ok-clause-cases g c = returns-in-Ok-clause-found g c

pub returns-in-Err-clause-cases : goal.returns-in-Err-clause-cases
returns-in-Err-clause-cases g c =
    let ord : g.row.T.Denot → Ordering = λ y. g.T.Ord.cmp y c.args.x.now in let xs = c.as_slices.result.0.now in
    subst (λ l. IsBinarySearchResult ord l (Err (length xs + c.in-Err.index))) c.as_slices.ensures
    (none-second ord xs c.as_slices.result.1.now (c.if-begins_above.ensures.some refl) (c.if-begins_above.ensures.found refl) c.in-Err.index c.in-Err.ensures.bound c.in-Err.ensures.position)
