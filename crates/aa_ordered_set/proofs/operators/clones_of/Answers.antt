use Rattle.std.proofs.Common.{[], ◌∷◌, ◌++◌, ap, arith, length, map, subst, sym, ◌∙◌}
use Rattle.std.proofs.lemmas.Grind.{fold-append}
use Rattle.std.proofs.lemmas.List.{map-append}
use Rattle.std.proofs.lemmas.List.Elements.{AllZip-push}
use Rattle.std.specs.BTreeSet.{insert_key}
use Rattle.std.specs.Iterator.{size}
use Rattle.std.specs.List.{AllZip}
use Rattle.aa_ordered_set.specs.Sets.{SetView}
use Rattle.aa_ordered_set.proofs.Sets.{elements-fit, in-order, pairs-count}
use Rattle.aa_ordered_set.proofs.operators.clones_of.Goals as goal

pub each-init : goal.each-init
each-init g c =
    let made = c.in_ok-made.ensures.made in let it = c.into_iter-value-iterator in
    let none = ap (λ (s : SetView _). s.elements) made in
    let enough = c.requires.enough it.result it.ensures.into_iter_gives in (
      [],
      tt,
      none,
      omega (arith, enough, c.in_ok-made.ensures.room, pairs-count c.in_ok-made.made.elements, ap length none),
      ap (λ (s : SetView _). s.capacity) made,
      ap (λ (s : SetView _). s.resizes) made,
    )

pub each-preserved : goal.each-preserved
each-preserved g c =
    let cmp = g.T.Ord.cmp in let inv = c.each.invariant in let x = c.in-Some.value in let copy = c.in-Ok.copy in
    let new = c.insert_within.ensures in let left = g.U.IntoIter.Iterator.remaining in
    let fewer = (c.in-Some.ensures.goes.on c.each.iterator.1).2 in
    let is = ap (λ (s : SetView _). s.elements) new in let same = ap (λ (s : SetView _). s.capacity) new in (
      inv.0 ++ copy ∷ [],
      subst (λ xs. AllZip g.T.Clone.is_clone xs (inv.0 ++ copy ∷ [])) (sym (map-append (λ y. y.now) c.each.yielded (x ∷ [])))
          (AllZip-push g.T.Clone.is_clone (map (λ y. y.now) c.each.yielded) inv.0 x.now copy inv.1 c.in-Ok.ensures.cases),
      is ∙ ap (λ ys. insert_key cmp ys copy) inv.2 ∙ sym (fold-append (insert_key cmp) [] inv.0 (copy ∷ [])),
      elements-fit cmp c.each.made c.each.made c.insert_within.new.self [] copy is (size (left c.each.value-iterator)) (size (left c.next.new.self)) fewer inv.3 same,
      same ∙ inv.4,
      ap (λ (s : SetView _). s.resizes) new ∙ inv.5,
    )

pub returns-clause-made : goal.returns-clause-made
returns-clause-made g c =
    let it = c.into_iter-value-iterator in let inv = c.each.invariant in (
      it.result,
      c.each.yielded,
      it.ensures.into_iter_gives,
      (c.next.new.self, (c.each.value-iterator, c.each.yielded_by, c.in-None.ensures.steps)),
      record {
        clones = inv.0;
        each = inv.1;
        elements = inv.2;
        same = λ s. inv.2 ∙ in-order g.T.Ord.cmp g.met.T.Ord.total inv.0 s;
        capacity = inv.4;
        resizes = inv.5;
      },
    )
