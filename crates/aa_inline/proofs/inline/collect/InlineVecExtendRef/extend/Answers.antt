use Rattle.std.proofs.Common.{◌++◌, ◌∷◌, [], map, sym, subst, ap, ◌∙◌, append_assoc}
use Rattle.std.proofs.lemmas.List.{append-nil, map-append}
use Rattle.std.specs.Iterator.{size}
use Rattle.std.specs.Mem.{type_size}
use denote.Param.{copied}
use Rattle.aa_inline.specs.Inlined.{HasRoom}
use Rattle.aa_inline.proofs.Extending.{items-push, room-pushed, room-reserved}
use Rattle.aa_inline.proofs.inline.collect.InlineVecExtendRef.extend.Goals as goal

pub each-init : goal.each-init
each-init g c =
    let left = g.U.IntoIter.Iterator.remaining in let it = c.into_iter-items in let same = c.into_iter-item-iterator.ensures.into_iter_gives in (
      c.in_default.ensures.items ∙ sym (append-nil c.args.self.now.items),
      λ all. subst (λ s. HasRoom g.row.N c.reserve.new.self (size (left s))) (sym same)
          (room-reserved (type_size (copied 0 g.row.T)) g.row.N c.args.self.now c.reserve.new.self c.size_hint-bound.result.0 (size (left it.result)) c.in_default.ensures.reserved (c.size_hint-bound.ensures.lower (c.requires.finite it.result it.ensures.into_iter_gives).1) (all it.result it.ensures.into_iter_gives)),
    )

pub each-preserved : goal.each-preserved
each-preserved g c =
    let bytes = type_size (copied 0 g.row.T) in let left = g.U.IntoIter.Iterator.remaining in let inv = c.each.invariant in let x = c.in-Some.item in let old = c.args.self.now.items in let xs = c.each.yielded in
    let fewer = (c.in-Some.ensures.goes.on c.each.iterator.1).2 in let pushed = c.in_default-push.ensures.pushed in (
      items-push bytes g.row.N c.each.self c.push.new.self x.now pushed ∙ ap (λ ys. ys ++ x.now ∷ []) inv.0 ∙ append_assoc old (map (λ r. r.now) xs) (x.now ∷ []) ∙ ap (λ ys. old ++ ys) (sym (map-append (λ r. r.now) xs (x ∷ []))),
      λ all. rw pushed (room-pushed bytes g.row.N c.each.self x.now (size (left c.each.item-iterator)) (size (left c.next.new.self)) fewer (inv.1 all)),
    )
