use Rattle.std.proofs.Common.{◌≡◌, ◌-◌, ◌<◌, [], Some, ap, arith, drop, get_or, insert, length, map, refl, remove, slice_get, subst, sym, take, take_at, ◌∙◌}
use Rattle.std.specs.List.{refill}
use Rattle.std.proofs.lemmas.List.{get_or_default}
use Rattle.std.proofs.lemmas.Option.{slice_get_read}
use Rattle.aa_ordered.specs.Arena.{list_of, IsArena}
use Rattle.aa_ordered.specs.Leaves.{LeavesView, replaced, with_lists}
use Rattle.aa_ordered.proofs.Arena.{count-lists}
use Rattle.aa_ordered.proofs.Edits.{arena-freed, head, long-freed, view-freed}
use Rattle.aa_ordered.proofs.leaves.Leaves.drop_list.Goals as goal

pub invariant_of-self : goal.invariant_of-self
invariant_of-self g c =
    let a = c.self.inside in let cs = a.block.places in let hs = a.heads.items in let is = c.self.invariant in let v = c.args.self.now in let i = c.args.i in let e = get_or hs i (head 0 0) in
    let i-used : i < a.used = omega (arith, c.requires.list, ap (λ (w : LeavesView _). length w.lists) c.self.view_is, count-lists cs hs a.used is) in
    let read : slice_get hs i ≡ Some e = slice_get_read hs (length hs) i e refl (omega (arith, i-used, is.lists)) (get_or_default hs i (head 0 0) e (omega (arith, i-used, is.lists))) in
    let gs = insert (remove hs i) (a.used - 1) e in let new = c.move_up.new.heads in
    let step : new ≡ gs = c.move_up.ensures (head 0 0) ∙ ap (λ xs. insert (remove xs i) (a.used - 1) (get_or xs i (head 0 0))) c.as_mut_slice.ensures.value in
    let heads : refill (length hs) c.as_mut_slice.result.now new ≡ gs = take_at new (drop (length new) c.as_mut_slice.result.now) (length hs) (ap length step ∙ long-freed cs hs a.used is i e read i-used) ∙ step in
    subst (λ xs. IsArena cs xs (a.used - 1)) (sym heads) (arena-freed cs hs a.used is i e read i-used)

pub returns : goal.returns
returns g c =
    let a = c.self.inside in let cs = a.block.places in let hs = a.heads.items in let is = c.self.invariant in let v = c.args.self.now in let i = c.args.i in let e = get_or hs i (head 0 0) in
    let i-used : i < a.used = omega (arith, c.requires.list, ap (λ (w : LeavesView _). length w.lists) c.self.view_is, count-lists cs hs a.used is) in
    let read : slice_get hs i ≡ Some e = slice_get_read hs (length hs) i e refl (omega (arith, i-used, is.lists)) (get_or_default hs i (head 0 0) e (omega (arith, i-used, is.lists))) in
    let gs = insert (remove hs i) (a.used - 1) e in let new = c.move_up.new.heads in
    let step : new ≡ gs = c.move_up.ensures (head 0 0) ∙ ap (λ xs. insert (remove xs i) (a.used - 1) (get_or xs i (head 0 0))) c.as_mut_slice.ensures.value in
    let heads : refill (length hs) c.as_mut_slice.result.now new ≡ gs = take_at new (drop (length new) c.as_mut_slice.result.now) (length hs) (ap length step ∙ long-freed cs hs a.used is i e read i-used) ∙ step in
    subst (λ xs. record { lists = map (list_of cs) (take (a.used - 1) xs); room = length xs; resizes = a.resizes.count } ≡ with_lists v (replaced v.lists i 1 [])) (sym heads) (view-freed cs hs a.used is i e read i-used v c.self.view_is)
