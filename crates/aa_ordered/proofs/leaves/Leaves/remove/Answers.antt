use Rattle.std.proofs.Common.{◌≡◌, ◌+◌, ◌-◌, ◌++◌, Some, arith, drop, slice_get, subst, sym, take}
use Rattle.aa_ordered.proofs.Arena.{found}
use Rattle.aa_ordered.proofs.Edits.{arena-one, view-one}
use Rattle.aa_ordered.proofs.leaves.Leaves.remove.Goals as goal

pub remove_at-item-requires-clause-places : goal.remove_at-item-requires-clause-places
remove_at-item-requires-clause-places g c =
    let a = c.self.inside in let cs = a.block.places in let h = c.index-head.result.now in let f = found cs a.heads.items a.used c.self.invariant c.args.i h c.index-head.ensures c.args.self.now c.self.view_is c.requires.list in f.places

pub remove_at-item-requires-clause-filled : goal.remove_at-item-requires-clause-filled
remove_at-item-requires-clause-filled g c =
    let a = c.self.inside in let cs = a.block.places in let h = c.index-head.result.now in let f = found cs a.heads.items a.used c.self.invariant c.args.i h c.index-head.ensures c.args.self.now c.self.view_is c.requires.list in f.filled

pub remove_at-item-requires-clause-within : goal.remove_at-item-requires-clause-within
remove_at-item-requires-clause-within g c =
    let a = c.self.inside in let cs = a.block.places in let h = c.index-head.result.now in let f = found cs a.heads.items a.used c.self.invariant c.args.i h c.index-head.ensures c.args.self.now c.self.view_is c.requires.list in omega (arith, f.long, c.requires.within)

pub remove_at-item-requires-clause-room : goal.remove_at-item-requires-clause-room
remove_at-item-requires-clause-room g c =
    let a = c.self.inside in let cs = a.block.places in let h = c.index-head.result.now in let f = found cs a.heads.items a.used c.self.invariant c.args.i h c.index-head.ensures c.args.self.now c.self.view_is c.requires.list in f.small

pub overflow_sub-head : goal.overflow_sub-head
overflow_sub-head g c =
    let a = c.self.inside in let cs = a.block.places in let h = c.index-head.result.now in let f = found cs a.heads.items a.used c.self.invariant c.args.i h c.index-head.ensures c.args.self.now c.self.view_is c.requires.list in omega (arith, f.long, c.requires.within)

pub invariant_of-self : goal.invariant_of-self
invariant_of-self g c =
    let a = c.self.inside in let cs = a.block.places in let h = c.index-head.result.now in let f = found cs a.heads.items a.used c.self.invariant c.args.i h c.index-head.ensures c.args.self.now c.self.view_is c.requires.list in
    arena-one cs c.remove_at-item.new.block.places a.heads.items a.used c.self.invariant c.args.i h c.index-head.ensures f.lt (h.len - 1) c.remove_at-item.ensures.others (omega (arith, f.small)) c.remove_at-item.ensures.filled

pub returns-clause-item : goal.returns-clause-item
returns-clause-item g c =
    let a = c.self.inside in let cs = a.block.places in let h = c.index-head.result.now in let f = found cs a.heads.items a.used c.self.invariant c.args.i h c.index-head.ensures c.args.self.now c.self.view_is c.requires.list in subst (λ xs. slice_get xs c.args.at ≡ Some c.remove_at-item.result) (sym f.list) c.remove_at-item.ensures.item

pub returns-clause-removed : goal.returns-clause-removed
returns-clause-removed g c =
    let a = c.self.inside in let cs = a.block.places in let h = c.index-head.result.now in let f = found cs a.heads.items a.used c.self.invariant c.args.i h c.index-head.ensures c.args.self.now c.self.view_is c.requires.list in
    view-one cs c.remove_at-item.new.block.places a.heads.items a.used c.self.invariant c.args.i h c.index-head.ensures f.lt (h.len - 1) c.remove_at-item.ensures.others (omega (arith, f.small)) c.remove_at-item.ensures.filled
    (λ xs. take c.args.at xs ++ drop (c.args.at + 1) xs) c.remove_at-item.ensures.items c.args.self.now c.self.view_is
