use Rattle.std.proofs.Common.{◌+◌, ◌++◌, ◌∷◌, arith, drop, take}
use Rattle.aa_ordered.proofs.Arena.{found}
use Rattle.aa_ordered.proofs.Edits.{arena-one, view-one}
use Rattle.aa_ordered.proofs.leaves.Leaves.insert.Goals as goal

pub insert_at-requires-clause-places : goal.insert_at-requires-clause-places
insert_at-requires-clause-places g c =
    let a = c.self.inside in let cs = a.block.places in let h = c.index-head.result.now in let f = found cs a.heads.items a.used c.self.invariant c.args.i h c.index-head.ensures c.args.self.now c.self.view_is c.requires.list in f.places

pub insert_at-requires-clause-filled : goal.insert_at-requires-clause-filled
insert_at-requires-clause-filled g c =
    let a = c.self.inside in let cs = a.block.places in let h = c.index-head.result.now in let f = found cs a.heads.items a.used c.self.invariant c.args.i h c.index-head.ensures c.args.self.now c.self.view_is c.requires.list in f.filled

pub insert_at-requires-clause-within : goal.insert_at-requires-clause-within
insert_at-requires-clause-within g c =
    let a = c.self.inside in let cs = a.block.places in let h = c.index-head.result.now in let f = found cs a.heads.items a.used c.self.invariant c.args.i h c.index-head.ensures c.args.self.now c.self.view_is c.requires.list in omega (arith, f.long, c.requires.within)

pub insert_at-requires-clause-room : goal.insert_at-requires-clause-room
insert_at-requires-clause-room g c =
    let a = c.self.inside in let cs = a.block.places in let h = c.index-head.result.now in let f = found cs a.heads.items a.used c.self.invariant c.args.i h c.index-head.ensures c.args.self.now c.self.view_is c.requires.list in omega (arith, f.long, c.requires.room)

pub overflow_add-head : goal.overflow_add-head
overflow_add-head g c =
    let a = c.self.inside in let cs = a.block.places in let h = c.index-head.result.now in let f = found cs a.heads.items a.used c.self.invariant c.args.i h c.index-head.ensures c.args.self.now c.self.view_is c.requires.list in omega (arith, f.small)

pub invariant_of-self : goal.invariant_of-self
invariant_of-self g c =
    let a = c.self.inside in let cs = a.block.places in let h = c.index-head.result.now in let f = found cs a.heads.items a.used c.self.invariant c.args.i h c.index-head.ensures c.args.self.now c.self.view_is c.requires.list in
    arena-one cs c.insert_at.new.block.places a.heads.items a.used c.self.invariant c.args.i h c.index-head.ensures f.lt (h.len + 1) c.insert_at.ensures.others (omega (arith, f.long, c.requires.room)) c.insert_at.ensures.filled

pub returns : goal.returns
returns g c =
    let a = c.self.inside in let cs = a.block.places in let h = c.index-head.result.now in let f = found cs a.heads.items a.used c.self.invariant c.args.i h c.index-head.ensures c.args.self.now c.self.view_is c.requires.list in
    view-one cs c.insert_at.new.block.places a.heads.items a.used c.self.invariant c.args.i h c.index-head.ensures f.lt (h.len + 1) c.insert_at.ensures.others (omega (arith, f.long, c.requires.room)) c.insert_at.ensures.filled
    (λ xs. take c.args.at xs ++ c.args.item ∷ drop c.args.at xs) c.insert_at.ensures.items c.args.self.now c.self.view_is
