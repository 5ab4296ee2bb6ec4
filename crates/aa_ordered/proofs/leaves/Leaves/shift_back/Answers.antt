use Rattle.std.proofs.Common.{◌+◌, ◌-◌, ◌++◌, arith, drop, sym, take}
use Rattle.aa_ordered.proofs.Arena.{found}
use Rattle.aa_ordered.proofs.Edits.{arena-two, leaves-differ, view-two}
use Rattle.aa_ordered.proofs.leaves.Leaves.shift_back.Goals as goal

pub move_down-requires-clause-places : goal.move_down-requires-clause-places
move_down-requires-clause-places g c =
    let a = c.self.inside in let cs = a.block.places in let hs = a.heads.items in let is = c.self.invariant in let v = c.args.self.now in let x = c.index-to.result.now in let y = c.index-from.result.now in let k = c.args.k in
    let f = found cs hs a.used is c.args.i x c.index-to.ensures v c.self.view_is (omega (arith, c.requires.lists)) in let e = found cs hs a.used is (c.args.i + 1) y c.index-from.ensures v c.self.view_is c.requires.lists in (e.places, f.places)

pub move_down-requires-clause-apart : goal.move_down-requires-clause-apart
move_down-requires-clause-apart g c =
    let a = c.self.inside in let cs = a.block.places in let hs = a.heads.items in let is = c.self.invariant in let v = c.args.self.now in let x = c.index-to.result.now in let y = c.index-from.result.now in let k = c.args.k in
    let f = found cs hs a.used is c.args.i x c.index-to.ensures v c.self.view_is (omega (arith, c.requires.lists)) in let e = found cs hs a.used is (c.args.i + 1) y c.index-from.ensures v c.self.view_is c.requires.lists in λ same. (leaves-differ hs is.once c.args.i (c.args.i + 1) x y c.index-to.ensures c.index-from.ensures (omega arith) (omega (arith, e.lt, is.lists))) (sym same)

pub move_down-requires-clause-filled : goal.move_down-requires-clause-filled
move_down-requires-clause-filled g c =
    let a = c.self.inside in let cs = a.block.places in let hs = a.heads.items in let is = c.self.invariant in let v = c.args.self.now in let x = c.index-to.result.now in let y = c.index-from.result.now in let k = c.args.k in
    let f = found cs hs a.used is c.args.i x c.index-to.ensures v c.self.view_is (omega (arith, c.requires.lists)) in let e = found cs hs a.used is (c.args.i + 1) y c.index-from.ensures v c.self.view_is c.requires.lists in e.filled

pub move_down-requires-clause-filled_there : goal.move_down-requires-clause-filled_there
move_down-requires-clause-filled_there g c =
    let a = c.self.inside in let cs = a.block.places in let hs = a.heads.items in let is = c.self.invariant in let v = c.args.self.now in let x = c.index-to.result.now in let y = c.index-from.result.now in let k = c.args.k in
    let f = found cs hs a.used is c.args.i x c.index-to.ensures v c.self.view_is (omega (arith, c.requires.lists)) in let e = found cs hs a.used is (c.args.i + 1) y c.index-from.ensures v c.self.view_is c.requires.lists in f.filled

pub move_down-requires-clause-within : goal.move_down-requires-clause-within
move_down-requires-clause-within g c =
    let a = c.self.inside in let cs = a.block.places in let hs = a.heads.items in let is = c.self.invariant in let v = c.args.self.now in let x = c.index-to.result.now in let y = c.index-from.result.now in let k = c.args.k in
    let f = found cs hs a.used is c.args.i x c.index-to.ensures v c.self.view_is (omega (arith, c.requires.lists)) in let e = found cs hs a.used is (c.args.i + 1) y c.index-from.ensures v c.self.view_is c.requires.lists in (e.small, omega (arith, e.long, c.requires.within))

pub move_down-requires-clause-room : goal.move_down-requires-clause-room
move_down-requires-clause-room g c =
    let a = c.self.inside in let cs = a.block.places in let hs = a.heads.items in let is = c.self.invariant in let v = c.args.self.now in let x = c.index-to.result.now in let y = c.index-from.result.now in let k = c.args.k in
    let f = found cs hs a.used is c.args.i x c.index-to.ensures v c.self.view_is (omega (arith, c.requires.lists)) in let e = found cs hs a.used is (c.args.i + 1) y c.index-from.ensures v c.self.view_is c.requires.lists in omega (arith, f.long, c.requires.room)

pub overflow_sub-from : goal.overflow_sub-from
overflow_sub-from g c =
    let a = c.self.inside in let cs = a.block.places in let hs = a.heads.items in let is = c.self.invariant in let v = c.args.self.now in let x = c.index-to.result.now in let y = c.index-from.result.now in let k = c.args.k in
    let f = found cs hs a.used is c.args.i x c.index-to.ensures v c.self.view_is (omega (arith, c.requires.lists)) in let e = found cs hs a.used is (c.args.i + 1) y c.index-from.ensures v c.self.view_is c.requires.lists in omega (arith, e.long, c.requires.within)

pub overflow_add-to : goal.overflow_add-to
overflow_add-to g c =
    let a = c.self.inside in let cs = a.block.places in let hs = a.heads.items in let is = c.self.invariant in let v = c.args.self.now in let x = c.index-to.result.now in let y = c.index-from.result.now in let k = c.args.k in
    let f = found cs hs a.used is c.args.i x c.index-to.ensures v c.self.view_is (omega (arith, c.requires.lists)) in let e = found cs hs a.used is (c.args.i + 1) y c.index-from.ensures v c.self.view_is c.requires.lists in omega (arith, f.long, c.requires.room)

pub invariant_of-self : goal.invariant_of-self
invariant_of-self g c =
    let a = c.self.inside in let cs = a.block.places in let hs = a.heads.items in let is = c.self.invariant in let v = c.args.self.now in let x = c.index-to.result.now in let y = c.index-from.result.now in let k = c.args.k in
    let f = found cs hs a.used is c.args.i x c.index-to.ensures v c.self.view_is (omega (arith, c.requires.lists)) in let e = found cs hs a.used is (c.args.i + 1) y c.index-from.ensures v c.self.view_is c.requires.lists in
    let ds = c.move_down.new.block.places in let m = c.move_down.ensures in
    arena-two cs ds hs a.used is c.args.i x y c.index-to.ensures c.index-from.ensures e.lt (x.len + k) (y.len - k) m.others.count (λ leaf l nx ny. m.others.same leaf l ny nx) (omega (arith, f.long, c.requires.room)) m.filled_there (omega (arith, e.small)) m.filled

pub returns : goal.returns
returns g c =
    let a = c.self.inside in let cs = a.block.places in let hs = a.heads.items in let is = c.self.invariant in let v = c.args.self.now in let x = c.index-to.result.now in let y = c.index-from.result.now in let k = c.args.k in
    let f = found cs hs a.used is c.args.i x c.index-to.ensures v c.self.view_is (omega (arith, c.requires.lists)) in let e = found cs hs a.used is (c.args.i + 1) y c.index-from.ensures v c.self.view_is c.requires.lists in
    let ds = c.move_down.new.block.places in let m = c.move_down.ensures in
    view-two cs ds hs a.used is c.args.i x y c.index-to.ensures c.index-from.ensures e.lt (x.len + k) (y.len - k) m.others.count (λ leaf l nx ny. m.others.same leaf l ny nx) (omega (arith, f.long, c.requires.room)) m.filled_there (omega (arith, e.small)) m.filled
    (λ l r. l ++ take k r) (λ _ r. drop k r) m.moved m.kept v c.self.view_is
