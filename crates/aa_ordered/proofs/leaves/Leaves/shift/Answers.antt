use Rattle.std.proofs.Common.{◌≡◌, ◌+◌, ◌-◌, ◌*◌, ◌++◌, ap, arith, drop, length, sym, take, ◌∙◌}
use Rattle.allocator_api2.specs.Places.{run}
use Rattle.aa_raw.proofs.Runs.{length-run}
use Rattle.aa_ordered.proofs.Arena.{found}
use Rattle.aa_ordered.proofs.Edits.{arena-two, leaves-differ, view-two}
use Rattle.aa_ordered.proofs.leaves.Leaves.shift.Goals as goal

pub move_up-requires-clause-places : goal.move_up-requires-clause-places
move_up-requires-clause-places g c =
    let a = c.self.inside in let cs = a.block.places in let hs = a.heads.items in let is = c.self.invariant in let v = c.args.self.now in let x = c.index-from.result.now in let y = c.index-to.result.now in let k = c.args.k in
    let f = found cs hs a.used is c.args.i x c.index-from.ensures v c.self.view_is (omega (arith, c.requires.lists)) in let e = found cs hs a.used is (c.args.i + 1) y c.index-to.ensures v c.self.view_is c.requires.lists in (f.places, e.places)

pub move_up-requires-clause-apart : goal.move_up-requires-clause-apart
move_up-requires-clause-apart g c =
    let a = c.self.inside in let cs = a.block.places in let hs = a.heads.items in let is = c.self.invariant in let v = c.args.self.now in let x = c.index-from.result.now in let y = c.index-to.result.now in let k = c.args.k in
    let f = found cs hs a.used is c.args.i x c.index-from.ensures v c.self.view_is (omega (arith, c.requires.lists)) in let e = found cs hs a.used is (c.args.i + 1) y c.index-to.ensures v c.self.view_is c.requires.lists in leaves-differ hs is.once c.args.i (c.args.i + 1) x y c.index-from.ensures c.index-to.ensures (omega arith) (omega (arith, e.lt, is.lists))

pub move_up-requires-clause-filled : goal.move_up-requires-clause-filled
move_up-requires-clause-filled g c =
    let a = c.self.inside in let cs = a.block.places in let hs = a.heads.items in let is = c.self.invariant in let v = c.args.self.now in let x = c.index-from.result.now in let y = c.index-to.result.now in let k = c.args.k in
    let f = found cs hs a.used is c.args.i x c.index-from.ensures v c.self.view_is (omega (arith, c.requires.lists)) in let e = found cs hs a.used is (c.args.i + 1) y c.index-to.ensures v c.self.view_is c.requires.lists in f.filled

pub move_up-requires-clause-filled_there : goal.move_up-requires-clause-filled_there
move_up-requires-clause-filled_there g c =
    let a = c.self.inside in let cs = a.block.places in let hs = a.heads.items in let is = c.self.invariant in let v = c.args.self.now in let x = c.index-from.result.now in let y = c.index-to.result.now in let k = c.args.k in
    let f = found cs hs a.used is c.args.i x c.index-from.ensures v c.self.view_is (omega (arith, c.requires.lists)) in let e = found cs hs a.used is (c.args.i + 1) y c.index-to.ensures v c.self.view_is c.requires.lists in e.filled

pub move_up-requires-clause-within : goal.move_up-requires-clause-within
move_up-requires-clause-within g c =
    let a = c.self.inside in let cs = a.block.places in let hs = a.heads.items in let is = c.self.invariant in let v = c.args.self.now in let x = c.index-from.result.now in let y = c.index-to.result.now in let k = c.args.k in
    let f = found cs hs a.used is c.args.i x c.index-from.ensures v c.self.view_is (omega (arith, c.requires.lists)) in let e = found cs hs a.used is (c.args.i + 1) y c.index-to.ensures v c.self.view_is c.requires.lists in (f.small, omega (arith, f.long, c.requires.within))

pub move_up-requires-clause-room : goal.move_up-requires-clause-room
move_up-requires-clause-room g c =
    let a = c.self.inside in let cs = a.block.places in let hs = a.heads.items in let is = c.self.invariant in let v = c.args.self.now in let x = c.index-from.result.now in let y = c.index-to.result.now in let k = c.args.k in
    let f = found cs hs a.used is c.args.i x c.index-from.ensures v c.self.view_is (omega (arith, c.requires.lists)) in let e = found cs hs a.used is (c.args.i + 1) y c.index-to.ensures v c.self.view_is c.requires.lists in omega (arith, e.long, c.requires.room)

pub overflow_sub-from : goal.overflow_sub-from
overflow_sub-from g c =
    let a = c.self.inside in let cs = a.block.places in let hs = a.heads.items in let is = c.self.invariant in let v = c.args.self.now in let x = c.index-from.result.now in let y = c.index-to.result.now in let k = c.args.k in
    let f = found cs hs a.used is c.args.i x c.index-from.ensures v c.self.view_is (omega (arith, c.requires.lists)) in let e = found cs hs a.used is (c.args.i + 1) y c.index-to.ensures v c.self.view_is c.requires.lists in omega (arith, f.long, c.requires.within)

pub overflow_add-to : goal.overflow_add-to
overflow_add-to g c =
    let a = c.self.inside in let cs = a.block.places in let hs = a.heads.items in let is = c.self.invariant in let v = c.args.self.now in let x = c.index-from.result.now in let y = c.index-to.result.now in let k = c.args.k in
    let f = found cs hs a.used is c.args.i x c.index-from.ensures v c.self.view_is (omega (arith, c.requires.lists)) in let e = found cs hs a.used is (c.args.i + 1) y c.index-to.ensures v c.self.view_is c.requires.lists in omega (arith, e.long, c.requires.room)

pub invariant_of-self : goal.invariant_of-self
invariant_of-self g c =
    let a = c.self.inside in let cs = a.block.places in let hs = a.heads.items in let is = c.self.invariant in let v = c.args.self.now in let x = c.index-from.result.now in let y = c.index-to.result.now in let k = c.args.k in
    let f = found cs hs a.used is c.args.i x c.index-from.ensures v c.self.view_is (omega (arith, c.requires.lists)) in let e = found cs hs a.used is (c.args.i + 1) y c.index-to.ensures v c.self.view_is c.requires.lists in
    let ds = c.move_up.new.block.places in let m = c.move_up.ensures in
    arena-two cs ds hs a.used is c.args.i x y c.index-from.ensures c.index-to.ensures e.lt (x.len - k) (y.len + k) m.others.count m.others.same (omega (arith, f.small)) m.filled (omega (arith, e.long, c.requires.room)) m.filled_there

pub returns : goal.returns
returns g c =
    let a = c.self.inside in let cs = a.block.places in let hs = a.heads.items in let is = c.self.invariant in let v = c.args.self.now in let x = c.index-from.result.now in let y = c.index-to.result.now in let k = c.args.k in
    let f = found cs hs a.used is c.args.i x c.index-from.ensures v c.self.view_is (omega (arith, c.requires.lists)) in let e = found cs hs a.used is (c.args.i + 1) y c.index-to.ensures v c.self.view_is c.requires.lists in
    let ds = c.move_up.new.block.places in let m = c.move_up.ensures in
    let xs = run cs (x.leaf * 64) x.len in let long : x.len ≡ length xs = sym (length-run cs (x.leaf * 64) x.len f.filled) in
    view-two cs ds hs a.used is c.args.i x y c.index-from.ensures c.index-to.ensures e.lt (x.len - k) (y.len + k) m.others.count m.others.same (omega (arith, f.small)) m.filled (omega (arith, e.long, c.requires.room)) m.filled_there
    (λ l _. take (length l - k) l) (λ l r. drop (length l - k) l ++ r) (m.kept ∙ ap (λ n. take (n - k) xs) long) (m.moved ∙ ap (λ n. drop (n - k) xs ++ run cs (y.leaf * 64) y.len) long) v c.self.view_is
