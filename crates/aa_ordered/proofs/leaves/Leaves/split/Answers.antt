use Rattle.std.proofs.Common.{◌≡◌, ◌+◌, ◌-◌, ◌*◌, ◌≤◌, ◌<◌, ◌++◌, ◌∷◌, [], Some, ap, append-nil, arith, drop, get_or, insert, length, length-set, map, refl, remove, slice_get, slice_set, subst, sym, take, take_at, zero-add, ◌∙◌}
use Rattle.std.specs.List.{refill}
use Rattle.std.proofs.lemmas.Option.{slice_get_read}
use Rattle.allocator_api2.specs.Places.{IsRun, run}
use Rattle.aa_raw.proofs.Runs.{run-none, IsRun-nil}
use Rattle.aa_ordered.specs.Arena.{list_of, IsArena}
use Rattle.aa_ordered.specs.Leaves.{LeavesView, replaced, with_lists}
use Rattle.aa_ordered.proofs.Arena.{found, leaf-places, seen-count}
use Rattle.aa_ordered.proofs.Edits.{arena-part, head, heads-split, leaves-differ, long-part, view-part}
use Rattle.aa_ordered.proofs.leaves.Leaves.split.Goals as goal

pub overflow_sub-count : goal.overflow_sub-count
overflow_sub-count g c =
    let a = c.self.inside in let cs = a.block.places in let hs = a.heads.items in let is = c.self.invariant in let v = c.args.self.now in let h = c.index-head.result.now in let e = c.index-free.result.now in
    let f = found cs hs a.used is c.args.i h c.index-head.ensures v c.self.view_is c.requires.list in let read = c.index-free.ensures in omega (arith, f.long, c.requires.within)

pub move_up-requires-clause-places : goal.move_up-requires-clause-places
move_up-requires-clause-places g c =
    let a = c.self.inside in let cs = a.block.places in let hs = a.heads.items in let is = c.self.invariant in let v = c.args.self.now in let h = c.index-head.result.now in let e = c.index-free.result.now in
    let f = found cs hs a.used is c.args.i h c.index-head.ensures v c.self.view_is c.requires.list in let read = c.index-free.ensures in
    let lt : a.used < length hs = omega (arith, c.requires.room, seen-count cs hs a.used is c.args.i h c.index-head.ensures v c.self.view_is, ap (λ (w : LeavesView _). w.room) c.self.view_is) in
    let room = leaf-places cs hs a.used is a.used e read lt in (f.places, room)

pub move_up-requires-clause-apart : goal.move_up-requires-clause-apart
move_up-requires-clause-apart g c =
    let a = c.self.inside in let cs = a.block.places in let hs = a.heads.items in let is = c.self.invariant in let v = c.args.self.now in let h = c.index-head.result.now in let e = c.index-free.result.now in
    let f = found cs hs a.used is c.args.i h c.index-head.ensures v c.self.view_is c.requires.list in let read = c.index-free.ensures in
    let lt : a.used < length hs = omega (arith, c.requires.room, seen-count cs hs a.used is c.args.i h c.index-head.ensures v c.self.view_is, ap (λ (w : LeavesView _). w.room) c.self.view_is) in
    let room = leaf-places cs hs a.used is a.used e read lt in leaves-differ hs is.once c.args.i a.used h e c.index-head.ensures read f.lt lt

pub move_up-requires-clause-filled : goal.move_up-requires-clause-filled
move_up-requires-clause-filled g c =
    let a = c.self.inside in let cs = a.block.places in let hs = a.heads.items in let is = c.self.invariant in let v = c.args.self.now in let h = c.index-head.result.now in let e = c.index-free.result.now in
    let f = found cs hs a.used is c.args.i h c.index-head.ensures v c.self.view_is c.requires.list in let read = c.index-free.ensures in f.filled

pub move_up-requires-clause-filled_there : goal.move_up-requires-clause-filled_there
move_up-requires-clause-filled_there g c =
    let a = c.self.inside in let cs = a.block.places in let hs = a.heads.items in let is = c.self.invariant in let v = c.args.self.now in let h = c.index-head.result.now in let e = c.index-free.result.now in
    let f = found cs hs a.used is c.args.i h c.index-head.ensures v c.self.view_is c.requires.list in let read = c.index-free.ensures in
    let lt : a.used < length hs = omega (arith, c.requires.room, seen-count cs hs a.used is c.args.i h c.index-head.ensures v c.self.view_is, ap (λ (w : LeavesView _). w.room) c.self.view_is) in
    let room = leaf-places cs hs a.used is a.used e read lt in IsRun-nil cs (e.leaf * 64) (omega (arith, room))

pub move_up-requires-clause-within : goal.move_up-requires-clause-within
move_up-requires-clause-within g c =
    let a = c.self.inside in let cs = a.block.places in let hs = a.heads.items in let is = c.self.invariant in let v = c.args.self.now in let h = c.index-head.result.now in let e = c.index-free.result.now in
    let f = found cs hs a.used is c.args.i h c.index-head.ensures v c.self.view_is c.requires.list in let read = c.index-free.ensures in (f.small, omega arith)

pub move_up-requires-clause-room : goal.move_up-requires-clause-room
move_up-requires-clause-room g c =
    let a = c.self.inside in let cs = a.block.places in let hs = a.heads.items in let is = c.self.invariant in let v = c.args.self.now in let h = c.index-head.result.now in let e = c.index-free.result.now in
    let f = found cs hs a.used is c.args.i h c.index-head.ensures v c.self.view_is c.requires.list in let read = c.index-free.ensures in omega (arith, f.small)

pub invariant_of-self : goal.invariant_of-self
invariant_of-self g c =
    let a = c.self.inside in let cs = a.block.places in let hs = a.heads.items in let is = c.self.invariant in let v = c.args.self.now in let h = c.index-head.result.now in let e = c.index-free.result.now in
    let f = found cs hs a.used is c.args.i h c.index-head.ensures v c.self.view_is c.requires.list in let read = c.index-free.ensures in
    let lt : a.used < length hs = omega (arith, c.requires.room, seen-count cs hs a.used is c.args.i h c.index-head.ensures v c.self.view_is, ap (λ (w : LeavesView _). w.room) c.self.view_is) in
    let room = leaf-places cs hs a.used is a.used e read lt in
    let free : slice_get hs a.used ≡ Some e = slice_get_read hs (length hs) a.used e refl lt read in
    let ds = c.move_up.new.block.places in let m = c.move_up.ensures in let i = c.args.i in let n = c.args.at in let k = h.len - n in
    let back : h.len - k ≡ n = omega (arith, f.long, c.requires.within) in
    let keeps = m.others in let filled = subst (λ l. IsRun ds (h.leaf * 64) l) back m.filled in let next = subst (λ l. IsRun ds (e.leaf * 64) l) (zero-add k) m.filled_there in
    let small : n ≤ 64 = omega (arith, f.small, f.long, c.requires.within) in
    let sets = slice_set (slice_set hs a.used (head e.leaf k)) i (head h.leaf n) in let new = c.move_down.new.heads in let gs = insert (slice_set (remove hs a.used) i (head h.leaf n)) (i + 1) (head e.leaf k) in
    let step : new ≡ gs = c.move_down.ensures (head 0 0) ∙ ap (λ xs. insert (remove xs a.used) (i + 1) (get_or xs a.used (head 0 0))) c.as_mut_slice.ensures.value ∙ heads-split hs a.used i (head h.leaf n) (head e.leaf k) (head 0 0) f.lt lt in
    let long : length new ≡ length sets = ap length step ∙ long-part cs ds hs a.used is i h e c.index-head.ensures f.lt free lt n k keeps small filled (omega (arith, f.small)) next ∙ sym (length-set (slice_set hs a.used (head e.leaf k)) i (head h.leaf n) ∙ length-set hs a.used (head e.leaf k)) in
    let heads : refill (length sets) c.as_mut_slice.result.now new ≡ gs = take_at new (drop (length new) c.as_mut_slice.result.now) (length sets) long ∙ step in
    subst (λ xs. IsArena ds xs (a.used + 1)) (sym heads) (arena-part cs ds hs a.used is i h e c.index-head.ensures f.lt free lt n k keeps small filled (omega (arith, f.small)) next)

pub returns : goal.returns
returns g c =
    let a = c.self.inside in let cs = a.block.places in let hs = a.heads.items in let is = c.self.invariant in let v = c.args.self.now in let h = c.index-head.result.now in let e = c.index-free.result.now in
    let f = found cs hs a.used is c.args.i h c.index-head.ensures v c.self.view_is c.requires.list in let read = c.index-free.ensures in
    let lt : a.used < length hs = omega (arith, c.requires.room, seen-count cs hs a.used is c.args.i h c.index-head.ensures v c.self.view_is, ap (λ (w : LeavesView _). w.room) c.self.view_is) in
    let room = leaf-places cs hs a.used is a.used e read lt in
    let free : slice_get hs a.used ≡ Some e = slice_get_read hs (length hs) a.used e refl lt read in
    let ds = c.move_up.new.block.places in let m = c.move_up.ensures in let i = c.args.i in let n = c.args.at in let k = h.len - n in
    let back : h.len - k ≡ n = omega (arith, f.long, c.requires.within) in
    let keeps = m.others in let filled = subst (λ l. IsRun ds (h.leaf * 64) l) back m.filled in let next = subst (λ l. IsRun ds (e.leaf * 64) l) (zero-add k) m.filled_there in
    let small : n ≤ 64 = omega (arith, f.small, f.long, c.requires.within) in
    let sets = slice_set (slice_set hs a.used (head e.leaf k)) i (head h.leaf n) in let new = c.move_down.new.heads in let gs = insert (slice_set (remove hs a.used) i (head h.leaf n)) (i + 1) (head e.leaf k) in
    let step : new ≡ gs = c.move_down.ensures (head 0 0) ∙ ap (λ xs. insert (remove xs a.used) (i + 1) (get_or xs a.used (head 0 0))) c.as_mut_slice.ensures.value ∙ heads-split hs a.used i (head h.leaf n) (head e.leaf k) (head 0 0) f.lt lt in
    let long : length new ≡ length sets = ap length step ∙ long-part cs ds hs a.used is i h e c.index-head.ensures f.lt free lt n k keeps small filled (omega (arith, f.small)) next ∙ sym (length-set (slice_set hs a.used (head e.leaf k)) i (head h.leaf n) ∙ length-set hs a.used (head e.leaf k)) in
    let heads : refill (length sets) c.as_mut_slice.result.now new ≡ gs = take_at new (drop (length new) c.as_mut_slice.result.now) (length sets) long ∙ step in
    let first : run ds (h.leaf * 64) n ≡ take n (run cs (h.leaf * 64) h.len) = subst (λ l. run ds (h.leaf * 64) l ≡ take l (run cs (h.leaf * 64) h.len)) back m.kept in
    let empty = run-none cs (e.leaf * 64) 0 refl in
    let second : run ds (e.leaf * 64) k ≡ drop n (run cs (h.leaf * 64) h.len) = ap (run ds (e.leaf * 64)) (sym (zero-add k)) ∙ m.moved ∙ (λ j. drop (back j) (run cs (h.leaf * 64) h.len) ++ empty j) ∙ append-nil (drop n (run cs (h.leaf * 64) h.len)) in
    subst (λ xs. record { lists = map (list_of ds) (take (a.used + 1) xs); room = length xs; resizes = a.resizes.count } ≡ with_lists v (replaced v.lists i 1 (take n (get_or v.lists i []) ∷ drop n (get_or v.lists i []) ∷ [])))
    (sym heads) (view-part cs ds hs a.used is i h e c.index-head.ensures f.lt free lt n k keeps small filled (omega (arith, f.small)) next (take n) (drop n) first second v c.self.view_is)
