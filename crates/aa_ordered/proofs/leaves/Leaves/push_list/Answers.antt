use Rattle.std.proofs.Common.{◌*◌, ◌<◌, Some, ap, arith, length, slice_set}
use Rattle.aa_ordered.specs.Leaves.{LeavesView}
use Rattle.aa_ordered.proofs.Arena.{leaf-places, seen-count}
use Rattle.aa_ordered.proofs.Edits.{arena-next, IsRun-single, keeps-single, run-single, view-next}
use Rattle.aa_ordered.proofs.leaves.Leaves.push_list.Goals as goal

pub overflow_mul-head : goal.overflow_mul-head
overflow_mul-head g c =
    let a = c.self.inside in let cs = a.block.places in let h = c.index-head.result.now in let lt : a.used < length a.heads.items = omega (arith, c.requires, seen-count cs a.heads.items a.used c.self.invariant a.used h c.index-head.ensures c.args.self.now c.self.view_is, ap (λ (v : LeavesView _). v.room) c.self.view_is) in
    let room = leaf-places cs a.heads.items a.used c.self.invariant a.used h c.index-head.ensures lt in omega (arith, room, c.prove_capacity_bounds.ensures.fits_usize)

pub put-requires : goal.put-requires
put-requires g c =
    let a = c.self.inside in let cs = a.block.places in let h = c.index-head.result.now in let lt : a.used < length a.heads.items = omega (arith, c.requires, seen-count cs a.heads.items a.used c.self.invariant a.used h c.index-head.ensures c.args.self.now c.self.view_is, ap (λ (v : LeavesView _). v.room) c.self.view_is) in
    let room = leaf-places cs a.heads.items a.used c.self.invariant a.used h c.index-head.ensures lt in omega (arith, room)

pub invariant_of-self : goal.invariant_of-self
invariant_of-self g c =
    let a = c.self.inside in let cs = a.block.places in let h = c.index-head.result.now in let lt : a.used < length a.heads.items = omega (arith, c.requires, seen-count cs a.heads.items a.used c.self.invariant a.used h c.index-head.ensures c.args.self.now c.self.view_is, ap (λ (v : LeavesView _). v.room) c.self.view_is) in
    let room = leaf-places cs a.heads.items a.used c.self.invariant a.used h c.index-head.ensures lt in let x = c.args.item in let leaf = h.leaf in let keeps = keeps-single cs leaf x room (leaf * 64) (omega arith) (omega arith) (Some x) in
    rw c.put.ensures (arena-next cs (slice_set cs (leaf * 64) (Some x)) a.heads.items a.used c.self.invariant h c.index-head.ensures lt keeps (IsRun-single cs leaf x room))

pub returns : goal.returns
returns g c =
    let a = c.self.inside in let cs = a.block.places in let h = c.index-head.result.now in let lt : a.used < length a.heads.items = omega (arith, c.requires, seen-count cs a.heads.items a.used c.self.invariant a.used h c.index-head.ensures c.args.self.now c.self.view_is, ap (λ (v : LeavesView _). v.room) c.self.view_is) in
    let room = leaf-places cs a.heads.items a.used c.self.invariant a.used h c.index-head.ensures lt in let x = c.args.item in let leaf = h.leaf in let keeps = keeps-single cs leaf x room (leaf * 64) (omega arith) (omega arith) (Some x) in
    rw c.put.ensures (view-next cs (slice_set cs (leaf * 64) (Some x)) a.heads.items a.used c.self.invariant h c.index-head.ensures lt keeps (IsRun-single cs leaf x room) x (run-single cs leaf x room) c.args.self.now c.self.view_is)
