use Rattle.std.proofs.Common.{◌≡◌, ◌*◌, ◌<◌, Some, arith, refl, slice_get, subst, sym}
use Rattle.aa_raw.proofs.BothEnds.{slice_get-run_from}
use Rattle.aa_raw.proofs.Places.{run_filled}
use Rattle.aa_ordered.proofs.Arena.{found}
use Rattle.aa_ordered.proofs.Edits.{arena-lent, view-lent}
use Rattle.aa_ordered.proofs.leaves.Leaves.item_mut.Goals as goal

pub overflow_add-head : goal.overflow_add-head
overflow_add-head g c =
    let a = c.self.inside in let cs = a.block.places in let hs = a.heads.items in let h = c.index-head.result.now in let at = c.args.at in let v = c.args.self.now in
    let f = found cs hs a.used c.self.invariant c.args.i h c.index-head.ensures v c.self.view_is c.requires.list in let lt : at < h.len = omega (arith, f.long, c.requires.within) in omega (arith, lt, f.small, f.places, c.prove_capacity_bounds.ensures.fits_usize)

pub place_mut-requires : goal.place_mut-requires
place_mut-requires g c =
    let a = c.self.inside in let cs = a.block.places in let hs = a.heads.items in let h = c.index-head.result.now in let at = c.args.at in let v = c.args.self.now in
    let f = found cs hs a.used c.self.invariant c.args.i h c.index-head.ensures v c.self.view_is c.requires.list in let lt : at < h.len = omega (arith, f.long, c.requires.within) in run_filled cs (h.leaf * 64) h.len at f.filled lt

pub invariant_of-self-lent : goal.invariant_of-self-lent
invariant_of-self-lent g c =
    let a = c.self.inside in let cs = a.block.places in let hs = a.heads.items in let h = c.index-head.result.now in let at = c.args.at in let v = c.args.self.now in
    let f = found cs hs a.used c.self.invariant c.args.i h c.index-head.ensures v c.self.view_is c.requires.list in let lt : at < h.len = omega (arith, f.long, c.requires.within) in
    λ w. arena-lent cs hs a.used c.self.invariant c.args.i at h c.index-head.ensures f.lt f.places f.filled f.small lt w

pub returns : goal.returns
returns g c =
    let a = c.self.inside in let cs = a.block.places in let hs = a.heads.items in let h = c.index-head.result.now in let at = c.args.at in let v = c.args.self.now in
    let f = found cs hs a.used c.self.invariant c.args.i h c.index-head.ensures v c.self.view_is c.requires.list in let lt : at < h.len = omega (arith, f.long, c.requires.within) in (
      (refl, λ w. view-lent cs hs a.used c.self.invariant c.args.i at h c.index-head.ensures f.lt f.places f.filled f.small lt w v c.self.view_is),
      record { writes_back = tt; value = subst (λ xs. slice_get xs at ≡ Some c.place_mut.result.now) (sym f.list) (slice_get-run_from cs (h.leaf * 64) h.len at c.place_mut.result.now f.filled lt c.place_mut.ensures.value) },
    )
