use Rattle.std.proofs.Common.{◌*◌, ◌<◌, ◌≤◌, ◌≡◌, ℕ, arith, get_or, length, refl, subst, sym, ◌∙◌}
use Rattle.std.proofs.lemmas.List.{get_or_default}
use Rattle.std.proofs.lemmas.List.Elements.{All-get_or}
use Rattle.aa_ordered.specs.Arena.{IsHeld}
use Rattle.aa_ordered.specs.declared.leaves.Head.{Head}
use Rattle.aa_ordered.proofs.Edits.{head, length-filled, moved-filled, rest-left}
use Rattle.aa_ordered.proofs.leaves.moves.move_lists.Goals as goal

pub each-init : goal.each-init
each-init g c = record {
  count = refl;
  rest = λ j h l lt read. (subst (IsHeld c.args.from.now.places) (sym read) (All-get_or (IsHeld c.args.from.now.places) c.args.heads.now j h lt c.requires.held), refl);
  moved = λ j h lt read. absurd (omega (arith, lt));
}

pub overflow_mul-head : goal.overflow_mul-head
overflow_mul-head g c =
    let hs = c.args.heads.now in let i = c.each.i in let h = get_or hs i (head 0 0) in let lt : i < length hs = c.each-test.true in
    omega (arith, (c.each.invariant.rest i h (omega arith) lt (get_or_default hs i (head 0 0) h lt)).0.1.0, c.prove_capacity_bounds.ensures.fits_usize)

pub transfer-requires : goal.transfer-requires
transfer-requires g c =
    let hs = c.args.heads.now in let i = c.each.i in let h = get_or hs i (head 0 0) in let lt : i < length hs = c.each-test.true in
    let held = (c.each.invariant.rest i h (omega arith) lt (get_or_default hs i (head 0 0) h lt)).0 in
    (held.1, omega (arith, held.0, lt, c.requires.room, c.each.invariant.count))

pub each-preserved : goal.each-preserved
each-preserved g c =
    let hs = c.args.heads.now in let i = c.each.i in let h = get_or hs i (head 0 0) in let lt : i < length hs = c.each-test.true in let read = get_or_default hs i (head 0 0) h lt in
    let inv = c.each.invariant in let now = inv.rest i h (omega arith) lt read in
    let first = c.args.from.now.places in let cs = c.each.from.places in let ds = c.each.to.places in
    let small : (j : ℕ) (g : Head) → j < length hs → g ≡ get_or hs j g → g.len ≤ 64 = λ j g l r. (subst (IsHeld first) (sym r) (All-get_or (IsHeld first) hs j g l c.requires.held)).0 in
    let room : length hs * 64 ≤ length ds = omega (arith, c.requires.room, inv.count) in
    rw (c.transfer.ensures.moved, c.transfer.ensures.emptied) (record {
      count = length-filled first cs ds hs c.requires.once small room i h read lt now.0 now.1 ∙ inv.count;
      rest = λ j g l jt r. rest-left first cs ds hs c.requires.once small room i h read lt now.0 now.1 j g l jt r (inv.rest j g (omega (arith, l)) jt r);
      moved = λ j g l r. moved-filled first cs ds hs c.requires.once small room i h read lt now.0 now.1 j g l r inv.moved;
    })
