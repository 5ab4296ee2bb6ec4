use Rattle.std.proofs.Common.{◌+◌, ◌*◌, ◌<◌, ap, arith, length, max, rules, subst, sym, true≢false, ◌∙◌}
use Rattle.allocator_api2.specs.Errors.{IsErrorFor}
use Rattle.aa_ordered.specs.Balance.{joined}
use Rattle.aa_ordered.specs.Capacity.{leaves_for}
use Rattle.aa_ordered.specs.Leaves.{LeavesView}
use Rattle.aa_ordered.proofs.Balance.{at-most}
use Rattle.aa_ordered.proofs.Moving.{many}
use Rattle.aa_ordered.proofs.Shifting.{needs-either, needs-number, needs-room, needs-same}
use Rattle.aa_ordered.proofs.map.spots.make_room_slow.Goals as goal

pub returns-in_err-try_reserve-clause-fits : goal.returns-in_err-try_reserve-clause-fits
returns-in_err-try_reserve-clause-fits g c less =
    let v = c.args.leaves.now in
    let enough = many v.lists c.args.spot.list c.requires.list c.requires.balanced c.requires.full
    (omega (arith, c.len_before.ensures.len, c.if-len_before-lt-HALF.false)) (omega (arith, c.len_from.ensures.len, c.if-len_from-lt-HALF.false)) in
    absurd (true≢false (sym (c.in_err-try_reserve.ensures.fits (needs-room v c.prove_bounds.ensures.within (length (joined v.lists)) enough less))))

pub returns-in_err-try_reserve-clause-error : goal.returns-in_err-try_reserve-clause-error
returns-in_err-try_reserve-clause-error g c =
    let v = c.args.leaves.now in
    let enough = many v.lists c.args.spot.list c.requires.list c.requires.balanced c.requires.full
    (omega (arith, c.len_before.ensures.len, c.if-len_before-lt-HALF.false)) (omega (arith, c.len_from.ensures.len, c.if-len_from-lt-HALF.false)) in
    let short : c.args.leaves.now.room < length c.args.leaves.now.lists + 1 = grind (arith, c.in_err-try_reserve.ensures.fits) in
    let r : IsErrorFor c.in_err-try_reserve.field-0.0 (max (2 * c.args.leaves.now.room) (leaves_for (length (joined c.args.leaves.now.lists) + 1)) * 64) =
    subst (IsErrorFor c.in_err-try_reserve.field-0.0) (needs-number v c.prove_bounds.ensures.within (length (joined v.lists)) enough short (at-most v.lists c.prove_bounds.ensures.lists)) c.in_err-try_reserve.ensures.error in
    search (rules, r)

pub returns-clause-room : goal.returns-clause-room
returns-clause-room g c less =
    let v = c.args.leaves.now in
    let enough = many v.lists c.args.spot.list c.requires.list c.requires.balanced c.requires.full
    (omega (arith, c.len_before.ensures.len, c.if-len_before-lt-HALF.false)) (omega (arith, c.len_from.ensures.len, c.if-len_from-lt-HALF.false)) in
    c.split.ensures.room ∙ ap (λ (u : LeavesView g.row.T.Denot). u.room) c.in_ok-try_reserve.ensures.reserved
    ∙ needs-same v c.prove_bounds.ensures.within (length (joined v.lists)) enough (needs-room v c.prove_bounds.ensures.within (length (joined v.lists)) enough less)

pub returns-clause-grown : goal.returns-clause-grown
returns-clause-grown g c =
    let v = c.args.leaves.now in
    let enough = many v.lists c.args.spot.list c.requires.list c.requires.balanced c.requires.full
    (omega (arith, c.len_before.ensures.len, c.if-len_before-lt-HALF.false)) (omega (arith, c.len_from.ensures.len, c.if-len_from-lt-HALF.false)) in
    needs-either v c.prove_bounds.ensures.within (length (joined v.lists)) enough (at-most v.lists c.prove_bounds.ensures.lists) _ (c.split.ensures.room ∙ ap (λ (u : LeavesView g.row.T.Denot). u.room) c.in_ok-try_reserve.ensures.reserved)
