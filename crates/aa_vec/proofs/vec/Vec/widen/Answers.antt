use Rattle.aa_vec.proofs.{HasTail, IsFront-raised, OpensGap, OpensGap-view, ap, arith, became, few-raised, fits, gaps, len, length-run, length-take-le, param, refl, rules, subst, there, type_size, view_of, widen_room, within, ◌-◌, ◌≡◌}
use Rattle.aa_vec.proofs.vec.Vec.widen.Goals as goal

pub returns-in_err-try_reserve-clause-failed : goal.returns-in_err-try_reserve-clause-failed
returns-in_err-try_reserve-clause-failed g c = search rules

pub invariant_of-self : goal.invariant_of-self
invariant_of-self g c =
    let v = c.self.inside in let front = c.self.invariant.filled in
    let w = c.try_reserve.new.self in let n = c.args.count in
    let set = rw (← c.self.view_is) at c.set_tail.ensures.tail_set in
    let roomy = c.in_ok-try_reserve.ensures.reserved in
    let here : v.len ≡ c.len.result - n =
    omega (
      arith,
      ap len set.becomes,
      length-take-le (c.len.result - n) w.items
          (omega (arith, c.set_tail.ensures.count)),
      length-run v.block.places 0 v.len front,
    ) in
    let has_tail : HasTail (view_of v) 0 n = subst
    (λ m. HasTail (view_of v) 0 m) {x = len w - (c.len.result - n)} {y = n}
    (omega (arith, c.len.ensures.count, ap len roomy, c.requires)) set.has_tail in
    let room = widen_room (type_size (param 0 g.row.T)) c.args.self.now w
    (view_of v) c.args.gap n c.requires roomy c.len.result c.len.ensures.count set in
    let raised = rw (← here) at c.move_run.ensures in
    rw raised (record {
      filled = IsFront-raised v front c.args.gap n has_tail room;
      few = few-raised v.block.places v.len _ _ c.self.invariant.few 0 n
          (within v front 0 n has_tail) (there v front 0 n has_tail) refl c.args.gap
          (fits v front c.args.gap n has_tail room);
    })

pub returns-clause-widened : goal.returns-clause-widened
returns-clause-widened g c =
    let v = c.self.inside in let front = c.self.invariant.filled in
    let w = c.try_reserve.new.self in let n = c.args.count in
    let set = rw (← c.self.view_is) at c.set_tail.ensures.tail_set in
    let roomy = c.in_ok-try_reserve.ensures.reserved in
    let here : v.len ≡ c.len.result - n =
    omega (
      arith,
      ap len set.becomes,
      length-take-le (c.len.result - n) w.items
          (omega (arith, c.set_tail.ensures.count)),
      length-run v.block.places 0 v.len front,
    ) in
    let has_tail : HasTail (view_of v) 0 n = subst
    (λ m. HasTail (view_of v) 0 m) {x = len w - (c.len.result - n)} {y = n}
    (omega (arith, c.len.ensures.count, ap len roomy, c.requires)) set.has_tail in
    let room = widen_room (type_size (param 0 g.row.T)) c.args.self.now w
    (view_of v) c.args.gap n c.requires roomy c.len.result c.len.ensures.count set in
    let raised = rw (← here) at c.move_run.ensures in
    let opened : OpensGap (view_of v) c.args.gap n
    (view_of (record {
      block = c.move_run.new.self;
      len = v.len;
      apart = v.apart;
      settled = v.settled;
    })) = rw raised (OpensGap-view v front c.args.gap n has_tail room) in
    search (rules, gaps, became, opened, set)
