use Rattle.aa_vec.proofs.{Placing-end, Placing-fails, Placing-filled, Placing-full, Placing-grown, Placing-misfits, Placing-start, Vector, [], ap, arith, err_from_is_err_and, len, length, length-append, refl, ◌<◌, ◌∷◌}
use Rattle.aa_vec.proofs.vec.Vec.extend_with_bound.Goals as goal

pub full-init : goal.full-init
full-init g c = record {
  can = c.requires.callable;
  finite = c.requires.finite;
  placing =
      Placing-start _ _ _ _ _ (g.W.LowerBound.some _)
      (omega (arith, c.prove_capacity_bounds.ensures.within));
  fewer = omega arith;
}

pub full-preserved : goal.full-preserved
full-preserved g c =
    let i = c.full.invariant in let gone = c.fill_up.ensures.advanced c.if-fill_up-ne0.false in
    let on = c.in-Some.ensures.goes.on gone.1 in
    let p = Placing-full _ _ _ _ _ c.full.iter c.full.self i.placing g.W.LowerBound.some _ _ _
    c.if-fill_up-ne0.false c.fill_up.ensures.filled in
    let r = c.in_ok-try_reserve.ensures in let put = c.put_next.ensures.put in
    let placing =
    Placing-grown _ _ _ _ _ _ _ p.0 p.1 c.in-Some.x _ c.in-Some.ensures.steps c.lower_bound.result
    c.lower_bound.ensures c.saturating_add.result c.saturating_add.ensures
    c.try_reserve.new.self c.put_next.new.self r.reserved put in
    search (
      arith,
      on,
      placing,
      i.fewer,
      gone.2,
      p.2,
      i.placing.fits,
      ap (λ (v : Vector _ _). len v) put,
      length-append c.try_reserve.new.self.items
          (c.in-Some.x ∷ []),
      ap (λ (v : Vector _ _). len v) r.reserved,
    )

pub returns-in_err-try_reserve : goal.returns-in_err-try_reserve
returns-in_err-try_reserve g c =
    let i = c.full.invariant in let gone = c.fill_up.ensures.advanced c.if-fill_up-ne0.false in
    let on = c.in-Some.ensures.goes.on gone.1 in
    let p = Placing-full _ _ _ _ _ c.full.iter c.full.self i.placing g.W.LowerBound.some _ _ _
    c.if-fill_up-ne0.false c.fill_up.ensures.filled in
    let r = c.in_err-try_reserve.ensures in
    let e = err_from_is_err_and c.from_residual.result c.from_residual.ensures.1 in
    let x = Placing-fails _ _ _ _ _ _ _ p.0 p.1 c.in-Some.x _ c.in-Some.ensures.steps
    c.lower_bound.result c.lower_bound.ensures c.saturating_add.result c.saturating_add.ensures
    _ r.error in
    let misfits = Placing-misfits _ _ _ _ _ _ _ p.0 p.1 c.in-Some.x _ c.in-Some.ensures.steps
    c.lower_bound.result c.lower_bound.ensures _
    (omega (arith, on.2, i.fewer, gone.2, p.2, i.placing.fits)) in
    rw (e.1, e.2, r.unchanged)
    (record {
      fits = λ h. absurd (misfits h);
      extended = x;
      advanced = (
        on.0,
        on.1,
        omega (
          arith,
          on.2,
          i.fewer,
          gone.2,
          ap length i.placing.items,
          length-append c.args.self.now.items i.placing.front,
        ),
      );
    })

pub returns-in_default : goal.returns-in_default
returns-in_default g c =
    let p = Placing-full _ _ _ _ _ c.full.iter c.full.self c.full.invariant.placing
    g.W.LowerBound.some _ _ _ c.if-fill_up-ne0.false c.fill_up.ensures.filled in
    let x = Placing-end _ _ _ _ _ _ _ p.0 _ c.in_default.ensures.steps in
    record { fits = λ _. refl; extended = x; advanced = tt }

pub returns-then-fill_up-ne0 : goal.returns-then-fill_up-ne0
returns-then-fill_up-ne0 g c =
    let some : 0 < c.fill_up.result = omega (arith, c.if-fill_up-ne0.true) in
    let f = c.fill_up.ensures.filled in
    let p = Placing-filled _ _ _ _ _ c.full.iter c.full.self c.full.invariant.placing
    g.W.LowerBound.some _ _ _ f.placed in
    let x = Placing-end _ _ _ _ _ _ _ p _ (f.stops.ended some) in
    record { fits = λ _. refl; extended = x; advanced = tt }
