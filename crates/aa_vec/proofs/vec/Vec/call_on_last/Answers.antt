use Rattle.aa_vec.proofs.{Becomes-holds, HasTail, IsRun-set, [], arith, before, drop-rewritten, few-beside, last-item, length-run, length-set, refl, run-rewritten, taken-value, there, view_of, ◌++◌, ◌<◌, ◌∷◌}
use Rattle.aa_vec.proofs.vec.Vec.call_on_last.Goals as goal

pub invariant_of-self : goal.invariant_of-self
invariant_of-self g c =
    let v = c.self.inside in let front = c.self.invariant.filled in
    let asked = rw (← c.self.view_is) at c.requires in
    let some : 0 < v.len = omega (arith, asked.some, length-run v.block.places 0 v.len front) in
    record {
      filled = rw c.pair_with.ensures.left (IsRun-set _ v.len _ _ (IsRun-set _ v.len _ _ front));
      few =
          rw c.pair_with.ensures.left
          (few-beside _ v.len _ _ c.self.invariant.few c.args.gap
          (there v front c.args.gap 1 asked.has_tail) _ _ some);
    }

pub pair_with-requires-clause-callable : goal.pair_with-requires-clause-callable
pair_with-requires-clause-callable g c x y e f =
    let v = c.self.inside in let r = rw (← c.self.view_is) at c.requires in
    let some : 0 < v.len = omega
    (arith, r.some, length-run v.block.places 0 v.len c.self.invariant.filled) in
    r.callable (before v c.self.invariant.filled some c.args.gap r.has_tail) y x
    (last-item v c.self.invariant.filled some c.args.gap r.has_tail y f)
    (taken-value v c.self.invariant.filled c.args.gap r.has_tail x e)

pub returns : goal.returns
returns g c =
    let v = c.self.inside in let r = c.pair_with.ensures in
    let asked = rw (← c.self.view_is) at c.requires in
    let some : 0 < v.len = omega
    (arith, asked.some, length-run v.block.places 0 v.len c.self.invariant.filled) in
    let has_tail : HasTail (view_of v) c.args.gap 1 = asked.has_tail in
    rw (← c.self.view_is, r.left) (record {
      front = before v c.self.invariant.filled some c.args.gap has_tail;
      last = r.second;
      next = r.first;
      last_left = r.second_left;
      next_left = r.first_left;
      had = (
        last-item v c.self.invariant.filled some c.args.gap has_tail r.second r.had.1,
        taken-value v c.self.invariant.filled c.args.gap has_tail r.first r.had.0,
      );
      called = r.called;
      becomes = Becomes-holds (view_of v)
          (before v c.self.invariant.filled some c.args.gap has_tail ++ r.second_left ∷ []) 0 0 _
          (record {
            items = run-rewritten v c.self.invariant.filled some c.args.gap has_tail r.second_left
                r.first_left;
            block = record { capacity = simp length-set; growth = refl; grown = refl; alloc = refl };
          }) (record { written = omega arith; runs = omega arith });
      spare = drop-rewritten v c.self.invariant.filled some c.args.gap has_tail r.second_left
          r.first_left;
    })
