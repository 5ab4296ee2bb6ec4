use Rattle.std.proofs.Common.{ap, inl}
use Rattle.std.specs.Mem.{type_size}
use denote.Param.{param}
use Rattle.aa_ring.proofs.Extending.{whole_run}
use Rattle.aa_ring.proofs.ring.Ring.extend.Goals as goal

pub returns-in-Err-clause-failed : goal.returns-in-Err-clause-failed
returns-in-Err-clause-failed g c =
    let it = c.into_iter-items in (
      it.result,
      it.ensures.into_iter_gives,
      record {
        bound = c.size_hint-bound.result.0;
        is_lower = c.size_hint-bound.ensures.lower;
        why = inl (c.in-Err.ensures.error, c.in-Err.ensures.unchanged);
      },
    )

pub returns-clause-runs : goal.returns-clause-runs
returns-clause-runs g c =
    let made = c.into_iter-items in
    whole_run (type_size (param 0 g.row.T)) g.I.IntoIter.Iterator.next_gives
    (g.I.IntoIterator.into_iter_gives c.args.iter) c.push_items.result made.result
    c.args.self.now c.reserve.new.self c.push_items.new.self made.ensures.into_iter_gives
    (ap (λ r. r.items) c.in_default.ensures.reserved) c.push_items.ensures.put
