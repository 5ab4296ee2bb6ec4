use Rattle.aa_gap.proofs.{ap, inl}
use Rattle.aa_gap.proofs.Extending.{whole_run}
use Rattle.aa_gap.proofs.gap_buffer.GapBuffer.extend.Goals as goal

pub returns-in-Err-clause-failed : goal.returns-in-Err-clause-failed
returns-in-Err-clause-failed g c =
    let made = c.into_iter-items in let bound = c.size_hint-bound in (
      made.result,
      made.ensures.into_iter_gives,
      record {
        bound = bound.result.0;
        is_lower = bound.ensures.lower;
        why = inl (c.in-Err.ensures.error, c.in-Err.ensures.unchanged);
      },
    )

pub returns-clause-runs : goal.returns-clause-runs
returns-clause-runs g c =
    let it = g.I.IntoIter.Iterator in let made = c.into_iter-items in
    whole_run it.next_gives (g.I.IntoIterator.into_iter_gives c.args.iter) c.insert_items.result
    made.result c.args.self.now.before c.reserve.new.self.before c.insert_items.new.self.before
    _ _
    made.ensures.into_iter_gives (ap (λ b. b.before) c.in_default.ensures.reserved)
    c.insert_items.ensures.items
