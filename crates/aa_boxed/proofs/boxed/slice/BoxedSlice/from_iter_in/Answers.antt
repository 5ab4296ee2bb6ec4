use Rattle.aa_boxed.proofs.boxed.slice.BoxedSlice.from_iter_in.Goals as goal

pub returns-clause-collected : goal.returns-clause-collected
returns-clause-collected g c =
    let by = c.from_iter_in_by.ensures in (
      c.into_iter-rest.result,
      c.from_iter_in_by.new.iter,
      c.into_iter-rest.ensures.into_iter_gives,
      record {
        items = by.collected;
        runs = by.runs;
        growth = by.growth;
        grown = by.grown;
        alloc = by.alloc;
        error = by.failed;
      },
    )
