use Rattle.aa_heap.proofs.heap.Heap.retain.Goals as goal

pub returns-clause-retained : goal.returns-clause-retained
returns-clause-retained g c =
    let kept = c.retain.ensures.retained in rw (← c.self.view_is)
    (kept.0, c.retain.new.self, kept.1, c.build.ensures.reordered)
