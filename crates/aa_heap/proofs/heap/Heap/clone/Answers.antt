use Rattle.aa_heap.proofs.heap.Heap.clone.Goals as goal

pub returns-in-Ok-clause-made : goal.returns-in-Ok-clause-made
returns-in-Ok-clause-made g c = rw (← c.self.view_is)
    (c.in-Ok.copy, c.in-Ok.ensures.made, c.from_vec.ensures.reordered)
