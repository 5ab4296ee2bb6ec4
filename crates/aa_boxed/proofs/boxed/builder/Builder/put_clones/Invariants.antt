use Rattle.aa_boxed.proofs.{AllZip, take, ◌≡◌}
use Rattle.aa_boxed.proofs.boxed.builder.Builder.put_clones.Given as goal

abbrev pub invariant-each : goal.invariant-each
invariant-each g l = AllZip g.T.Clone.is_clone (take l.i l.source) l.self.items
    × (l.self.capacity ≡ l.fn.self.capacity) × (l.self.growth ≡ l.fn.self.growth)
    × (l.self.grown ≡ l.fn.self.grown) × (l.self.alloc ≡ l.fn.self.alloc)
