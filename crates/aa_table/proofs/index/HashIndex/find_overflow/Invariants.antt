use Rattle.aa_table.proofs.Finding.{Misses}
use Rattle.aa_table.proofs.index.HashIndex.find_overflow.Given as goal

-- the groups before lack the key
abbrev pub invariant-each : goal.invariant-each
invariant-each g l = Misses (g.Q.Lookup.matches l.key) l.self.tags.items l.self.overflows.items l.places.places l.hash l.before
