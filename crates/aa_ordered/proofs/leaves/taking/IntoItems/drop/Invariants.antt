use Rattle.aa_ordered.specs.Taking.{AreParts}
use Rattle.aa_ordered.proofs.leaves.taking.IntoItems.drop.Given as goal

-- the remaining items are in their places
abbrev pub invariant-each : goal.invariant-each
invariant-each g l = AreParts l.block.places l.front l.heads.items l.back
