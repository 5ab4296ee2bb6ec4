use Rattle.std.proofs.Common.{◌≡◌, drop}
use Rattle.vecbench.specs.Sums.{checksum_from}
use Rattle.vecbench.proofs.checksum.checksum_from.Given as goal

abbrev pub invariant-each : goal.invariant-each
invariant-each g l = checksum_from g.E.Element.number_of l.fn.sum l.fn.elements ≡ checksum_from g.E.Element.number_of l.sum (drop l.element-index l.fn.elements)
