use Rattle.allocator_api2.proofs.Printing.{Continues}
use Rattle.aa_ring.proofs.ring.format.RingDebug.fmt.Given as goal

-- the items so far are written
abbrev pub invariant-each : goal.invariant-each
invariant-each g l =
    Continues g.W.Write.write_str_gives g.T.Debug.debug_output l.fn.f l.fn.self.items l.f l.item-iterator
