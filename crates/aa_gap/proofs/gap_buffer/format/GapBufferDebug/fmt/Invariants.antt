use Rattle.aa_gap.proofs.{text}
use Rattle.aa_gap.proofs.Printing.{Continues}
use Rattle.aa_gap.proofs.gap_buffer.format.GapBufferDebug.fmt.Given as goal

-- the elements so far are written
abbrev pub invariant-each : goal.invariant-each
invariant-each g l =
    Continues g.W.Write.write_str_gives g.T.Debug.debug_output l.fn.f
    (text l.fn.self) l.f l.item-iterator
