use Rattle.aa_gap.proofs.{ap}
use Rattle.aa_gap.proofs.Walking.{runs-taken, runs-taken_back}
use Rattle.aa_gap.proofs.gap_buffer.iter.GapBufferIntoIterator.into_iter.Goals as goal

pub returns : goal.returns
returns g c = record
    { into_iter_gives = (ap (λ i. i.items) c.into_iter.ensures, runs-taken, runs-taken_back) }
