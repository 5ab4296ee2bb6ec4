use Rattle.std.proofs.Common.{refl}
use Rattle.aa_slots.proofs.Extracting.{pairs-whole}
use Rattle.aa_slots.proofs.map.extract_if.ExtractBy.next_by.Goals as goal

pub returns-clause-extracted : goal.returns-clause-extracted
returns-clause-extracted g c =
    let e = c.extract_from.ensures in let new = c.extract_from.new in
    record {
      passed = e.extracted.0;
      first = e.extracted.1;
      kept = e.extracted.2;
      others =
          record { lender = refl; slots = e.slots; others = e.others; all = pairs-whole new.self.slots new.at };
    }
