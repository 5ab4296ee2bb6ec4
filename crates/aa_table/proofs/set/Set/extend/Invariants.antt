use Rattle.std.proofs.Common.{◌≡◌}
use Rattle.std.specs.Iterator.{size}
use Rattle.aa_table.specs.SetContents.{InsertsElements, SetHasRoom}
use Rattle.aa_table.proofs.set.Set.extend.Given as goal

-- the items so far were inserted, and the others fit if all did
abbrev pub invariant-each : goal.invariant-each
invariant-each g l =
    let left = g.U.IntoIter.Iterator.remaining in record {
      inserted : InsertsElements g.T.PartialEq.eq l.fn.self l.yielded l.self;
      room : ((it : g.row.U-IntoIter.Denot) → g.U.IntoIterator.into_iter_gives l.fn.iter it → SetHasRoom l.fn.self (size (left it))) → SetHasRoom l.self (size (left l.value-iterator));
      steady : ((it : g.row.U-IntoIter.Denot) → g.U.IntoIterator.into_iter_gives l.fn.iter it → SetHasRoom l.fn.self (size (left it))) → (l.self.capacity ≡ l.fn.self.capacity) × (l.self.resizes ≡ l.fn.self.resizes);
    }
