use Rattle.std.proofs.Common.{◌≡◌}
use Rattle.std.specs.Iterator.{size}
use Rattle.aa_ordered.specs.Iterating.{HasCapacity, InsertsAll}
use Rattle.aa_ordered.proofs.map.OrderedMap.extend.Given as goal

-- the items so far were inserted, and the others fit if all did
abbrev pub invariant-each : goal.invariant-each
invariant-each g l =
    let left = g.U.IntoIter.Iterator.remaining in record {
      inserted : InsertsAll g.K.Ord.cmp l.fn.self l.yielded l.self;
      room : ((it : g.row.U-IntoIter.Denot) → g.U.IntoIterator.into_iter_gives l.fn.iter it → HasCapacity l.fn.self (size (left it)))
          → HasCapacity l.self (size (left l.entry-iterator));
      steady : ((it : g.row.U-IntoIter.Denot) → g.U.IntoIterator.into_iter_gives l.fn.iter it → HasCapacity l.fn.self (size (left it)))
          → (l.self.capacity ≡ l.fn.self.capacity) × (l.self.resizes ≡ l.fn.self.resizes);
    }
