use Rattle.std.proofs.Common.{◌≡◌}
use Rattle.std.specs.Iterator.{size}
use Rattle.aa_ordered.specs.Iterating.{HasCapacity}
use Rattle.aa_ordered_set.specs.Sets.{map_of, InsertsElements}
use Rattle.aa_ordered_set.proofs.set.OrderedSet.extend.Given as goal

-- the items so far were inserted, and the others fit if all did
abbrev pub invariant-each : goal.invariant-each
invariant-each g l =
    let left = g.U.IntoIter.Iterator.remaining in record {
      inserted : InsertsElements g.T.Ord.cmp l.fn.self l.yielded l.self;
      room : ((it : g.row.U-IntoIter.Denot) → g.U.IntoIterator.into_iter_gives l.fn.iter it → HasCapacity (map_of l.fn.self) (size (left it)))
          → HasCapacity (map_of l.self) (size (left l.value-iterator));
      steady : ((it : g.row.U-IntoIter.Denot) → g.U.IntoIterator.into_iter_gives l.fn.iter it → HasCapacity (map_of l.fn.self) (size (left it)))
          → (l.self.capacity ≡ l.fn.self.capacity) × (l.self.resizes ≡ l.fn.self.resizes);
    }
