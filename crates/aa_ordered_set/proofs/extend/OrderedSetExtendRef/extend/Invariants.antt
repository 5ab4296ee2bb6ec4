use Rattle.std.proofs.Common.{◌≡◌, map}
use Rattle.std.specs.Iterator.{size}
use Rattle.aa_ordered.specs.Iterating.{HasCapacity}
use Rattle.aa_ordered_set.specs.Sets.{map_of, InsertsElements}
use Rattle.aa_ordered_set.proofs.extend.OrderedSetExtendRef.extend.Given as goal

-- copies of the items so far were inserted, and the others fit if all did
abbrev pub invariant-each : goal.invariant-each
invariant-each g l =
    let left = g.U.IntoIter.Iterator.remaining in
    record {
      inserted : InsertsElements g.T.Ord.cmp l.fn.self (map (λ x. x.now) l.yielded) l.self;
      room : ((it : _) → g.U.IntoIterator.into_iter_gives l.fn.iter it
          → HasCapacity (map_of l.fn.self) (size (left it))) → HasCapacity (map_of l.self) (size (left l.value-iterator));
      steady : ((it : _) → g.U.IntoIterator.into_iter_gives l.fn.iter it
          → HasCapacity (map_of l.fn.self) (size (left it)))
          → (l.self.capacity ≡ l.fn.self.capacity) × (l.self.resizes ≡ l.fn.self.resizes);
    }
