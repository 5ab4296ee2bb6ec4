use Rattle.std.proofs.Common.{◌≡◌, map}
use Rattle.std.specs.Iterator.{size}
use Rattle.aa_table.specs.SetContents.{InsertsElements, SetHasRoom}
use Rattle.aa_table.proofs.set.extend.SetExtendRef.extend.Given as goal

-- copies of the items so far were inserted, and the others fit if all did
abbrev pub invariant-each : goal.invariant-each
invariant-each g l =
    let left = g.U.IntoIter.Iterator.remaining in
    record {
      inserted : InsertsElements g.T.PartialEq.eq l.fn.self (map (λ x. x.now) l.yielded) l.self;
      room : ((it : _) → g.U.IntoIterator.into_iter_gives l.fn.iter it
          → SetHasRoom l.fn.self (size (left it))) → SetHasRoom l.self (size (left l.value-iterator));
      steady : ((it : _) → g.U.IntoIterator.into_iter_gives l.fn.iter it
          → SetHasRoom l.fn.self (size (left it)))
          → (l.self.capacity ≡ l.fn.self.capacity) × (l.self.resizes ≡ l.fn.self.resizes);
    }
