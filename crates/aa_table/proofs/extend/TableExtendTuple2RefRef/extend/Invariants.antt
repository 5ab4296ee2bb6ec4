use Rattle.std.proofs.Common.{◌≡◌, map}
use Rattle.std.specs.Iterator.{size}
use Rattle.aa_table.specs.Contents.{HasRoom, InsertsAll}
use Rattle.aa_table.proofs.extend.TableExtendTuple2RefRef.extend.Given as goal

-- copies of the items so far were inserted, and the others fit if all did
abbrev pub invariant-each : goal.invariant-each
invariant-each g l =
    let left = g.U.IntoIter.Iterator.remaining in
    record {
      inserted : InsertsAll g.K.PartialEq.eq l.fn.self
          (map (λ e. (e.0.now, e.1.now)) l.yielded) l.self;
      room : ((it : _) → g.U.IntoIterator.into_iter_gives l.fn.iter it
          → HasRoom l.fn.self (size (left it))) → HasRoom l.self (size (left l.entry-iterator));
      steady : ((it : _) → g.U.IntoIterator.into_iter_gives l.fn.iter it
          → HasRoom l.fn.self (size (left it)))
          → (l.self.capacity ≡ l.fn.self.capacity) × (l.self.resizes ≡ l.fn.self.resizes);
    }
