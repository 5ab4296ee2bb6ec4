use Rattle.std.proofs.Common.{ap, arith, refl, sym}
use Rattle.aa_table.specs.Contents.{TableView}
use Rattle.aa_table.proofs.Moving.{none-left}
use Rattle.aa_table.proofs.Retaining.{still-map}
use Rattle.aa_table.proofs.table.Table.retain_by.Goals as goal

pub invariant_of-self : goal.invariant_of-self
invariant_of-self g c =
    let t = c.self.invariant in let r = c.retain_in.ensures in
    record {
      keys = t.keys;
      once = still-map g.P.Keeper.calls g.K.PartialEq.eq _ _ _ _ r.kept t.once;
      indexed = r.index;
      room = rw r.slots (rw c.in-Some.is at t.room);
      memory = rw (r.slots, r.places) (rw c.in-Some.is at t.memory);
      counted = omega (arith, r.count, t.counted);
      within = omega (arith, t.within);
      small = t.small;
    }

pub returns-in-Some-clause-kept : goal.returns-in-Some-clause-kept
returns-in-Some-clause-kept g c = rw (ap (λ (f : TableView _ _ _). f.entries) (sym c.self.view_is)) c.retain_in.ensures.kept

pub returns-in_default-clause-kept : goal.returns-in_default-clause-kept
returns-in_default-clause-kept g c =
    let none = none-left c.self.inside.places.places (rw c.in_default.is at c.self.invariant.indexed) in
    rw (ap (λ (f : TableView _ _ _). f.entries) (sym c.self.view_is), none) (refl, refl)
