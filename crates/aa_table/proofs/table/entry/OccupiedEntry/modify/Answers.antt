use Rattle.std.proofs.Common.{refl, subst, sym, ◌≡◌}
use Rattle.std.specs.Map.Calls.{MayWrite, ModifiesValue}
use Rattle.aa_table.proofs.Entries.{still-there, value-set}
use Rattle.aa_table.proofs.table.entry.OccupiedEntry.modify.Goals as goal

at_both : {X : Type 0} (P : X → X → Type 0) (p q a b : X) → p ≡ a → q ≡ b → P a b → P p q
at_both P p q a b x y h = subst (λ r. P r q) (sym x) (subst (P a) (sym y) h)

pub invariant_of-self : goal.invariant_of-self
invariant_of-self g c = record {
  present = still-there g.K.PartialEq.eq c.args.self.now.table.now.entries c.args.self.now.key c.f.new.arg2 c.args.self.now.present;
}

pub returns-clause-called : goal.returns-clause-called
returns-clause-called g c =
    let u = c.f.new.arg2 in let o = c.args.self.now in
    let did : MayWrite g.F.FnOnce c.args.f c.stored_mut.result.now u
    = record { lent = c.stored_mut.result; result = c.f.result; left = _; before = refl; met = c.f.ensures; after = refl } in
    at_both (ModifiesValue g.F.FnOnce c.args.f) _ _ _ _ c.stored_mut.ensures.value (value-set g.K.PartialEq.eq o.table.now.entries o.key u o.present) did
