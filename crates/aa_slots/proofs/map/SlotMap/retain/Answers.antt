use Rattle.std.proofs.Common.{None, Some, ap, arith, cond, of_calls, refl, set-set, sym, ◌∙◌, ◌≡◌}
use Rattle.std.specs.Prelude.{slice_set}
use Rattle.aa_slots.specs.declared.key.Key.{Key}
use Rattle.aa_slots.specs.Slotted.{find, slot_at}
use Rattle.aa_slots.proofs.Retaining.{called-slot, may-return, pairs-kept, passed-all, passed-called}
use Rattle.aa_slots.proofs.map.SlotMap.retain.Goals.{then-not-f, else-not-f}
use Rattle.aa_slots.proofs.map.SlotMap.retain.Goals as goal

pub each-preserved : goal.each-preserved
each-preserved g c =
    let at = c.each in let slots = at.self.slots in let inv = at.invariant in
    let key = c.in-Some.key in let left = c.f.new.arg3 in
    let value = c.index_mut.result in let keyed = sym c.key_at.ensures ∙ c.in-Some.is in
    let here = called-slot slots at.index key value.now (slot_at slots at.index) refl keyed (sym (ap (λ (k : Key _). find at.self k.parts) c.from-in-each.ensures) ∙ c.index_mut.ensures.value) in
    let written : c.if-not-f.self
    ≡ record at.self {
      slots = slice_set slots key.index (cond c.f.result (Some (key.serial, left)) None);
    } =
    elim c.if-not-f.branch [
      | then-not-f w ↦ rw (w.self-is, w.if-not-f.true, w.discard.ensures, c.from-in-each.ensures, set-set) refl
      | else-not-f w ↦ rw (w.self-is, w.if-not-f.false, c.from-in-each.ensures) refl
    ] in
    let call = may-return (goal.F-step g) at.f key value c.f.result _ c.f.new.self (rw c.from.ensures at c.f.ensures) in (
      search of_calls,
      ap (λ m. m.capacity) written ∙ inv.1,
      ap (λ m. m.growth) written ∙ inv.2,
      ap (λ m. m.resizes) written ∙ inv.3,
      ap (λ m. m.issued) written ∙ inv.4,
      rw written (passed-called _ _ _ _ _ _
          (omega (arith, c.each-test.true, c.slot_count-index-end.ensures, inv.5.0))
          inv.5 key _ left c.f.result c.f.new.self here.0 here.1 call),
    )

pub returns-clause-kept : goal.returns-clause-kept
returns-clause-kept g c = (
  c.each.f,
  pairs-kept (goal.F-step g) _ 0 _ _ _ (passed-all (goal.F-step g) _ _ _ _ _
      (omega (arith, c.each-test.false, c.slot_count-index-end.ensures)) c.each.invariant.5),
)

pub returns-clause-slots : goal.returns-clause-slots
returns-clause-slots g c = c.each.invariant.5.0
