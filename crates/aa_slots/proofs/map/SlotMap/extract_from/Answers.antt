use Rattle.std.proofs.Common.{Some, ap, length-set, of_calls, refl, set-set, sym, ◌∙◌, ◌≡◌}
use Rattle.std.specs.Prelude.{None, slice_set}
use Rattle.aa_slots.specs.declared.key.Key.{Key}
use Rattle.aa_slots.specs.Slotted.{Slotted, find, slot_at, value_under, with_value}
use Rattle.aa_slots.proofs.Extracting.{counted-next, found-none, found-some, kept-some, passes-more}
use Rattle.aa_slots.proofs.Passing.{is-found}
use Rattle.aa_slots.proofs.Retaining.{found-written, may-return}
use Rattle.aa_slots.proofs.map.SlotMap.extract_from.Goals as goal

pub index_mut-requires : goal.index_mut-requires
index_mut-requires g c =
    rw c.from-in-Some.ensures (is-found c.each.self.slots c.each.at c.in-Some.key c.in-Some.ensures.first)

pub returns-then-f-clause-counted : goal.returns-then-f-clause-counted
returns-then-f-clause-counted g c =
    let key = c.in-Some.key in let slots = c.each.self.slots in
    let now : c.take.new.self.slots ≡ slice_set slots key.index None =
    rw (c.take.ensures.removed, c.from-in-Some.ensures, set-set) refl in
    rw now (counted-next slots c.each.at key c.in-Some.ensures.first None c.each.left c.each.invariant.counted)

pub returns-then-f-clause-extracted : goal.returns-then-f-clause-extracted
returns-then-f-clause-extracted g c =
    let at = c.each in let key = c.in-Some.key in let slots = at.self.slots in let inv = at.invariant.passes in
    let value = c.index_mut.result in let left = c.f.new.arg3 in let found = c.in-Some.ensures.first in
    let from = ap (λ (k : Key _). k.parts) c.from-in-Some.ensures in
    let is : value_under key.serial (slot_at slots key.index) ≡ Some value.now =
    sym (ap (λ k. find at.self k) from) ∙ c.index_mut.ensures.value in
    let call = rw c.if-f.true at (may-return (goal.F-step g) at.f key value c.f.result _ c.f.new.self
    (rw c.from.ensures at c.f.ensures)) in
    let now : c.take.new.self.slots ≡ slice_set slots key.index None =
    rw (c.take.ensures.removed, c.from-in-Some.ensures, set-set) refl in
    let both : Some c.take.result ≡ Some left =
    sym c.take.ensures.value ∙ ap (λ k. find (with_value at.self k left) key) from
    ∙ found-written at.self key value.now left is in
    let same : c.take.result ≡ left = cc in
    rw (now, same, c.from-then-f.ensures) (
      inv.kept,
      found-some (goal.F-step g) _ _ _ slots at.at at.f inv key value.now left c.f.new.self found is call,
      kept-some (goal.F-step g) _ _ _ slots at.at at.f inv key value.now left c.f.new.self found is,
    )

pub each-preserved : goal.each-preserved
each-preserved g c =
    let at = c.each in let key = c.in-Some.key in let slots = at.self.slots in let inv = at.invariant in
    let value = c.index_mut.result in let left = c.f.new.arg3 in let found = c.in-Some.ensures.first in
    let from = ap (λ (k : Key _). k.parts) c.from-in-Some.ensures in
    let is : value_under key.serial (slot_at slots key.index) ≡ Some value.now =
    sym (ap (λ k. find at.self k) from) ∙ c.index_mut.ensures.value in
    let call = rw c.if-f.false at (may-return (goal.F-step g) at.f key value c.f.result _ c.f.new.self
    (rw c.from.ensures at c.f.ensures)) in
    rw c.from-in-Some.ensures (record {
      callable = search of_calls;
      counted = counted-next slots at.at key found (Some (key.serial, left)) at.left inv.counted;
      passes =
          passes-more (goal.F-step g) _ _ _ slots at.at at.f inv.passes key value.now left c.f.new.self
          found is call;
      slots = length-set slots key.index (Some (key.serial, left)) ∙ inv.slots;
      others =
          ap (λ (m : Slotted _). record m { slots = slice_set slots key.index (Some (key.serial, left)) })
          inv.others;
    })

pub returns-clause-extracted : goal.returns-clause-extracted
returns-clause-extracted g c =
    let at = c.each in let inv = at.invariant.passes in
    let none = sym c.in_default.is ∙ c.key_from.ensures.first in (
      inv.kept,
      found-none (goal.F-step g) _ _ _ at.self.slots at.at at.f inv none,
      inv.are_kept,
    )
