use Rattle.aa_slots.proofs.Common.{Slotted, ap, find, inl, is_some, length-set, rules, seen, slot_at, sym, true, value_under, with_value, ◌∙◌, ◌≡◌}
use Rattle.aa_slots.proofs.Seen.{has-key, seen-rewritten}
use Rattle.aa_slots.proofs.Writing.{rewritten-sound}
use Rattle.aa_slots.specs.Inside.{blocks_of, capacity_of, states_of}
use Rattle.std.proofs.Common.{Some}
use Rattle.aa_slots.proofs.map.SlotMap.get_mut.Goals as goal

pub place_mut-requires : goal.place_mut-requires
place_mut-requires g c =
    let m = c.self.inside in
    let found : is_some (value_under c.data-key.result.serial (slot_at (seen (states_of m.slots) m.values.places) c.data-key.result.index)) ≡ true = search rules in
    ap is_some (has-key _ _ c.data-key.result.index c.data-key.result.serial found).here

pub invariant_of-self-lent : goal.invariant_of-self-lent
invariant_of-self-lent g c w =
    let m = c.self.inside in
    let found : is_some (value_under c.data-key.result.serial (slot_at (seen (states_of m.slots) m.values.places) c.data-key.result.index)) ≡ true = search rules in (
      rewritten-sound c.self.invariant.0 c.data-key.result.index (ap is_some (has-key _ _ c.data-key.result.index c.data-key.result.serial found).slot) _,
      record { moved = c.self.invariant.1.moved; each = rw (length-set m.values.places c.data-key.result.index _) c.self.invariant.1.each; once = c.self.invariant.1.once; policy = c.self.invariant.1.policy },
    )

pub returns-then-holds : goal.returns-then-holds
returns-then-holds g c =
    let m = c.self.inside in
    let found : is_some (value_under c.data-key.result.serial (slot_at (seen (states_of m.slots) m.values.places) c.data-key.result.index)) ≡ true = search rules in
    let k = has-key _ _ c.data-key.result.index c.data-key.result.serial found in
    let same : Some c.place_mut.result.now ≡ Some k.entry = sym c.place_mut.ensures.value ∙ k.here in
    let value : Some c.place_mut.result.now.1 ≡ Some k.entry.1 = cc in (
      λ i. inl (
        c.self-then-holds-1.given,
        λ w.
            (ap (λ ss. record { slots = ss; capacity = capacity_of m.slots; growth = m.values.growth; resizes = blocks_of m.slots; issued = m.issued }) (seen-rewritten (states_of m.slots) m.values.places c.data-key.result.index c.data-key.result.serial k.entry (k.entry.0, w) k.is k.here)
            ∙ ap (λ (n : Slotted _). with_value n c.data-key.result w) c.self.view_is
            ∙ ap (λ k. with_value c.args.self.now k w) c.data-key.ensures) i,
      ),
      record { writes_back = tt; value = value ∙ sym k.finds ∙ ap (λ (n : Slotted _). find n c.data-key.result) c.self.view_is ∙ ap (λ k. find c.args.self.now k) c.data-key.ensures },
    )
