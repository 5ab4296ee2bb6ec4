use Rattle.aa_slots.proofs.Common.{Slotted, ap, find, is_some, rules, seen, slot_at, sym, true, value_under, ◌∙◌, ◌≡◌}
use Rattle.aa_slots.proofs.Seen.{has-key}
use Rattle.aa_slots.specs.Inside.{states_of}
use Rattle.std.proofs.Common.{Some}
use Rattle.aa_slots.proofs.map.SlotMap.get.Goals as goal

pub place-requires : goal.place-requires
place-requires g c =
    let m = c.self.inside in
    let found : is_some (value_under c.data-key.result.serial (slot_at (seen (states_of m.slots) m.values.places) c.data-key.result.index)) ≡ true = search rules in
    ap is_some (has-key _ _ c.data-key.result.index c.data-key.result.serial found).here

pub returns-then-holds : goal.returns-then-holds
returns-then-holds g c =
    let m = c.self.inside in
    let found : is_some (value_under c.data-key.result.serial (slot_at (seen (states_of m.slots) m.values.places) c.data-key.result.index)) ≡ true = search rules in
    let k = has-key _ _ c.data-key.result.index c.data-key.result.serial found in
    let same : Some c.place.result.now ≡ Some k.entry = sym c.place.ensures ∙ k.here in
    let value : Some c.place.result.now.1 ≡ Some k.entry.1 = cc in
    value ∙ sym k.finds ∙ ap (λ (m : Slotted _). find m c.data-key.result) c.self.view_is
    ∙ ap (λ k. find c.args.self.now k) c.data-key.ensures
