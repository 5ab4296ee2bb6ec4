use Rattle.aa_slots.proofs.Common.{Slotted, ap, length, sym, ◌∙◌}
use Rattle.aa_slots.proofs.Seen.{length-seen}
use Rattle.aa_slots.proofs.map.SlotMap.slot_count.Goals as goal

pub returns : goal.returns
returns g c =
    ap length c.slots_in.ensures ∙ sym (length-seen _ c.self.inside.values.places)
    ∙ ap (λ (m : Slotted _). length m.slots) c.self.view_is
