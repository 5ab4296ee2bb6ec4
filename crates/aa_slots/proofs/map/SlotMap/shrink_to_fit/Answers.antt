use Rattle.aa_slots.proofs.Common.{Slotted, ap, length, rules, sym, ◌∙◌}
use Rattle.aa_slots.proofs.Seen.{length-seen}
use Rattle.aa_slots.proofs.map.SlotMap.shrink_to_fit.Goals as goal

pub returns-in-Some-clause-shrunk : goal.returns-in-Some-clause-shrunk
returns-in-Some-clause-shrunk g c =
    let same = sym (length-seen _ c.self.inside.values.places) ∙ ap (λ (m : Slotted _). length m.slots) c.self.view_is in
    search rules

pub returns-in-Some-clause-fits : goal.returns-in-Some-clause-fits
returns-in-Some-clause-fits g c =
    let same = sym (length-seen _ c.self.inside.values.places) ∙ ap (λ (m : Slotted _). length m.slots) c.self.view_is in
    search rules

pub returns-in-Some-clause-error : goal.returns-in-Some-clause-error
returns-in-Some-clause-error g c =
    let same = sym (length-seen _ c.self.inside.values.places) ∙ ap (λ (m : Slotted _). length m.slots) c.self.view_is in
    search rules
