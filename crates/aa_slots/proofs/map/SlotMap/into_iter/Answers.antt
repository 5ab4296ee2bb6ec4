use Rattle.aa_slots.proofs.Common.{Slotted, ap, count, length, seen, ◌∙◌}
use Rattle.aa_slots.proofs.Finds.{length-entries}
use Rattle.aa_slots.specs.Inside.{states_of}
use Rattle.aa_slots.proofs.map.SlotMap.into_iter.Goals as goal

pub returns-clause-count : goal.returns-clause-count
returns-clause-count g c =
    ap length c.over.ensures ∙ length-entries 0 (seen (states_of c.self.inside.slots) c.self.inside.values.places)
    ∙ ap (λ (m : Slotted _). count m.slots) c.self.view_is
