use Rattle.aa_slots.proofs.Common.{Slotted, ap, find, is_some, state_at, ◌∙◌}
use Rattle.aa_slots.proofs.Seen.{found-by}
use Rattle.aa_slots.specs.Inside.{is_held_by}
use Rattle.aa_slots.proofs.map.SlotMap.holds.Goals as goal

pub returns : goal.returns
returns g c =
    let key = c.args.key in
    c.is_held_at.ensures
    ∙ ap (λ ss. is_held_by key.serial (state_at ss key.index)) c.slots_in.ensures
    ∙ found-by _ _ c.self.invariant.0.held key.index key.serial
    ∙ ap (λ (m : Slotted _). is_some (find m key)) c.self.view_is
