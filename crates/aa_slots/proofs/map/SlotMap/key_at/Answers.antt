use Rattle.aa_slots.proofs.Common.{Slotted, ap, slot_at, sym, ◌∙◌}
use Rattle.std.specs.Option.{option_map}
use Rattle.aa_slots.proofs.Seen.{none-serial, some-serial}
use Rattle.aa_slots.specs.Inside.{serial_in, state_at}
use Rattle.aa_slots.proofs.map.SlotMap.key_at.Goals as goal

pub returns-in_err-serial : goal.returns-in_err-serial
returns-in_err-serial g c =
    let is = sym c.in_err-serial.was ∙ c.serial_at.ensures ∙ ap (λ ss. serial_in (state_at ss c.args.index)) c.slots_in.ensures in
    c.from_residual.ensures
    ∙ sym (ap (option_map (λ e. record { index = c.args.index; serial = e.0 })) (none-serial _ c.self.inside.values.places c.args.index is))
    ∙ ap (λ (m : Slotted _). option_map (λ e. record { index = c.args.index; serial = e.0 }) (slot_at m.slots c.args.index)) c.self.view_is

pub returns : goal.returns
returns g c =
    let is = sym c.in_ok-serial.was ∙ c.serial_at.ensures ∙ ap (λ ss. serial_in (state_at ss c.args.index)) c.slots_in.ensures in
    let at = some-serial _ c.self.inside.values.places c.self.invariant.0.held c.args.index c.in_ok-serial.serial is in
    sym (ap (option_map (λ e. record { index = c.args.index; serial = e.0 })) at.1)
    ∙ ap (λ (m : Slotted _). option_map (λ e. record { index = c.args.index; serial = e.0 }) (slot_at m.slots c.args.index)) c.self.view_is
