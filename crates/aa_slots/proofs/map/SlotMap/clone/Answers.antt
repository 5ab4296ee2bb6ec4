use Rattle.aa_slots.proofs.Common.{Slotted, ap, length, refl, rules, sym, ◌∙◌, ◌≡◌}
use Rattle.aa_slots.proofs.Cloning.{each-cloned, same-cloned, sound-cloned}
use Rattle.aa_slots.proofs.Seen.{length-seen, none-seen}
use Rattle.aa_slots.specs.Inside.{states_of}
use Rattle.aa_slots.specs.Slotted.{fresh_resizes}
use Rattle.aa_slots.proofs.map.SlotMap.clone.Goals as goal

pub returns-in_err-slots-clause-fits : goal.returns-in_err-slots-clause-fits
returns-in_err-slots-clause-fits g c = λ h e.
    let none = none-seen _ c.self.inside.values.places (ap (λ (m : Slotted _). m.slots) c.self.view_is ∙ e) in
    let made = c.clone_slots.ensures.fits h none in absurd (let bad = rw c.in_err-slots.was at made in cc)

pub returns-in_err-slots-clause-error : goal.returns-in_err-slots-clause-error
returns-in_err-slots-clause-error g c =
    let long : length (states_of c.self.inside.slots) ≡ length c.args.self.now.slots =
    sym (length-seen _ c.self.inside.values.places) ∙ ap (λ (m : Slotted _). length m.slots) c.self.view_is in
    search rules

pub returns-in_err-values-clause-fits : goal.returns-in_err-values-clause-fits
returns-in_err-values-clause-fits g c = λ h e.
    let none = none-seen _ c.self.inside.values.places (ap (λ (m : Slotted _). m.slots) c.self.view_is ∙ e) in
    let made = c.clone_values.ensures.fits h (c.slots_in-all.ensures ∙ none) in absurd (let bad = rw c.in_err-values.was at made in cc)

pub returns-in_err-values-clause-error : goal.returns-in_err-values-clause-error
returns-in_err-values-clause-error g c =
    let long : length (states_of c.self.inside.slots) ≡ length c.args.self.now.slots =
    sym (length-seen _ c.self.inside.values.places) ∙ ap (λ (m : Slotted _). length m.slots) c.self.view_is in
    search rules

pub returns-clause-copied : goal.returns-clause-copied
returns-clause-copied g c = λ equal.
    let made = rw c.slots_in-all.ensures at c.in_ok-values.ensures.made in
    rw c.in_ok-slots.ensures.slots (same-cloned equal _ _ _ made)
    ∙ ap (λ (m : Slotted _). m.slots) c.self.view_is

pub invariant_of-result : goal.invariant_of-result
invariant_of-result g c =
    let made = rw c.slots_in-all.ensures at c.in_ok-values.ensures.made in
    let room = rw c.slots_in-all.ensures at c.in_ok-values.ensures.room in (
      rw (c.in_ok-slots.ensures.slots, c.in_ok-slots.ensures.capacity) (sound-cloned _ _ _ _ _ c.self.invariant.0 made room),
      record {
        moved = search rules;
        each = search rules;
        once = search rules;
        policy = rw c.in_ok-values.ensures.growth (c.in_ok-slots.ensures.growth _ c.self.invariant.1.policy);
      },
    )

pub returns-clause-made : goal.returns-clause-made
returns-clause-made g c =
    let made = rw c.slots_in-all.ensures at c.in_ok-values.ensures.made in
    rw (← c.self.view_is) (record {
      each = rw c.in_ok-slots.ensures.slots (each-cloned _ _ _ made);
      capacity = c.in_ok-slots.ensures.capacity ∙ sym (length-seen _ c.self.inside.values.places);
      growth = c.in_ok-values.ensures.growth;
      resizes = c.in_ok-slots.ensures.blocks ∙ ap fresh_resizes (sym (length-seen _ c.self.inside.values.places));
      issued = refl;
    })
