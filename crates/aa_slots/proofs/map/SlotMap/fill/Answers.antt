use Rattle.std.proofs.Common.{ap, arith, sym, ◌∙◌, ◌≡◌, ◌++◌}
use Rattle.std.specs.Option.{option_copied_mut}
use Rattle.aa_slots.specs.Passing.{before, cursor_map, remaining}
use Rattle.aa_slots.specs.Slotted.{entries}
use Rattle.aa_slots.proofs.Passing.{filled, filled-all, filled-next}
use Rattle.aa_slots.proofs.map.SlotMap.fill.Goals as goal

pub each-preserved : goal.each-preserved
each-preserved g c =
    let w = c.args.value in let at = c.each.values in let h = c.each.invariant in
    let n = c.in-Some.ensures in (
      h.0,
      n.entries w,
      (λ i. n.before w i ++ filled w (n.remaining w i))
          ∙ filled-next w (before at) (remaining at) c.in-Some.old.now n.value ∙ h.2,
      h.3,
      h.4,
      h.5,
      h.6,
    )

pub returns-clause-entries : goal.returns-clause-entries
returns-clause-entries g c =
    let w = c.args.value in let at = c.each.values in let h = c.each.invariant in
    let none = sym (ap option_copied_mut c.in_default.is) ∙ c.next.ensures.value in
    let all : entries (cursor_map at) ≡ filled w (entries c.args.self.now) =
    h.1 ∙ filled-all w (before at) (remaining at) none ∙ h.2
    ∙ ap (λ m. filled w (entries m)) c.cursor_mut-values.ensures.unchanged in
    grind (arith, all)
