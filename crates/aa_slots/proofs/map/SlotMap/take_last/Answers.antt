use Rattle.aa_slots.proofs.Common.{refl, slot_at}
use Rattle.aa_slots.proofs.Draining.{last-taken, none-within}
use Rattle.aa_slots.proofs.Retaining.{under-some}
use Rattle.aa_slots.proofs.map.SlotMap.take_last.Goals as goal

pub returns-in_err-key-clause-removed : goal.returns-in_err-key-clause-removed
returns-in_err-key-clause-removed g c =
    rw c.from_residual.ensures
    (none-within c.args.self.now.slots c.args.at c.args.end.now c.requires c.in_err-key.ensures.none, refl)

pub returns-clause-taken : goal.returns-clause-taken
returns-clause-taken g c =
    let slots = c.args.self.now.slots in let key = c.in_ok-key.key in
    let there = under-some (slot_at slots key.index) key.serial c.take.result c.take.ensures.value in
    rw (c.take.ensures.removed, c.from.ensures)
    (last-taken slots c.args.at c.args.end.now c.requires key c.take.result there c.in_ok-key.ensures.last)
