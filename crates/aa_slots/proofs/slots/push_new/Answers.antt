use Rattle.aa_slots.proofs.Common.{ap}
use Rattle.aa_slots.proofs.Writing.{pushed-puts, pushed-sound}
use Rattle.allocator_api2.specs.Block.{Block}
use Rattle.aa_slots.proofs.slots.push_new.Goals as goal

pub returns-clause-sound : goal.returns-clause-sound
returns-clause-sound g c =
    rw (c.in-Ok.ensures.pushed, ap (λ (b : Block _ _). b.places) c.put.ensures, c.len-at.ensures.count, c.held.ensures) (pushed-sound c.requires.sound c.requires.none c.requires.room c.args.serial c.args.value)

pub returns-clause-put : goal.returns-clause-put
returns-clause-put g c =
    rw (c.in-Ok.ensures.pushed, ap (λ (b : Block _ _). b.places) c.put.ensures, c.len-at.ensures.count, c.held.ensures) (pushed-puts c.requires.sound c.requires.none c.requires.room c.args.serial c.args.value)
