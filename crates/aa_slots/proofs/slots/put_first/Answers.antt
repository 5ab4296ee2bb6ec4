use Rattle.aa_slots.proofs.Common.{Free, Held, ap, sym, ◌∙◌, ◌≡◌}
use Rattle.aa_slots.proofs.Writing.{filled-puts, filled-sound, first-free, first-place, first-read, first-within}
use Rattle.allocator_api2.specs.Block.{Block}
use Rattle.aa_slots.proofs.slots.put_first.Goals as goal

pub index-requires : goal.index-requires
index-requires g c = first-within c.requires.sound c.requires.some

pub unreachable-requires : goal.unreachable-requires
unreachable-requires g c =
    let next = (first-free c.requires.sound c.requires.some).0 in
    let read = first-read c.requires.sound c.requires.some c.index.result.now c.index.ensures in
    let both : Held c.in-Held.field-0 ≡ Free next = sym c.in-Held.is ∙ c.state.ensures.state ∙ read in cc

pub index_mut-requires : goal.index_mut-requires
index_mut-requires g c = first-within c.requires.sound c.requires.some

pub put-requires : goal.put-requires
put-requires g c = first-place c.requires.sound c.requires.some

pub returns-clause-sound : goal.returns-clause-sound
returns-clause-sound g c =
    let was = sym c.state.ensures.state ∙ c.in-Free.is in
    let small = rw c.in-Free.is at c.state.ensures.small in
    rw (c.held.ensures, ap (λ (b : Block _ _). b.places) c.put.ensures) (filled-sound c.requires.sound c.requires.some c.index.ensures was small c.args.serial c.args.value)

pub returns-clause-put : goal.returns-clause-put
returns-clause-put g c =
    let was = sym c.state.ensures.state ∙ c.in-Free.is in
    let small = rw c.in-Free.is at c.state.ensures.small in
    rw (c.held.ensures, ap (λ (b : Block _ _). b.places) c.put.ensures) (filled-puts c.requires.sound c.requires.some c.index.ensures was small c.args.serial c.args.value)
