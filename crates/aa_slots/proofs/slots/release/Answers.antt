use Rattle.aa_slots.proofs.Common.{ap, arith, is_some, sym, ◌∙◌}
use Rattle.std.specs.Option.{option_map}
use Rattle.aa_slots.proofs.Writing.{freed, here, released-sound}
use Rattle.allocator_api2.specs.Block.{Block}
use Rattle.aa_slots.proofs.slots.release.Goals as goal

pub free-requires : goal.free-requires
free-requires g c = c.requires.sound.first

pub index_mut-requires : goal.index_mut-requires
index_mut-requires g c = (here c.requires.sound c.args.at c.requires.held).within

pub take-requires : goal.take-requires
take-requires g c = ap is_some (here c.requires.sound c.args.at c.requires.held).here

pub returns-clause-sound : goal.returns-clause-sound
returns-clause-sound g c =
    let at = here c.requires.sound c.args.at c.requires.held in
    rw (c.free.ensures, ap (λ (b : Block _ _). b.places) c.take.ensures.after) (released-sound c.requires.sound c.args.at c.requires.held (omega (arith, at.within, c.prove_capacity_bounds.ensures.within, c.prove_capacity_bounds.ensures.possible.0)))

pub returns-clause-value : goal.returns-clause-value
returns-clause-value g c =
    let at = here c.requires.sound c.args.at c.requires.held in
    rw at.slot (ap (option_map (λ e. e.1)) (sym c.take.ensures.value ∙ at.here))

pub returns-clause-freed : goal.returns-clause-freed
returns-clause-freed g c =
    rw (c.free.ensures, ap (λ (b : Block _ _). b.places) c.take.ensures.after) (freed c.requires.sound c.args.at c.requires.held c.args.free.now.first)
