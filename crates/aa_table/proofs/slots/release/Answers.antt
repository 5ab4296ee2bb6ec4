use Rattle.std.proofs.Common.{◌≤◌, ◌<◌, ◌+◌, arith, inl, inr, length}
use Rattle.std.specs.Prelude.{◌⊎◌}
use Rattle.aa_table.specs.Slots.{home_of}
use Rattle.aa_table.proofs.Naming.{freed-near, freed-far, far-outside}
use Rattle.aa_table.proofs.slots.release.Goals as goal
use Rattle.aa_table.proofs.slots.release.Goals.{then-slot-from-via-then-slot-from, then-slot-from-via-else-slot-from+then-slot-from-ge-GROUP_SIZE}

pub returns-else-slot-from-ge-GROUP_SIZE-clause-index : goal.returns-else-slot-from-ge-GROUP_SIZE-clause-index
returns-else-slot-from-ge-GROUP_SIZE-clause-index c = λ hs index had. freed-near c.args.tags.now c.args.overflows.now hs c.args.slot c.args.hash c.requires.slot index had

pub returns-then-slot-from-clause-index : goal.returns-then-slot-from-clause-index
returns-then-slot-from-clause-index c = λ hs index had.
    let n = length c.args.tags.now in
    let out : (c.args.slot < home_of n c.args.hash) ⊎ (home_of n c.args.hash + 16 ≤ c.args.slot) = elim c.then-slot-from.branch [
      | then-slot-from-via-then-slot-from w ↦ inl (omega (arith, w.if-slot-from.true, c.home-from.ensures.value))
      | then-slot-from-via-else-slot-from+then-slot-from-ge-GROUP_SIZE w ↦ inr (omega (arith, w.if-slot-from.false, w.if-slot-from-ge-GROUP_SIZE.true, c.home-from.ensures.value))
    ] in
    rw c.remove_overflow.ensures (freed-far c.args.tags.now c.args.overflows.now hs c.args.slot c.args.hash c.requires.slot index c.home-from.result c.home-from.ensures.value (omega (arith, c.requires.slots.each, c.home-from.ensures.within)) had (far-outside n c.home-from.result c.args.slot c.args.hash c.home-from.ensures.value out))
