use Rattle.std.proofs.Common.{◌≡◌, length}
use Rattle.aa_slots.specs.Inside.{AreHeldBetween}
use Rattle.aa_slots.proofs.blocks.drop_between.Given as goal

-- the slots that follow have their values
abbrev pub invariant-each : goal.invariant-each
invariant-each g l =
    (length l.values.places ≡ length l.fn.values.places)
    × (l.values.grown ≡ l.fn.values.grown)
    × (l.values.growth ≡ l.fn.values.growth)
    × AreHeldBetween l.slots l.values.places l.index l.end
