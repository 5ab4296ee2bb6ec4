use Rattle.std.proofs.Common.{arith, inr}
use Rattle.std.proofs.lemmas.Bool.Decides.{nat_tests}
use Rattle.std.proofs.lemmas.List.Sorted.{length_permutation}
use Rattle.allocator_api2.specs.Places.{somes}
use Rattle.aa_table.proofs.Memory.{of-count}
use Rattle.aa_table.proofs.Sound.{moved}
use Rattle.aa_table.proofs.table.Table.reserve.Goals as goal

pub invariant_of-self-2 : goal.invariant_of-self-2
invariant_of-self-2 g c =
    let made = c.in_ok-resize.ensures in
    moved c.self.invariant c.resize.new.places c.resize.new.index c.max-capacity.result made.moved made.indexed (inr made.room) (of-count c.max-capacity.result _ _ made.slots made.places (grind (arith, nat_tests, c.max-capacity.ensures, c.max.ensures))) (grind (arith, nat_tests, c.max-capacity.ensures, c.max.ensures, c.saturating_add-keys.ensures, c.if-keys-self.false)) (grind (arith, nat_tests, c.max-capacity.ensures, c.max.ensures, c.if-keys-gt-MAX_KEYS.false, c.saturating_add-keys.ensures, c.self.invariant.small))

pub returns-clause-enough : goal.returns-clause-enough
returns-clause-enough g c =
    let made = c.in_ok-resize.ensures in
    grind (arith, nat_tests, length_permutation (somes c.self.inside.places.places) (somes c.resize.new.places.places) made.moved, c.self.invariant.counted, c.max-capacity.ensures, c.max.ensures, c.saturating_add-keys.ensures, c.if-keys-gt-MAX_KEYS.false)
