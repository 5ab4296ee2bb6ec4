use Rattle.std.proofs.Common.{arith, sym, ◌∙◌, ◌≢◌}
use Rattle.std.proofs.lemmas.Bool.Decides.{nat_tests}
use Rattle.aa_table.proofs.Remaining.{goes-next, some-within, take-next, take-next-is}
use Rattle.aa_table.proofs.iter.IntoIterIterator.next.Goals as goal

pub take-requires : goal.take-requires
take-requires g c =
    let l = c.self.invariant in let walk = c.next_taken-slot.ensures in let slot = c.next_taken-slot.result in
    let some : c.self.inside.left ≢ 0 = grind (arith, nat_tests, c.if-self-eq0.false) in
    let first = rw c.tags_in.ensures at walk.first in
    l.held slot walk.within (some-within l some slot first) (rw c.tags_in.ensures at walk.taken)

pub invariant_of-self : goal.invariant_of-self
invariant_of-self g c =
    let l = c.self.invariant in let walk = c.next_taken-slot.ensures in let slot = c.next_taken-slot.result in
    let some : c.self.inside.left ≢ 0 = grind (arith, nat_tests, c.if-self-eq0.false) in
    let first = rw c.tags_in.ensures at walk.first in
    take-next-is l slot c.take.result c.tags_in.ensures (λ i. (c.take.ensures.after i).places) walk.within (some-within l some slot first) c.take.ensures.value walk.first c.next_taken-slot.new.self walk.walk walk.passed

pub returns-clause-steps : goal.returns-clause-steps
returns-clause-steps g c =
    let l = c.self.invariant in let walk = c.next_taken-slot.ensures in let slot = c.next_taken-slot.result in
    let some : c.self.inside.left ≢ 0 = grind (arith, nat_tests, c.if-self-eq0.false) in
    let first = rw c.tags_in.ensures at walk.first in
    sym c.self.view_is ∙ take-next l slot c.take.result c.tags_in.ensures (λ i. (c.take.ensures.after i).places) walk.within (some-within l some slot first) c.take.ensures.value walk.first c.next_taken-slot.new.self walk.walk walk.passed

pub returns-clause-goes : goal.returns-clause-goes
returns-clause-goes g c = goes-next c.take.result _ (returns-clause-steps g c)
