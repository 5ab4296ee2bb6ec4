use Rattle.std.proofs.Common.{arith, sym, ◌∙◌, ◌≢◌}
use Rattle.std.proofs.lemmas.Bool.Decides.{nat_tests}
use Rattle.aa_table.proofs.Remaining.{goes-next, next-goes, next-is, some-within}
use Rattle.aa_table.proofs.iter.IterIterator.next.Goals as goal

pub place-entry-requires : goal.place-entry-requires
place-entry-requires g c =
    let l = c.self.invariant in let walk = c.next_taken-slot.ensures in let slot = c.next_taken-slot.result in
    let some : c.self.inside.left ≢ 0 = grind (arith, nat_tests, c.if-self-eq0.false) in
    l.held slot walk.within (some-within l some slot walk.first) walk.taken

pub invariant_of-self : goal.invariant_of-self
invariant_of-self g c =
    let l = c.self.invariant in let walk = c.next_taken-slot.ensures in let slot = c.next_taken-slot.result in
    let some : c.self.inside.left ≢ 0 = grind (arith, nat_tests, c.if-self-eq0.false) in
    next-is l slot c.place-entry.result.now walk.within (some-within l some slot walk.first) walk.first c.place-entry.ensures c.next_taken-slot.new.self walk.walk walk.passed

pub returns-clause-steps : goal.returns-clause-steps
returns-clause-steps g c =
    let l = c.self.invariant in let walk = c.next_taken-slot.ensures in let slot = c.next_taken-slot.result in
    let some : c.self.inside.left ≢ 0 = grind (arith, nat_tests, c.if-self-eq0.false) in
    sym c.self.view_is ∙ next-goes l slot c.place-entry.result.now walk.within (some-within l some slot walk.first) walk.first c.place-entry.ensures c.next_taken-slot.new.self walk.passed

pub returns-clause-goes : goal.returns-clause-goes
returns-clause-goes g c = goes-next c.place-entry.result.now _ (returns-clause-steps g c)
