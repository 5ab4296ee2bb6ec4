use Rattle.std.proofs.Common.{ap, arith, length, refl, sym, ◌∙◌, ◌≢◌}
use Rattle.std.proofs.lemmas.Bool.Decides.{nat_tests}
use Rattle.aa_table.proofs.Remaining.{some-within, take-next, take-next-is}
use Rattle.aa_table.proofs.iter_mut.IterMutIterator.next.Goals as goal

pub take-requires : goal.take-requires
take-requires g c =
    let l = c.self.invariant in let walk = c.next_taken-slot.ensures in let slot = c.next_taken-slot.result in
    let some : c.self.inside.left ≢ 0 = grind (arith, nat_tests, c.if-self-eq0.false) in
    l.held slot walk.within (some-within l some slot walk.first) walk.taken

pub invariant_of-self : goal.invariant_of-self
invariant_of-self g c =
    let l = c.self.invariant in let walk = c.next_taken-slot.ensures in let slot = c.next_taken-slot.result in
    let some : c.self.inside.left ≢ 0 = grind (arith, nat_tests, c.if-self-eq0.false) in
    take-next-is l slot (c.take.result.0.now, c.take.result.1.now) refl c.take.ensures.places walk.within (some-within l some slot walk.first) c.take.ensures.value walk.first c.next_taken-slot.new.self walk.walk walk.passed

pub returns-clause-steps : goal.returns-clause-steps
returns-clause-steps g c =
    let l = c.self.invariant in let walk = c.next_taken-slot.ensures in let slot = c.next_taken-slot.result in
    let some : c.self.inside.left ≢ 0 = grind (arith, nat_tests, c.if-self-eq0.false) in
    ap (λ u. u.entries) (sym c.self.view_is)
    ∙ take-next l slot (c.take.result.0.now, c.take.result.1.now) refl c.take.ensures.places walk.within (some-within l some slot walk.first) c.take.ensures.value walk.first c.next_taken-slot.new.self walk.walk walk.passed

pub returns-clause-goes : goal.returns-clause-goes
returns-clause-goes g c =
    let one_less = ap length (returns-clause-steps g c) in
    record { on = λ h. (tt, tt, omega (arith, one_less)); keeps = tt; rests = λ h. tt }
