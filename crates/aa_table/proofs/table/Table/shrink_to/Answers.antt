use Rattle.std.proofs.Common.{ap, arith, length, max, subst, ◌∙◌, ◌≡◌}
use Rattle.std.proofs.lemmas.Bool.Decides.{nat_tests}
use Rattle.aa_table.specs.Contents.{TableView, fresh_capacity, shrunk_capacity}
use Rattle.aa_table.specs.Places.{tags_of}
use Rattle.aa_table.specs.Shrinking.{CountsShrink, SameSlots}
use Rattle.aa_table.proofs.Memory.{shrunk}
use Rattle.aa_table.proofs.Sound.{moved}
use Rattle.aa_table.proofs.table.Table.shrink_to.Goals as goal

pub invariant_of-self-2 : goal.invariant_of-self-2
invariant_of-self-2 g c =
    let made = c.in_ok-fit.ensures in let t = c.self.invariant in
    moved t c.fit.new.places c.fit.new.index c.fresh_capacity-requested.result made.moved made.indexed made.room made.memory (grind (arith, nat_tests, c.fresh_capacity-requested.ensures)) (grind (arith, nat_tests, c.fresh_capacity-requested.ensures, t.within, t.small))

pub returns-clause-shrunk : goal.returns-clause-shrunk
returns-clause-shrunk g c =
    let count = c.self.invariant.counted ∙ ap (λ (f : TableView _ _ _). length f.entries) c.self.view_is in
    let requested : c.fresh_capacity-requested.result ≡ shrunk_capacity (length c.args.self.now.entries) c.args.min_capacity = c.fresh_capacity-requested.ensures ∙ ap fresh_capacity c.max.ensures ∙ ap (λ n. fresh_capacity (max n c.args.min_capacity)) count in
    grind (arith, nat_tests, requested, c.if-self-requested.false, ap (λ (f : TableView _ _ _). f.capacity) c.self.view_is)

pub returns-clause-sufficient : goal.returns-clause-sufficient
returns-clause-sufficient g c = λ small. absurd (grind (arith, small, c.if-self-requested.false, c.fresh_capacity-requested.ensures, c.self.invariant.counted, c.self.view_is))

pub returns-clause-resizes : goal.returns-clause-resizes
returns-clause-resizes g c =
    let requested = c.fresh_capacity-requested.result in let slots = length (tags_of c.self.inside.index) in let made = c.in_ok-fit.ensures.counted in
    let some = c.self.invariant.memory.some (grind (arith, nat_tests, c.if-self-requested.false)) in
    subst (λ (f : TableView _ _ _). CountsShrink (SameSlots f.capacity requested) requested f.resizes c.fit.new.resizes.count) c.self.view_is
    (shrunk c.self.inside.capacity requested slots c.self.inside.resizes.count c.fit.new.resizes.count some made)
