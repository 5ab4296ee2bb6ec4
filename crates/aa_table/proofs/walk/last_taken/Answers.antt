use Rattle.std.proofs.Common.{arith, inl, inr, sym, ◌∙◌, ◌+◌, ◌-◌, ◌≡◌, ◌≢◌}
use Rattle.std.proofs.lemmas.Bool.{cases_lt}
use Rattle.std.proofs.lemmas.Bool.Decides.{nat_tests}
use Rattle.aa_table.specs.Walks.{mask_of}
use Rattle.aa_table.proofs.Walking.{IsLast, highest, none-left}
use Rattle.aa_table.proofs.walk.last_taken.Goals as goal
use lib.Count.{count_leading_zeros}

top : (ts : _) (base mask : _) → mask ≡ mask_of ts base 0 → mask ≢ 0 → IsLast ts base (base + (63 - count_leading_zeros 64 mask))
top ts base mask same some = rw same (highest ts base (rw same at some))

pub returns-then-slot-from-clause-none : goal.returns-then-slot-from-clause-none
returns-then-slot-from-clause-none c = λ i a b.
    let first = c.each.last - 16 in
    let it = top c.args.tags.now first c.taken_in-mask.result (c.taken_in-mask.ensures 0 (omega arith)) (grind (arith, nat_tests, c.if-mask-ne0.true)) in
    elim (cases_lt i c.each.last) [
      | inl l ↦ it.last i (omega (arith, a, c.if-slot-from.true)) (omega (arith, l))
      | inr g ↦ c.each.invariant.free i g b
    ]

pub returns-else-slot-from-clause-some : goal.returns-else-slot-from-clause-some
returns-else-slot-from-clause-some c =
    let first = c.each.last - 16 in
    let it = top c.args.tags.now first c.taken_in-mask.result (c.taken_in-mask.ensures 0 (omega arith)) (grind (arith, nat_tests, c.if-mask-ne0.true)) in
    (omega (arith, c.if-slot-from.false), omega (arith, it.high, c.each.invariant.within, c.each-test.true), it.tag)

pub returns-else-slot-from-clause-last : goal.returns-else-slot-from-clause-last
returns-else-slot-from-clause-last c = λ i a b.
    let first = c.each.last - 16 in
    let it = top c.args.tags.now first c.taken_in-mask.result (c.taken_in-mask.ensures 0 (omega arith)) (grind (arith, nat_tests, c.if-mask-ne0.true)) in
    elim (cases_lt i c.each.last) [
      | inl l ↦ it.last i a (omega (arith, l))
      | inr g ↦ c.each.invariant.free i g b
    ]

pub each-preserved : goal.each-preserved
each-preserved c =
    let ts = c.args.tags.now in
    let none : c.taken_in-mask.result ≡ 0 = grind (arith, nat_tests, c.if-mask-ne0.false) in
    let mask : mask_of ts (c.each.last - 16) 0 ≡ 0 = sym (c.taken_in-mask.ensures 0 (omega arith)) ∙ none in
    record {
      within = omega (arith, c.each.invariant.within);
      free = λ i a b. elim (cases_lt i c.each.last) [
        | inl l ↦ none-left ts (c.each.last - 16) 0 mask i (omega arith) a (omega (arith, l, c.each-test.true))
        | inr g ↦ c.each.invariant.free i g b
      ];
    }
