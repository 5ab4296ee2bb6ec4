use Rattle.std.proofs.Common.{arith, inl, inr, sym, ◌∙◌, ◌+◌, ◌≡◌, ◌≢◌}
use Rattle.std.proofs.lemmas.Bool.{cases_lt}
use Rattle.std.proofs.lemmas.Bool.Decides.{nat_tests}
use Rattle.aa_table.specs.Walks.{mask_of}
use Rattle.aa_table.proofs.Walking.{IsLowest, lowest, next-room, none-left}
use Rattle.aa_table.proofs.walk.Walk.next_taken.Goals as goal
use lib.Count.{count_trailing_zeros}

pub taken_in-self-requires : goal.taken_in-self-requires
taken_in-self-requires c =
    let ts = c.args.tags.now in let from = c.args.self.now.from in let base = c.each.self.base in let inv = c.each.invariant in
    let mask : mask_of ts base from ≡ 0 = sym inv.mask ∙ grind (arith, nat_tests, c.each-test.true) in
    omega (arith, next-room ts base from mask c.requires.walk.groups inv.aligned inv.free c.requires.some)

pub each-preserved : goal.each-preserved
each-preserved c =
    let ts = c.args.tags.now in let from = c.args.self.now.from in let base = c.each.self.base in let inv = c.each.invariant in
    let mask : mask_of ts base from ≡ 0 = sym inv.mask ∙ grind (arith, nat_tests, c.each-test.true) in
    record {
      from = inv.from;
      aligned = omega (arith, inv.aligned);
      within = omega (arith, next-room ts base from mask c.requires.walk.groups inv.aligned inv.free c.requires.some);
      before = omega (arith, inv.before);
      mask = c.taken_in-self.ensures from inv.before;
      free = λ i a b. elim (cases_lt i base) [
        | inl l ↦ inv.free i a l
        | inr g ↦ none-left ts base from mask i a g b
      ];
    }

low : (ts : _) (base from mask : _) → mask ≡ mask_of ts base from → mask ≢ 0 → IsLowest ts base from (base + count_trailing_zeros 64 mask)
low ts base from mask same some = rw same (lowest ts base from (rw same at some))

pub returns-clause-within : goal.returns-clause-within
returns-clause-within c =
    let inv = c.each.invariant in
    (low c.args.tags.now c.each.self.base c.args.self.now.from c.each.self.mask inv.mask (grind (arith, nat_tests, c.each-test.false))).after

pub returns-clause-taken : goal.returns-clause-taken
returns-clause-taken c =
    let inv = c.each.invariant in
    (low c.args.tags.now c.each.self.base c.args.self.now.from c.each.self.mask inv.mask (grind (arith, nat_tests, c.each-test.false))).tag

pub returns-clause-first : goal.returns-clause-first
returns-clause-first c = λ i a b.
    let inv = c.each.invariant in let base = c.each.self.base in
    let it = low c.args.tags.now base c.args.self.now.from c.each.self.mask inv.mask (grind (arith, nat_tests, c.each-test.false)) in
    elim (cases_lt i base) [
      | inl l ↦ inv.free i a l
      | inr g ↦ it.first i a g b
    ]

pub returns-clause-walk : goal.returns-clause-walk
returns-clause-walk c =
    let inv = c.each.invariant in
    let it = low c.args.tags.now c.each.self.base c.args.self.now.from c.each.self.mask inv.mask (grind (arith, nat_tests, c.each-test.false)) in
    record {
      groups = c.requires.walk.groups;
      aligned = inv.aligned;
      within = inv.within;
      after = omega (arith, it.low);
      before = omega (arith, it.high);
      mask = rw inv.mask (rw inv.mask at it.without);
    }
