use Rattle.std.proofs.Common.{◌≡◌, ℕ, ◌+◌, ◌<◌, arith, ap, length}
use Rattle.std.specs.Prelude.{◌/◌}
use Rattle.aa_table.specs.Slots.{probe_group_of, home_of}
use Rattle.aa_table.proofs.Naming.{taken-far, all-full, IsFull}
use Rattle.aa_table.proofs.slots.put_overflow.Goals as goal

pub returns-in-Some-clause-index : goal.returns-in-Some-clause-index
returns-in-Some-clause-index c = λ hs index.
    let ts = c.args.tags.now in
    let n = length ts in
    let from = c.home-from.result in
    let home : from ≡ home_of n c.args.hash = c.home-from.ensures.value in
    let way : c.probe_group-at.result ≡ probe_group_of (n / 16) (home_of n c.args.hash / 16) (c.each.before + 1) = rw (ap (λ h. h / 16) home) at c.probe_group-at.ensures.value in
    let spot = c.in-Some.ensures.some in
    rw (c.add_overflow.ensures, c.each.invariant.tags, c.each.invariant.overflows, c.tag.ensures)
    (taken-far ts c.args.overflows.now hs c.in-Some.slot c.args.hash (omega (arith, spot.1, c.each.auto.tags)) index from home (omega (arith, c.requires.slots.each, c.home-from.ensures.within))
    (c.each.before + 1) c.probe_group-at.result (omega arith) (omega (arith, c.each-test.true)) way spot.0 spot.1)

pub unreachable-requires : goal.unreachable-requires
unreachable-requires c =
    let ts = c.args.tags.now in
    let n = length ts in
    let full : (k : ℕ) → k < n / 16 → IsFull ts (probe_group_of (n / 16) (c.home-from.result / 16) (k + 1)) =
    λ k l. rw c.each.invariant.tags at (c.each.invariant.full k (omega (arith, c.each-test.false, l))) in
    omega (arith, c.requires.free, all-full ts (c.home-from.result / 16) (n / 16) c.requires.slots.groups (omega (arith, c.home-from.ensures.within, c.requires.slots.groups)) full)
