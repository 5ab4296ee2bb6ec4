use Rattle.std.proofs.Common.{[], ap, arith, length, ◌∙◌, ◌≡◌, ◌≤◌}
use Rattle.std.proofs.lemmas.Bool.Decides.{nat_tests}
use Rattle.std.proofs.lemmas.List.Sorted.{IsPermutation-refl}
use Rattle.allocator_api2.specs.Places.{somes}
use Rattle.aa_table.specs.Places.{tags_of}
use Rattle.aa_table.specs.Slots.{IsSlotCount}
use Rattle.aa_table.proofs.Memory.{one-count}
use Rattle.aa_table.proofs.Moving.{all-none, none-left}
use Rattle.aa_table.proofs.growth.fit.Goals as goal

pub free_blocks-requires : goal.free_blocks-requires
free_blocks-requires g c =
    let none : length (somes c.args.places.now.places) ≤ 0 = grind (arith, nat_tests, c.requires.more, c.if-capacity-eq0.true) in
    record { empty = all-none c.args.places.now.places none }

pub returns-then-capacity-eq0-clause-moved : goal.returns-then-capacity-eq0-clause-moved
returns-then-capacity-eq0-clause-moved g c =
    let none : length (somes c.args.places.now.places) ≤ 0 = grind (arith, nat_tests, c.requires.more, c.if-capacity-eq0.true) in
    rw (none-left c.args.places.now.places (all-none c.args.places.now.places none), none-left c.free_blocks.new.places.places c.free_blocks.ensures.empty) (IsPermutation-refl [])

pub returns-in-Ok-clause-counted : goal.returns-in-Ok-clause-counted
returns-in-Ok-clause-counted g c =
    let slots = length c.tags_in.result.now in
    let least : IsSlotCount c.args.capacity c.slots_for.result = c.slots_for.ensures.least in
    record {
      freed = λ zero. absurd (grind (arith, nat_tests, zero, c.if-capacity-eq0.false));
      same = λ as-many.
          let same : slots ≡ c.slots_for.result = ap length c.tags_in.ensures ∙ one-count c.args.capacity (length (tags_of c.args.index.now)) c.slots_for.result as-many least in
          absurd (grind (arith, nat_tests, same, c.if-tags_in-slots_for.false));
      moved = λ _ _. c.in-Ok.ensures.counted;
    }
