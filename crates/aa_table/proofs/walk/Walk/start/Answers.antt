use Rattle.std.proofs.Common.{arith, length, sym, ◌≡◌}
use Rattle.std.proofs.lemmas.Bool.Decides.{nat_tests}
use Rattle.aa_table.proofs.Walking.{first-none}
use Rattle.aa_table.proofs.walk.Walk.start.Goals as goal

pub returns-then-is_empty-clause-walk : goal.returns-then-is_empty-clause-walk
returns-then-is_empty-clause-walk c =
    let none : length c.args.tags.now ≡ 0 = grind (arith, nat_tests, c.is_empty.ensures, c.if-is_empty.true) in
    record { groups = c.requires; aligned = omega arith; within = omega arith; after = omega arith; before = omega arith; mask = sym (first-none c.args.tags.now none) }

pub returns-else-is_empty-clause-walk : goal.returns-else-is_empty-clause-walk
returns-else-is_empty-clause-walk c =
    record { groups = c.requires; aligned = omega arith; within = omega arith; after = omega arith; before = omega arith; mask = c.taken_in-mask.ensures 0 (omega arith) }
