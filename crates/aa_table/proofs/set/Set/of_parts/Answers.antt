use Rattle.std.proofs.Common.{ap, arith, length, subst, sym, ◌+◌, ◌∙◌, ◌≡◌}
use Rattle.aa_table.specs.SetContents.{SetView}
use Rattle.aa_table.specs.SetOperators.{part_of}
use Rattle.aa_table.proofs.Combining.{made-set, still-room}
use Rattle.aa_table.proofs.set.Set.of_parts.Goals as goal

pub insert_clones-requires-then-insert_clones : goal.insert_clones-requires-then-insert_clones
insert_clones-requires-then-insert_clones g c =
    let some = part_of g.T.PartialEq.eq c.args.part c.args.first.now.elements c.args.second.now.elements in
    let others = part_of g.T.PartialEq.eq c.args.more c.args.second.now.elements c.args.first.now.elements in
    still-room g.T.PartialEq.eq g.T.Clone.is_clone c.reserve.new.self c.insert_clones.new.self some (length others) (c.insert_clones.ensures c.if-insert_clones.true)
    (omega (arith, c.in_ok-reserve.ensures.enough, c.in-Some.ensures.1, c.count_in-some.ensures, c.count_in-others.ensures))

pub returns-then-insert_clones-2 : goal.returns-then-insert_clones-2
returns-then-insert_clones-2 g c =
    let some = part_of g.T.PartialEq.eq c.args.part c.args.first.now.elements c.args.second.now.elements in
    let others = part_of g.T.PartialEq.eq c.args.more c.args.second.now.elements c.args.first.now.elements in
    let count : c.in-Some.count ≡ length some + length others = omega (arith, c.in-Some.ensures.1, c.count_in-some.ensures, c.count_in-others.ensures) in
    record {
      made = made-set g.T.PartialEq.eq g.T.Clone.is_clone g.S.Default.is_default c.with_hasher_in-made.result c.reserve.new.self c.insert_clones.new.self c.insert_clones-then-insert_clones.new.self some others c.in-Some.count count
          (ap (λ (s : SetView _ _). s.elements) c.with_hasher_in-made.ensures) (ap (λ (s : SetView _ _). s.capacity) c.with_hasher_in-made.ensures) (ap (λ (s : SetView _ _). s.resizes) c.with_hasher_in-made.ensures)
          c.in_ok-reserve.ensures.same c.in_ok-reserve.ensures.made c.in_ok-reserve.ensures.resizes (c.insert_clones.ensures c.if-insert_clones.true) (c.insert_clones-then-insert_clones.ensures c.if-insert_clones-2.true)
          (subst g.S.Default.is_default (sym (c.in_ok-reserve.ensures.builder ∙ ap (λ (s : SetView _ _). s.builder) c.with_hasher_in-made.ensures)) c.default.ensures);
      error = tt;
    }
