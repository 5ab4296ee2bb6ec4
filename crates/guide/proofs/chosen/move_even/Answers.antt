use Rattle.std.proofs.Common.{rules, ◌≡◌, filter, not}
use Rattle.std.specs.Prelude.{◌%◌, ◌==◌}
use Rattle.allocator_api2.proofs.Callers.{left-end}
use Rattle.guide.proofs.chosen.move_even.Goals as goal

-- what the range leaves once it is dropped
pub returns-clause-kept : goal.returns-clause-kept
returns-clause-kept g c =
    let left : c.drop-range-2.new.self.0.items ≡ filter (λ x. not (x % 2 == 0)) c.args.from.now.items =
    left-end _ _ _ _ _ _ _ _ _ _ _ c.drop-range-2.ensures c.next_by.ensures c.in_default.is c.loop-x.invariant.1 c.extract_by-range.ensures.taken c.len.ensures.count (λ f x answer h y a. search rules) in
    search rules
