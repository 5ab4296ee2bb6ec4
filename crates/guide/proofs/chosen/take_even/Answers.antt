use Rattle.std.proofs.Common.{rules, ◌==◌, ◌%◌}
use Rattle.allocator_api2.proofs.Callers.{Extends_filter}
use Rattle.guide.proofs.chosen.take_even.Goals as goal

pub returns : goal.returns
returns g c =
    let e = c.extend.ensures.extended in
    Extends_filter _ (λ x. x % 2 == 0) _ _ _ _ _ _ _
    c.extract_if.ensures.extracted c.extract_if.ensures.taken c.len.ensures.count e.2 e.3.items (λ f x answer h y a. search rules)
