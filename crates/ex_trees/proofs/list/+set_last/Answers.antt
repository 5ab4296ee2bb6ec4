use Rattle.std.proofs.Common.{ap, ◌∙◌}
use Rattle.ex_trees.specs.Linked.{values}
use Rattle.ex_trees.proofs.Lasts.{with_last, last_set}
use Rattle.ex_trees.proofs.list.+set_last.Goals as goal

pub returns-in-Some : goal.returns-in-Some
returns-in-Some g t c =
    last_set c.args.node.now c.set_last.new.node c.in-Some.next c.args.value c.in-Some.is
    (c.set_last.ensures ∙ ap (λ n. with_last c.args.value (values n)) c.deref_mut.ensures.value)
