use Rattle.aa_ring.proofs.Rings.{emptied, none-left, others-left}
use Rattle.aa_ring.proofs.ring.Ring.drop.Goals as goal
use Rattle.std.proofs.Common.{ap, ◌∙◌, ◌+◌, ◌-◌}

pub drop_run-requires-2 : goal.drop_run-requires-2
drop_run-requires-2 g c = rw c.drop_run.ensures (others-left _ _ _ _ c.self.invariant)

pub drop-block-requires : goal.drop-block-requires
drop-block-requires g c =
    let r = c.self.inside in let ds = c.forget_run.new.self.places in
    let first = ap (λ b. b.places) c.drop_run.ensures in
    let second = ap (λ b. b.places) c.drop_run-2.ensures ∙ ap (λ cs. emptied cs 0 r.wrapped) first in
    let third = ap (λ b. b.places) c.forget_run.ensures ∙ ap (λ cs. emptied cs r.wrapped (r.front - r.wrapped)) second in
    rw c.forget_from.ensures (none-left r.block.places r.front r.count r.wrapped c.self.invariant ds third)
