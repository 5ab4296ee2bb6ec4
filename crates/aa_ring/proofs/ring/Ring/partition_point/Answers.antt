use Rattle.std.proofs.Common.{◌≡◌, ◌+◌, true, false, length, sym, ap, ◌∙◌, subst}
use Rattle.std.specs.List.Sorted.{IsPartitionedBy, IsPartitionPoint}
use Rattle.aa_ring.proofs.Searching.{computed, computes-next, point-first, point-second}
use Rattle.aa_ring.proofs.ring.Ring.partition_point.Goals as goal

pub returns-then-call_on-clause-partitioned : goal.returns-then-call_on-clause-partitioned
returns-then-call_on-clause-partitioned g c =
    λ p h. let xs = c.as_slices.result.0.now in let i = c.partition_point-then-call_on.result in
    let e = computed g.P.FnMut p c.args.pred c.in-Some.item.now c.call_on.result c.call_on.new.f c.call_on.ensures.called h in
    let n = computes-next g.P.FnMut p c.args.pred c.in-Some.item.now c.call_on.result c.call_on.new.f c.call_on.ensures.called h in
    subst (λ l. IsPartitionedBy p l → IsPartitionPoint (λ y. p y ≡ true) (λ y. p y ≡ false) l (length xs + i)) c.as_slices.ensures
    (point-second p xs c.as_slices.result.1.now c.in-Some.ensures.some (λ d. ap p (c.in-Some.ensures.first d) ∙ sym e ∙ c.if-call_on.true) i c.partition_point-then-call_on.ensures.bound (c.partition_point-then-call_on.ensures.partitioned p n))

pub returns-clause-partitioned : goal.returns-clause-partitioned
returns-clause-partitioned g c =
    λ p h. let xs = c.as_slices.result.0.now in let i = c.partition_point-2.result in
    let e = computed g.P.FnMut p c.args.pred c.in-Some.item.now c.call_on.result c.call_on.new.f c.call_on.ensures.called h in
    let n = computes-next g.P.FnMut p c.args.pred c.in-Some.item.now c.call_on.result c.call_on.new.f c.call_on.ensures.called h in
    subst (λ l. IsPartitionedBy p l → IsPartitionPoint (λ y. p y ≡ true) (λ y. p y ≡ false) l i) c.as_slices.ensures
    (point-first p xs c.as_slices.result.1.now (λ d some. ap p (c.in-Some.ensures.first d) ∙ sym e ∙ c.if-call_on.false) i c.partition_point-2.ensures.bound (c.partition_point-2.ensures.partitioned p n))
