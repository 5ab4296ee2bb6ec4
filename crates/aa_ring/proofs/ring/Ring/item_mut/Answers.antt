use Rattle.std.proofs.Common.{rules, ◌+◌, ◌<◌, length, length-set, Some, refl, ap, arith}
use Rattle.allocator_api2.proofs.Blocks.{two_runs}
use Rattle.aa_ring.proofs.Rings.{length-parts, set_first, has-set_first, has-set_other}
use Rattle.aa_ring.proofs.ring.Ring.item_mut.Goals as goal

pub invariant_of-self-lent : goal.invariant_of-self-lent
invariant_of-self-lent g c = λ w. has-set_first _ _ _ _ c.self.invariant w c.args.index (omega (arith, c.if-index-self.true))

pub returns-then-index-self : goal.returns-then-index-self
returns-then-index-self g c =
    let r = c.self.inside in let i = c.args.index in (
      (
        refl,
        λ w. rw (← c.self.view_is) (λ t. record {
          items = set_first r.block.places r.front r.count r.wrapped c.self.invariant w i (omega (arith, c.if-index-self.true)) t;
          capacity = length-set r.block.places (r.front + i) (Some w) t;
          growth = r.block.growth;
          grown = r.block.grown;
          written = r.added.count + r.block.written;
          alloc = r.block.alloc;
        }),
      ),
      record { writes_back = tt; value = search (rules, two_runs) },
    )

pub invariant_of-self-lent-2 : goal.invariant_of-self-lent-2
invariant_of-self-lent-2 g c =
    λ w. let r = c.self.inside in let past = c.if-index-self.false in
    let few : c.args.index < r.count + r.wrapped = omega (arith, c.requires, ap (λ s. length s.items) c.self.view_is, length-parts _ _ _ _ c.self.invariant) in
    has-set_other _ _ _ _ c.self.invariant w c.args.index (omega arith) (omega arith)
