use Rattle.std.proofs.Common.{◌≡◌, ◌+◌, ◌≤◌, ◌<◌, ◌-◌, arith}
use Rattle.aa_ring.proofs.Truncating.{rest-there, others-there, has-cut, cut, length-both, cut_others, length-others}
use Rattle.aa_ring.proofs.ring.Ring.truncate.Goals as goal

pub drop_run-requires : goal.drop_run-requires
drop_run-requires g c = rest-there _ _ _ _ _ c.self.invariant c.if-len-self.true

pub drop_run-requires-then-len-self : goal.drop_run-requires-then-len-self
drop_run-requires-then-len-self g c = rw c.drop_run.ensures
    (others-there _ _ _ _ _ c.self.invariant c.if-len-self.true)

pub invariant_of-self : goal.invariant_of-self
invariant_of-self g c = rw (
  c.drop_run-then-len-self.ensures,
  c.drop_run.ensures,
) (has-cut _ _ _ _ _ c.self.invariant c.if-len-self.true)

pub returns-then-len-self : goal.returns-then-len-self
returns-then-len-self g c =
    let r = c.self.inside in let b = r.block in
    let none : r.added.count + b.written ≡ r.added.count + b.written + 0 = omega arith in
    record {
      truncated = rw (
        c.drop_run-then-len-self.ensures,
        c.drop_run.ensures,
        ← c.self.view_is,
      ) (λ i. record {
        items = cut b.places r.front r.count r.wrapped c.args.len c.self.invariant c.if-len-self.true i;
        capacity = length-both b.places r.front r.count r.wrapped c.args.len c.self.invariant c.if-len-self.true i;
        growth = b.growth;
        grown = b.grown;
        written = none i;
        alloc = b.alloc;
      });
    }

pub returns-then-len-self-2 : goal.returns-then-len-self-2
returns-then-len-self-2 g c =
    let r = c.self.inside in let b = r.block in
    let none : r.added.count + b.written ≡ r.added.count + b.written + 0 = omega arith in
    let past : r.count ≤ c.args.len = omega (arith, c.if-len-self.false) in
    let few : c.args.len - r.count < r.wrapped = c.if-len-self-2.true in
    record {
      truncated = rw (c.drop_run-then-len-self-2.ensures, ← c.self.view_is) (λ i. record {
        items = cut_others b.places r.front r.count r.wrapped c.args.len c.self.invariant past few i;
        capacity = length-others b.places r.front r.count r.wrapped c.args.len c.self.invariant past few i;
        growth = b.growth;
        grown = b.grown;
        written = none i;
        alloc = b.alloc;
      });
    }
