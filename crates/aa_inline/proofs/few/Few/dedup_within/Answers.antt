use Rattle.std.proofs.Common.{rules, ◌≡◌, ◌-◌, ◌<◌, ◌≤◌, true, false, length, sym, subst, ap, ◌∙◌, arith}
use Rattle.std.specs.Prelude.{slice_get}
use Rattle.std.specs.Fn.{CalledAtPairMut}
use Rattle.allocator_api2.specs.Closures.{CallableAtPairMut}
use Rattle.aa_inline.specs.Retaining.{Distinguishes}
use Rattle.aa_inline.proofs.Distinguishing.{all-kept, first-kept, may-next, next-distinct, next-repeat}
use Rattle.aa_inline.proofs.few.Few.dedup_within.Goals as goal
use Rattle.aa_inline.proofs.few.Few.dedup_within.Goals.{then-not-call_on_pair, else-not-call_on_pair}

pub each-init : goal.each-init
each-init g c =
    let some : 1 < length c.args.self.now = grind (arith, c.if-len-lt2.false, c.len-len.ensures.count) in
    first-kept (CalledAtPairMut g.F.FnMut) (CallableAtPairMut g.F.FnMut) c.args.same.now c.args.self.now some c.requires

pub call_on_pair-requires : goal.call_on_pair-requires
call_on_pair-requires g c =
    let e = c.each in let put = c.replace-item.ensures in
    let few : e.i < length c.args.self.now = grind (arith, c.each-test.true, c.len-len.ensures.count) in
    let there = ap (λ zs. slice_get zs (e.kept - 1)) (sym put.replaced) ∙ c.item_mut.ensures.value in
    may-next (CalledAtPairMut g.F.FnMut) (CallableAtPairMut g.F.FnMut) c.args.same.now c.args.self.now e.i e.kept e.same e.self e.invariant c.replace-item.result c.made_with.result c.item_mut.result.now few put.old there

pub each-preserved : goal.each-preserved
each-preserved g c =
    let e = c.each in let put = c.replace-item.ensures in let calls = CalledAtPairMut g.F.FnMut in let takes = CallableAtPairMut g.F.FnMut in
    let few : e.i < length c.args.self.now = grind (arith, c.each-test.true, c.len-len.ensures.count) in
    let x = c.replace-item.result in let l = c.item_mut.result.now in let h = c.call_on_pair.new.same in let y = c.call_on_pair.new.item in let m = c.call_on_pair.new.last in
    let there = ap (λ zs. slice_get zs (e.kept - 1)) (sym put.replaced) ∙ c.item_mut.ensures.value in
    elim c.if-not-call_on_pair.branch [
      | then-not-call_on_pair w ↦
          let is : c.call_on_pair.result ≡ false = search rules in
          rw (w.self-is, w.kept-is, w.replace.ensures.replaced, put.replaced)
          (next-distinct calls takes c.args.same.now c.args.self.now e.i e.kept e.same e.self e.invariant x c.made_with.result l few put.old there h y m (subst (λ b. calls e.same x l b h y m) is c.call_on_pair.ensures))
      | else-not-call_on_pair w ↦
          let is : c.call_on_pair.result ≡ true = search rules in
          rw (w.self-is, w.kept-is, put.replaced)
          (next-repeat calls takes c.args.same.now c.args.self.now e.i e.kept e.same e.self e.invariant x c.made_with.result l few put.old there h y m (subst (λ b. calls e.same x l b h y m) is c.call_on_pair.ensures))
    ]

pub returns : goal.returns
returns g c =
    let e = c.each in let calls = CalledAtPairMut g.F.FnMut in
    let all : length c.args.self.now ≤ e.i = grind (arith, c.each-test.false, c.len-len.ensures.count) in
    subst (λ zs. Distinguishes calls c.args.same.now c.args.self.now e.same zs) (sym c.cut.ensures) (all-kept calls (CallableAtPairMut g.F.FnMut) c.args.same.now c.args.self.now e.i e.kept e.same e.self e.invariant all)
