use Rattle.std.proofs.Common.{◌-◌, rules, subst, sym}
use Rattle.std.specs.Fn.{Called}
use Rattle.std.specs.Mem.{type_size}
use Rattle.allocator_api2.specs.Copies.{MayCallTimes}
use Rattle.aa_inline.proofs.Results.{results-roomy}
use Rattle.aa_inline.proofs.inline.InlineVec.resize_with.Goals as goal

pub push_results-requires : goal.push_results-requires
push_results-requires g c =
    let callable : MayCallTimes (λ p. g.F.FnMut.pre p tt) (λ p y q. Called g.F.FnMut p tt y q)
    (c.args.new_len - c.len-len.result) c.args.f =
    subst
    (λ n. MayCallTimes (λ p. g.F.FnMut.pre p tt) (λ p y q. Called g.F.FnMut p tt y q)
    (c.args.new_len - n) c.args.f)
    (sym c.len-len.ensures) c.requires in
    (search rules, (c.in_ok-reserve.ensures.enough, callable))

pub returns-then-len-new_len-clause-filled : goal.returns-then-len-new_len-clause-filled
returns-then-len-new_len-clause-filled g c =
    λ longer. (
      c.push_results.new.f,
      results-roomy _ (type_size g.row.T) g.row.N c.args.self.now c.reserve.new.self _
          c.len-len.result c.args.new_len _ _ c.len-len.ensures c.in_ok-reserve.ensures.reserved
          c.push_results.ensures,
    )
