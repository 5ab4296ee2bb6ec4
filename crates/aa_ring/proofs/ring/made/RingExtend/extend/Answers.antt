use Rattle.std.proofs.Common.{[], refl, inl, inr}
use Rattle.std.specs.Mem.{type_size}
use denote.Param.{param}
use Rattle.aa_ring.proofs.Extending.{extended-all, extended-by-pushes, front-yielded}
use Rattle.aa_ring.proofs.ring.made.RingExtend.extend.Goals as goal

-- the items that were pushed before the error
pub returns-in-Err-clause-extended : goal.returns-in-Err-clause-extended
returns-in-Err-clause-extended g c =
    let bytes = type_size (param 0 g.row.T) in let steps = g.I.IntoIter.Iterator.next_gives in
    let old = c.args.self.now in let new = c.extend.new.self in
    let failed = c.in-Err.ensures.failed in let it = failed.0 in let fails = failed.2 in
    elim fails.why [
      | inl early ↦ (it, [], failed.1, extended-by-pushes bytes old [] new early.1, (it, refl))
      | inr late ↦
          let put = extended-all bytes old fails.bound late.front new late.put in (
            it,
            late.front,
            failed.1,
            put,
            front-yielded steps it late.front late.item late.last late.yields,
          )
    ]

pub returns-in-Ok-clause-extended : goal.returns-in-Ok-clause-extended
returns-in-Ok-clause-extended g c =
    let all = c.in-Ok.ensures.extended in let ran = all.2 in
    let put = extended-all (type_size
    (param 0 g.row.T)) c.args.self.now ran.bound ran.added c.extend.new.self ran.put in
    (all.0, ran.added, all.1, put, ran.yields)
