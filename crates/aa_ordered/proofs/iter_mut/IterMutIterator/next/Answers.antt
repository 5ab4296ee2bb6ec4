use Rattle.std.proofs.Common.{◌<◌, arith, ap, length, sym, subst, ◌∙◌}
use Rattle.std.proofs.lemmas.List.{nil_from_length}
use Rattle.aa_raw.specs.EntriesMut.{places_left}
use Rattle.aa_ordered.specs.IterMut.{entries_in, IsLending}
use Rattle.aa_ordered.proofs.Lending.{back-same, back-some, enters-first, first-same, first-taken, first-there, first-within, moves-back, stays-first}
use Rattle.aa_ordered.proofs.iter_mut.IterMutIterator.next.Goals as goal

pub overflow_mul-self : goal.overflow_mul-self
overflow_mul-self g c =
    let it = c.list.self-inside in let cs = places_left it.entries in
    let r = subst (λ hs. IsLending cs hs it.at it.end it.from it.until it.left)
    c.in-Some.ensures.cases.0 c.list.invariant.lending in
    omega (arith, first-within r)

pub overflow_add-self : goal.overflow_add-self
overflow_add-self g c =
    let it = c.list.self-inside in let cs = places_left it.entries in
    let r = subst (λ hs. IsLending cs hs it.at it.end it.from it.until it.left)
    c.in-Some.ensures.cases.0 c.list.invariant.lending in
    omega (arith, first-within r)

pub list-preserved-in-Some : goal.list-preserved-in-Some
list-preserved-in-Some g c =
    let it = c.list.self-inside in let cs = places_left it.entries in
    let inv = c.list.invariant in let cut = c.in-Some.ensures.cases.0 in
    let r = subst (λ hs. IsLending cs hs it.at it.end it.from it.until it.left) cut inv.lending in
    record {
      some = inv.some;
      lending = enters-first r c.list-test.true;
      entries = sym (first-same r c.list-test.true)
          ∙ ap (λ hs. entries_in cs hs it.at it.end it.from it.until) (sym cut) ∙ inv.entries;
      borrow = inv.borrow;
    }

pub list-preserved : goal.list-preserved
list-preserved g c =
    let it = c.list.self-inside in let cs = places_left it.entries in let inv = c.list.invariant in
    let none = nil_from_length it.heads.now c.in-None.ensures.cases in
    let r = subst (λ hs. IsLending cs hs it.at it.end it.from it.until it.left) none inv.lending in
    rw none (record {
      some = inv.some;
      lending = moves-back r c.list-test.true;
      entries = sym (back-same r c.list-test.true)
          ∙ ap (λ hs. entries_in cs hs it.at it.end it.from it.until) (sym none) ∙ inv.entries;
      borrow = inv.borrow;
    })

pub list-smaller : goal.list-smaller
list-smaller g c =
    let it = c.list.self-inside in let cs = places_left it.entries in let inv = c.list.invariant in
    let none = nil_from_length it.heads.now c.in-None.ensures.cases in
    let r = subst (λ hs. IsLending cs hs it.at it.end it.from it.until it.left) none inv.lending in
    omega (arith, back-some r c.list-test.true inv.some)

pub overflow_add-self-2 : goal.overflow_add-self-2
overflow_add-self-2 g c =
    let p = c.list.invariant.lending.parts.front in
    omega (arith, p.order, p.small, c.list-test.false)

pub take-requires : goal.take-requires
take-requires g c =
    let r = c.list.invariant.lending in
    let more : c.list.self-inside.at < c.list.self-inside.end
    = omega (arith, r.parts.front.order, c.list-test.false) in
    first-there r more

pub invariant_of-self : goal.invariant_of-self
invariant_of-self g c =
    let r = c.list.invariant.lending in
    let more : c.list.self-inside.at < c.list.self-inside.end
    = omega (arith, r.parts.front.order, c.list-test.false) in
    let x : g.row.K.Denot × g.row.V.Denot = (c.take.result.0.now, c.take.result.1.now) in
    rw c.take.ensures.places (stays-first r more x c.take.ensures.value)

pub returns-clause-steps : goal.returns-clause-steps
returns-clause-steps g c =
    let r = c.list.invariant.lending in
    let more : c.list.self-inside.at < c.list.self-inside.end
    = omega (arith, r.parts.front.order, c.list-test.false) in
    let x : g.row.K.Denot × g.row.V.Denot = (c.take.result.0.now, c.take.result.1.now) in
    sym c.list.invariant.entries
    ∙ rw c.take.ensures.places (first-taken r more x c.take.ensures.value)

pub returns-clause-goes : goal.returns-clause-goes
returns-clause-goes g c =
    let steps = returns-clause-steps g c in
    record {
      on = λ finite. (tt, tt, omega (arith, ap length steps));
      keeps = tt;
      rests = λ finite. tt;
    }
