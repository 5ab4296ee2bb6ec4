use Rattle.std.proofs.Common.{rules, ◌≡◌, ◌+◌, ◌<◌, length, sym, ap, ◌∙◌, arith}
use Rattle.aa_ring.specs.Ringed.{with_items}
use Rattle.aa_ring.proofs.Exchanging.{swap-same, filled-at, apart-at, exchanged-items, has-exchanged, length-exchanged}
use Rattle.aa_ring.proofs.Rings.{length-parts}
use Rattle.aa_ring.proofs.ring.Ring.swap.Goals as goal

pub returns-then-i-j : goal.returns-then-i-j
returns-then-i-j g c = ap (with_items c.args.self.now) (swap-same c.args.self.now.items c.args.i c.args.j c.if-i-j.true)

pub pair_with-requires-clause-filled : goal.pair_with-requires-clause-filled
pair_with-requires-clause-filled g c =
    let r = c.self.inside in
    let first : c.args.i < r.count + r.wrapped = omega (arith, c.requires.0, ap (λ s. length s.items) c.self.view_is, length-parts _ _ _ _ c.self.invariant) in
    let second : c.args.j < r.count + r.wrapped = omega (arith, c.requires.1, ap (λ s. length s.items) c.self.view_is, length-parts _ _ _ _ c.self.invariant) in (
      rw c.place_of-first.ensures (filled-at r.block.places r.front r.count r.wrapped c.args.i c.self.invariant first),
      rw c.place_of-second.ensures (filled-at r.block.places r.front r.count r.wrapped c.args.j c.self.invariant second),
      λ same. apart-at r.block.places r.front r.count r.wrapped c.args.i c.self.invariant first c.args.j second c.if-i-j.false (sym c.place_of-first.ensures ∙ same ∙ c.place_of-second.ensures),
    )

pub invariant_of-self : goal.invariant_of-self
invariant_of-self g c =
    let r = c.self.inside in let p = c.pair_with.ensures in
    let first : c.args.i < r.count + r.wrapped = omega (arith, c.requires.0, ap (λ s. length s.items) c.self.view_is, length-parts _ _ _ _ c.self.invariant) in
    let second : c.args.j < r.count + r.wrapped = omega (arith, c.requires.1, ap (λ s. length s.items) c.self.view_is, length-parts _ _ _ _ c.self.invariant) in
    rw (p.left, c.place_of-first.ensures, c.place_of-second.ensures) (has-exchanged r.block.places r.front r.count r.wrapped c.args.i c.args.j c.self.invariant first second p.second_left p.first_left)

pub returns : goal.returns
returns g c =
    let r = c.self.inside in let p = c.pair_with.ensures in let b = r.block in let i = c.args.i in let j = c.args.j in
    let first : i < r.count + r.wrapped = omega (arith, c.requires.0, ap (λ s. length s.items) c.self.view_is, length-parts _ _ _ _ c.self.invariant) in
    let second : j < r.count + r.wrapped = omega (arith, c.requires.1, ap (λ s. length s.items) c.self.view_is, length-parts _ _ _ _ c.self.invariant) in
    let x : p.second_left ≡ p.first = search rules in let y : p.first_left ≡ p.second = search rules in
    let had = rw (c.place_of-first.ensures, c.place_of-second.ensures) at p.had in
    rw (p.left, c.place_of-first.ensures, c.place_of-second.ensures, x, y, ← c.self.view_is) (λ t. record {
      items = exchanged-items b.places r.front r.count r.wrapped i j c.self.invariant first second p.first p.second had.0 had.1 t;
      capacity = length-exchanged b.places r.front r.count r.wrapped i j c.self.invariant first second p.first p.second t;
      growth = b.growth;
      grown = b.grown;
      written = r.added.count + b.written;
      alloc = b.alloc;
    })
