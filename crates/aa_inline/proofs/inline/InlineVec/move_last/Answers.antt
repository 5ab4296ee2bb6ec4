use Rattle.std.proofs.Common.{◌++◌, ◌∷◌, ◌-◌, ◌≡◌, ◌+◌, [], length, refl, sym, ap, ◌∙◌, arith, length-append}
use Rattle.std.specs.Prelude.{reverse}
use Rattle.std.proofs.lemmas.List.{append-nil}
use Rattle.aa_inline.specs.Inlined.{with_items}
use Rattle.aa_inline.proofs.Bringing.{moved-on, put-none, put-on, room-on}
use Rattle.aa_inline.proofs.inline.InlineVec.move_last.Goals as goal

pub each-init : goal.each-init
each-init g c =
    let xs = c.args.self.now.items in (
      ap (λ ys. xs ++ reverse ys) c.requires.empty ∙ append-nil xs,
      refl,
      put-none c.args.to.now c.requires.empty,
      c.requires.within,
      c.requires.room,
    )

pub each-preserved : goal.each-preserved
each-preserved g c =
    let ys = c.each.self.items in let ws = c.pop.new.self.items in let x = c.in-Some.item in let inv = c.each.invariant in
    let taken : ys ≡ ws ++ x ∷ [] = c.in-Some.ensures.taken in
    let one : length ws + 1 ≡ length ys = omega (arith, ap length taken, length-append ws (x ∷ [])) in (
      ap (λ s. ws ++ reverse s.items) c.put_last.ensures ∙ moved-on ys ws c.each.to.items c.args.self.now.items x inv.0 taken,
      c.in-Some.ensures.kept ∙ ap (λ s. with_items s ws) inv.1,
      put-on c.args.to.now c.each.to c.put_last.new.self x inv.2 c.put_last.ensures,
      omega (arith, one, c.each-test.true, c.len.ensures),
      room-on g.row.N c.each.to c.put_last.new.self x (length ys - c.args.rest) (length ws - c.args.rest) c.put_last.ensures inv.4 (omega (arith, one, c.each-test.true, c.len.ensures)),
    )

pub returns-clause-whole : goal.returns-clause-whole
returns-clause-whole g c = sym c.each.invariant.0
