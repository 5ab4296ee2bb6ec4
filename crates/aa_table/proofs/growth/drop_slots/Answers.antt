use Rattle.std.proofs.Common.{None, get_or-set_other, ap, arith, inl, inr, ◌∙◌}
use Rattle.std.proofs.lemmas.List.{length-set}
use Rattle.std.proofs.lemmas.Bool.{cases_eq}
use Rattle.std.proofs.lemmas.Bool.Decides.{nat_tests}
use Rattle.allocator_api2.specs.Block.{Block}
use Rattle.aa_table.proofs.Moving.{emptied-same}
use Rattle.aa_table.proofs.growth.drop_slots.Goals as goal
use Rattle.aa_table.proofs.growth.drop_slots.Goals.{then-not-is_free, else-not-is_free}

pub each-preserved : goal.each-preserved
each-preserved g c = elim c.if-not-is_free.branch [
  | then-not-is_free w ↦
      let i = c.each.invariant in let cs = c.each.places.places in let slot = c.each.slot in
      let gone = ap (λ (b : Block _ _). b.places) w.take.ensures.after in
      rw (w.places-is, gone) (record {
        len = length-set cs slot None ∙ i.len;
        gone = λ s a b t. elim (cases_eq s slot) [
          | inl e ↦ rw e (emptied-same cs slot)
          | inr n ↦ get_or-set_other cs slot s None None n ∙ i.gone s a (omega (arith, b, n)) t
        ];
        others = λ s n. elim (cases_eq s slot) [
          | inl e ↦ rw e (emptied-same cs slot)
          | inr m ↦ get_or-set_other cs slot s None None m ∙ i.others s n
        ];
        same = λ s l. get_or-set_other cs slot s None None (λ e. omega (arith, l, e)) ∙ i.same s (omega (arith, l));
        after = λ s l. get_or-set_other cs slot s None None (λ e. omega (arith, l, e, c.each-test.true)) ∙ i.after s l;
      })
  | else-not-is_free w ↦
      let i = c.each.invariant in
      rw w.places-is (record {
        len = i.len;
        gone = λ s a b t. elim (cases_eq s c.each.slot) [
          | inl e ↦ absurd (t (rw e (grind (arith, nat_tests, w.if-not-is_free.false, c.is_free.ensures))))
          | inr n ↦ i.gone s a (omega (arith, b, n)) t
        ];
        others = i.others;
        same = λ s l. i.same s (omega (arith, l));
        after = i.after;
      })
]
