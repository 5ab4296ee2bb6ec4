use Rattle.std.proofs.Common.{arith, inl, inr, sym, ◌∙◌, ◌*◌, ◌≡◌}
use Rattle.std.proofs.lemmas.Bool.{cases_lt}
use Rattle.std.proofs.lemmas.Bool.Decides.{nat_tests}
use Rattle.aa_table.specs.Walks.{mask_of}
use Rattle.aa_table.proofs.Walking.{none-left}
use Rattle.aa_table.proofs.growth.drop_between.Goals as goal
use Rattle.aa_table.proofs.growth.drop_between.Goals.{then-taken_in-ne0, else-taken_in-ne0}

pub each-preserved : goal.each-preserved
each-preserved g c = elim c.if-taken_in-ne0.branch [
  | then-taken_in-ne0 w ↦
      let i = c.each.invariant in let drop = w.drop_slots.ensures in
      rw w.places-is (record {
        len = drop.len ∙ i.len;
        gone = λ s a b e t. elim (cases_lt s (16 * c.each.group)) [
          | inl l ↦ drop.others s (i.gone s a l e t)
          | inr m ↦ drop.dropped s (omega (arith, a, m)) (omega (arith, b, e)) t
        ];
        others = λ s n. drop.others s (i.others s n);
        same = λ s l. drop.after s (omega (arith, l)) ∙ i.same s (omega (arith, l));
      })
  | else-taken_in-ne0 w ↦
      let i = c.each.invariant in
      let none : c.taken_in.result ≡ 0 = grind (arith, nat_tests, w.if-taken_in-ne0.false) in
      let mask : mask_of c.args.tags.now (c.each.group * 16) 0 ≡ 0 = sym (c.taken_in.ensures 0 (omega arith)) ∙ none in
      rw w.places-is (record {
        len = i.len;
        gone = λ s a b e t. elim (cases_lt s (16 * c.each.group)) [
          | inl l ↦ i.gone s a l e t
          | inr m ↦ absurd (t (none-left c.args.tags.now (c.each.group * 16) 0 mask s (omega arith) (omega (arith, m)) (omega (arith, b))))
        ];
        others = i.others;
        same = λ s l. i.same s (omega (arith, l));
      })
]
