use Rattle.std.proofs.Common.{get_or-set_other, None, Some, ap, arith, get_or, length, refl, subst, sym, ◌∙◌, ◌≡◌, ◌++◌, inl, inr}
use Rattle.std.specs.Prelude.{IsPermutation}
use Rattle.std.proofs.lemmas.Bool.{cases_eq, cases_lt}
use Rattle.std.proofs.lemmas.List.Sorted.{IsPermutation-refl}
use Rattle.std.proofs.lemmas.Bool.Decides.{nat_tests}
use Rattle.std.proofs.lemmas.List.{length-set}
use Rattle.allocator_api2.specs.Block.{Block}
use Rattle.allocator_api2.specs.Places.{somes}
use Rattle.aa_table.specs.Slots.{IsIndex}
use Rattle.aa_table.specs.Places.{hashes, hashes_of}
use Rattle.aa_table.proofs.Moving.{both, emptied-same, moved-all, moved-one, none-left, past}
use Rattle.aa_table.proofs.Placed.{free, hashes-set, held, places, some-free}
use Rattle.aa_table.proofs.growth.move_all.Goals as goal
use Rattle.aa_table.proofs.growth.move_all.Goals.{then-not-is_free, else-not-is_free}

pub each-init : goal.each-init
each-init g c =
    let all = somes c.args.from.now.places in (
      subst (λ xs. IsPermutation all (xs ++ all)) (sym (none-left c.args.to.now.places c.requires.empty)) (IsPermutation-refl all),
      λ s l. absurd (omega arith),
      λ s l. refl,
      c.requires.index,
      refl,
      refl,
    )

pub put_new-requires-clause-free : goal.put_new-requires-clause-free
put_new-requires-clause-free g c =
    let h = hashes g.S.BuildHasher g.S.Hasher.Hasher g.K.Hash.hash_input c.args.builder.now in let i = c.each.invariant in
    some-free c.each.index.tags.items c.each.to.places (held h c.each.to.places i.3) (omega (arith, i.4, c.requires.room, both (somes c.args.from.now.places) c.each.from.places c.each.to.places i.0))

pub each-preserved : goal.each-preserved
each-preserved g c = elim c.if-not-is_free.branch [
  | then-not-is_free w ↦
      let i = c.each.invariant in let h = hashes g.S.BuildHasher g.S.Hasher.Hasher g.K.Hash.hash_input c.args.builder.now in
      let entry = w.take-entry.result in let at = w.put_new.result in let put = w.put_new.ensures in let value = w.take-entry.ensures.value in
      let gone = ap (λ (b : Block _ _). b.places) w.take-entry.ensures.after in
      rw (w.from-is, w.index-is, w.to-is, gone, put.put) (
        moved-one (somes c.args.from.now.places) c.each.from.places c.each.to.places c.each.slot at entry value (omega (arith, put.within, places h c.each.to.places i.3)) (free h c.each.to.places i.3 at put.was_free) i.0,
        λ s l. elim (cases_eq s c.each.slot) [ inl e ↦ rw e (emptied-same c.each.from.places c.each.slot) | inr ne ↦ get_or-set_other c.each.from.places c.each.slot s None None ne ∙ i.1 s (omega (arith, l, ne)) ],
        λ s l. get_or-set_other c.each.from.places c.each.slot s None None (λ e. omega (arith, l, e)) ∙ i.2 s (omega (arith, l)),
        subst (IsIndex w.put_new.new.self.tags.items w.put_new.new.self.overflows.items) (sym (hashes-set h c.each.to.places at (Some entry))) (rw w.hash_of-hash.ensures at (put.index (hashes_of h c.each.to.places) i.3)),
        ap length put.tags ∙ length-set c.each.index.tags.items at _ ∙ i.4,
        length-set c.each.to.places at (Some entry) ∙ i.5,
      )
  | else-not-is_free w ↦
      let i = c.each.invariant in
      let empty : get_or c.each.from.places c.each.slot None ≡ None = i.2 c.each.slot (omega arith) ∙ c.requires.free c.each.slot (grind (arith, nat_tests, w.if-not-is_free.false, c.is_free.ensures)) in
      rw (w.from-is, w.index-is, w.to-is) (
        i.0,
        λ s l. elim (cases_eq s c.each.slot) [ inl e ↦ rw e empty | inr ne ↦ i.1 s (omega (arith, l, ne)) ],
        λ s l. i.2 s (omega (arith, l)),
        i.3,
        i.4,
        i.5,
      )
]

pub returns-clause-moved : goal.returns-clause-moved
returns-clause-moved g c =
    let i = c.each.invariant in
    moved-all (somes c.args.from.now.places) c.each.from.places c.each.to.places (λ s. elim (cases_lt s c.each.slot) [
      | inl l ↦ i.1 s l
      | inr m ↦ i.2 s m ∙ c.requires.free s (past c.args.tags.now s (omega (arith, m, c.each-test.false)))
    ]) i.0
