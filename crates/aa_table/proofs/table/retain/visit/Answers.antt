use Rattle.std.proofs.Common.{None, Some, false, true, ap, arith, get_or, refl, slice_set, subst, sym, ◌∙◌, ◌==◌, ◌≡◌}
use Rattle.std.proofs.lemmas.Bool.Decides.{nat_tests}
use Rattle.aa_table.specs.Places.{hashes}
use Rattle.aa_table.specs.Slots.{IsIndex, tag_at}
use Rattle.aa_table.proofs.Moving.{emptied-same}
use Rattle.aa_table.proofs.Placed.{free}
use Rattle.aa_table.proofs.Retaining.{changed-count, removed-count, same-hashes, set-twice}
use Rattle.aa_table.proofs.table.retain.visit.Goals as goal

pub returns-then-is_free-clause-visited : goal.returns-then-is_free-clause-visited
returns-then-is_free-clause-visited g c =
    let h = hashes g.S.BuildHasher g.S.Hasher.Hasher g.K.Hash.hash_input c.args.builder.now in
    let tag : (tag_at c.args.index.now.tags.items c.args.slot == 0) ≡ true = ap (λ ts. tag_at ts c.args.slot == 0) (sym c.as_slice.ensures) ∙ sym c.is_free.ensures ∙ c.if-is_free.true in
    let is : tag_at c.args.index.now.tags.items c.args.slot ≡ 0 = grind (arith, nat_tests, tag) in
    rw (free h c.args.places.now.places c.requires.index c.args.slot is) (refl, refl)

pub returns-then-call_for-clause-count : goal.returns-then-call_for-clause-count
returns-then-call_for-clause-count g c = omega (arith, changed-count c.args.places.now.places c.args.slot c.place_mut.result.now c.call_for.new.entry c.place_mut.ensures.value)

pub returns-then-call_for-clause-index : goal.returns-then-call_for-clause-index
returns-then-call_for-clause-index g c =
    let h = hashes g.S.BuildHasher g.S.Hasher.Hasher g.K.Hash.hash_input c.args.builder.now in
    subst (IsIndex c.args.index.now.tags.items c.args.index.now.overflows.items) (sym (same-hashes h c.args.places.now.places c.args.slot c.place_mut.result.now c.call_for.new.entry c.place_mut.ensures.value c.call_for.ensures.same)) c.requires.index

pub discard-requires-clause-index : goal.discard-requires-clause-index
discard-requires-clause-index g c =
    let h = hashes g.S.BuildHasher g.S.Hasher.Hasher g.K.Hash.hash_input c.args.builder.now in
    subst (IsIndex c.args.index.now.tags.items c.args.index.now.overflows.items) (sym (same-hashes h c.args.places.now.places c.args.slot c.place_mut.result.now c.call_for.new.entry c.place_mut.ensures.value c.call_for.ensures.same)) c.requires.index

pub returns-clause-visited : goal.returns-clause-visited
returns-clause-visited g c =
    let gone = ap (λ cs. get_or cs c.args.slot None) c.discard.ensures.taken ∙ emptied-same _ c.args.slot in
    rw c.place_mut.ensures.value (false, c.call_for.new.entry.1, rw c.if-call_for.false at c.call_for.ensures.called, gone)

pub returns-clause-others : goal.returns-clause-others
returns-clause-others g c =
    let gone = ap (λ cs. get_or cs c.args.slot None) c.discard.ensures.taken ∙ emptied-same _ c.args.slot in
    c.discard.ensures.taken ∙ set-twice c.args.places.now.places c.args.slot _ None ∙ ap (slice_set c.args.places.now.places c.args.slot) (sym gone)

pub returns-clause-count : goal.returns-clause-count
returns-clause-count g c =
    rw (c.discard.ensures.taken, set-twice c.args.places.now.places c.args.slot (Some c.call_for.new.entry) None) (removed-count c.args.places.now.places c.args.slot c.place_mut.result.now c.place_mut.ensures.value)
