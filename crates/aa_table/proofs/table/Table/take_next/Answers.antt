use Rattle.std.proofs.Common.{Some, ap, arith, length, sym, ◌∙◌, ◌-◌, ◌≡◌}
use Rattle.std.proofs.lemmas.Bool.Decides.{nat_tests}
use Rattle.std.proofs.lemmas.List.{length-set}
use Rattle.aa_table.specs.Contents.{TableView}
use Rattle.aa_table.specs.Places.{hashes, hashes_of}
use Rattle.aa_table.proofs.Moving.{all-none, none-left}
use Rattle.aa_table.proofs.Placed.{hash-here}
use Rattle.aa_table.proofs.Sound.{all-free, all-held, one-less, removed, without}
use Rattle.aa_table.proofs.table.Table.take_next.Goals as goal

pub returns-then-self-eq0-clause-taken : goal.returns-then-self-eq0-clause-taken
returns-then-self-eq0-clause-taken g c =
    let t = c.self.invariant in let cs = c.self.inside.places.places in
    let zero : c.self.inside.count ≡ 0 = grind (arith, nat_tests, c.if-self-eq0.true) in
    let none = none-left cs (all-none cs (omega (arith, t.counted, zero))) in
    rw (ap (λ (f : TableView _ _ _). f.entries) (sym c.self.view_is)) (none, none)

pub place-requires : goal.place-requires
place-requires g c =
    let some = rw c.tags_in.ensures at c.in-Some.ensures.some in
    all-held c.self.invariant c.in-Some.slot some.0 some.1

pub returns-in_default-clause-taken : goal.returns-in_default-clause-taken
returns-in_default-clause-taken g c =
    let none = none-left c.self.inside.places.places (λ s. all-free c.self.invariant s (rw c.tags_in.ensures at (c.in_default.ensures.none s))) in
    rw (ap (λ (f : TableView _ _ _). f.entries) (sym c.self.view_is)) (none, none)

pub overflow_sub-self : goal.overflow_sub-self
overflow_sub-self g c =
    let t = c.self.invariant in let entry = c.take_out-entry.result in let at = c.take_out-entry.ensures.value in
    omega (arith, t.counted, one-less t entry.0 c.in-Some.slot entry at (t.keys.equality.refl entry.0))

pub invariant_of-self : goal.invariant_of-self
invariant_of-self g c =
    let t = c.self.invariant in let entry = c.take_out-entry.result in let out = c.take_out-entry.ensures in let index = c.in-Some-index.index in
    let h = hashes g.S.BuildHasher g.S.Hasher.Hasher g.K.Hash.hash_input c.self.inside.builder in let cs = c.self.inside.places.places in
    let here = t.keys.equality.refl entry.0 in
    let i = rw c.in-Some-index.is at t.indexed in
    removed t entry.0 c.in-Some.slot entry out.value here index c.take_out-entry.new.self c.take_out-entry.new.places (c.self.inside.count - 1) out.taken (ap length out.tags ∙ length-set index.tags.items c.in-Some.slot 0)
    (out.index (hashes_of h cs) i (hash-here h cs i c.in-Some.slot c.place.result.now c.place.ensures ∙ ap Some (sym c.hash_of-hash.ensures))) (rw c.in-Some-index.is at t.room) (rw c.in-Some-index.is at t.memory) (omega (arith, t.counted, one-less t entry.0 c.in-Some.slot entry out.value here))

pub returns-clause-taken : goal.returns-clause-taken
returns-clause-taken g c =
    let t = c.self.invariant in let entry = c.take_out-entry.result in let out = c.take_out-entry.ensures in
    rw (out.taken, ap (λ (f : TableView _ _ _). f.entries) (sym c.self.view_is)) (without t entry.0 c.in-Some.slot entry out.value (t.keys.equality.refl entry.0))
