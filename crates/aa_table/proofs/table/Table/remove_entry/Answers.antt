use Rattle.std.proofs.Common.{Some, ap, arith, length, sym, ◌∙◌, ◌-◌}
use Rattle.std.specs.Map.{lookup_entry}
use Rattle.std.proofs.lemmas.List.{length-set}
use Rattle.allocator_api2.specs.Places.{somes}
use Rattle.aa_table.specs.Contents.{TableView}
use Rattle.aa_table.specs.Places.{hash_by, hashes, hashes_of}
use Rattle.aa_table.proofs.Lookups.{entry-found, entry-gone, no-keys, no-value, none-gone, passes, taken, value-gone}
use Rattle.aa_table.proofs.Placed.{all-others, hash-here, no-entry}
use Rattle.aa_table.proofs.Sound.{findable-by, one-less, removed}
use Rattle.aa_table.proofs.table.Table.remove_entry.Goals as goal

pub find_in-requires : goal.find_in-requires
find_in-requires g c =
    findable-by c.self.invariant (g.Q.Lookup.matches c.args.key) c.hash_of-hash.result
    (λ k h. c.hash_of-hash.ensures ∙ ap (hash_by g.S.BuildHasher g.S.Hasher.Hasher c.self.inside.builder) (g.met.Q.Lookup.like_hash c.args.key k h))

pub returns-in_default-clause-old : goal.returns-in_default-clause-old
returns-in_default-clause-old g c =
    let test = g.Q.Lookup.matches c.args.key in
    sym (no-entry test (somes c.self.inside.places.places) (no-keys c.self.invariant test (g.met.Q.Lookup.like_eq c.args.key) c.in_default.ensures.absent))
    ∙ ap (λ (f : TableView _ _ _). lookup_entry test f.entries) c.self.view_is

pub returns-in_default-clause-others : goal.returns-in_default-clause-others
returns-in_default-clause-others g c =
    let test = g.Q.Lookup.matches c.args.key in
    rw (ap (λ (f : TableView _ _ _). f.entries) (sym c.self.view_is)) (sym (all-others test (somes c.self.inside.places.places) (no-keys c.self.invariant test (g.met.Q.Lookup.like_eq c.args.key) c.in_default.ensures.absent)))

pub returns-in_default-clause-removed : goal.returns-in_default-clause-removed
returns-in_default-clause-removed g c =
    rw (ap (λ (f : TableView _ _ _). f.entries) (sym c.self.view_is)) (none-gone c.self.invariant (g.Q.Lookup.matches c.args.key) (g.met.Q.Lookup.like_eq c.args.key) c.in_default.ensures.absent)

pub returns-in_default-clause-taken : goal.returns-in_default-clause-taken
returns-in_default-clause-taken g c =
    rw (ap (λ (f : TableView _ _ _). f.entries) (sym c.self.view_is)) (no-value c.self.invariant (g.Q.Lookup.matches c.args.key) (g.met.Q.Lookup.like_eq c.args.key) c.in_default.ensures.absent)

-- each of these knows the entry by what was taken out
pub overflow_sub-self : goal.overflow_sub-self
overflow_sub-self g c =
    let t = c.self.invariant in let entry = c.take_out-entry.result in
    omega (arith, t.counted, one-less t entry.0 c.in-Some.slot entry c.take_out-entry.ensures.value (t.keys.equality.refl entry.0))

pub invariant_of-self : goal.invariant_of-self
invariant_of-self g c =
    let t = c.self.invariant in let entry = c.take_out-entry.result in let out = c.take_out-entry.ensures in let index = c.in-Some-index.index in
    let h = hashes g.S.BuildHasher g.S.Hasher.Hasher g.K.Hash.hash_input c.self.inside.builder in let cs = c.self.inside.places.places in
    let here = t.keys.equality.refl entry.0 in
    let i = rw c.in-Some-index.is at t.indexed in
    let there = passes t (g.Q.Lookup.matches c.args.key) (g.met.Q.Lookup.like_eq c.args.key) c.in-Some.slot entry out.value c.in-Some.ensures.found in
    let hash = c.hash_of-hash.ensures ∙ ap (hash_by g.S.BuildHasher g.S.Hasher.Hasher c.self.inside.builder) (g.met.Q.Lookup.like_hash c.args.key entry.0 there) in
    removed t entry.0 c.in-Some.slot entry out.value here index c.take_out-entry.new.self c.take_out-entry.new.places (c.self.inside.count - 1) out.taken (ap length out.tags ∙ length-set index.tags.items c.in-Some.slot 0)
    (out.index (hashes_of h cs) i (hash-here h cs i c.in-Some.slot entry out.value ∙ ap Some (sym hash))) (rw c.in-Some-index.is at t.room) (rw c.in-Some-index.is at t.memory) (omega (arith, t.counted, one-less t entry.0 c.in-Some.slot entry out.value here))

pub returns-clause-old : goal.returns-clause-old
returns-clause-old g c =
    let test = g.Q.Lookup.matches c.args.key in
    sym (entry-found c.self.invariant test (g.met.Q.Lookup.like_eq c.args.key) c.in-Some.slot c.take_out-entry.result c.take_out-entry.ensures.value c.in-Some.ensures.found)
    ∙ ap (λ (f : TableView _ _ _). lookup_entry test f.entries) c.self.view_is

pub returns-clause-others : goal.returns-clause-others
returns-clause-others g c =
    let out = c.take_out-entry.ensures in
    rw (out.taken, ap (λ (f : TableView _ _ _). f.entries) (sym c.self.view_is))
    (entry-gone c.self.invariant (g.Q.Lookup.matches c.args.key) (g.met.Q.Lookup.like_eq c.args.key) c.in-Some.slot c.take_out-entry.result out.value c.in-Some.ensures.found)

pub returns-clause-removed : goal.returns-clause-removed
returns-clause-removed g c =
    let out = c.take_out-entry.ensures in
    rw (out.taken, ap (λ (f : TableView _ _ _). f.entries) (sym c.self.view_is))
    (value-gone c.self.invariant (g.Q.Lookup.matches c.args.key) (g.met.Q.Lookup.like_eq c.args.key) c.in-Some.slot c.take_out-entry.result out.value c.in-Some.ensures.found)

pub returns-clause-taken : goal.returns-clause-taken
returns-clause-taken g c =
    let out = c.take_out-entry.ensures in
    rw out.taken
    (taken c.self.invariant (g.Q.Lookup.matches c.args.key) (g.met.Q.Lookup.like_eq c.args.key) c.in-Some.slot c.take_out-entry.result out.value c.in-Some.ensures.found)

pub returns-clause-one_less : goal.returns-clause-one_less
returns-clause-one_less g c = λ _.
    let t = c.self.invariant in let entry = c.take_out-entry.result in let out = c.take_out-entry.ensures in
    rw (out.taken, ap (λ (f : TableView _ _ _). f.entries) (sym c.self.view_is)) (one-less t entry.0 c.in-Some.slot entry out.value (t.keys.equality.refl entry.0))

pub returns-clause-room : goal.returns-clause-room
returns-clause-room g c = λ _.
    let t = c.self.invariant in let entry = c.take_out-entry.result in let out = c.take_out-entry.ensures in
    omega (arith, ap (λ cs. length (somes cs)) out.taken, one-less t entry.0 c.in-Some.slot entry out.value (t.keys.equality.refl entry.0), t.counted, t.within, ap (λ (f : TableView _ _ _). f.capacity) c.self.view_is)
