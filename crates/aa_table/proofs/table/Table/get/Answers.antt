use Rattle.std.proofs.Common.{ap, sym, ◌∙◌}
use Rattle.std.specs.Map.{lookup}
use Rattle.aa_table.specs.Contents.{TableView}
use Rattle.aa_table.specs.Places.{hash_by}
use Rattle.aa_table.proofs.Lookups.{no-value, value-found}
use Rattle.aa_table.proofs.Sound.{findable-by}
use Rattle.aa_table.proofs.table.Table.get.Goals as goal

pub find_in-requires : goal.find_in-requires
find_in-requires g c =
    findable-by c.self.invariant (g.Q.Lookup.matches c.args.key) c.hash_of-hash.result
    (λ k h. c.hash_of-hash.ensures ∙ ap (hash_by g.S.BuildHasher g.S.Hasher.Hasher c.self.inside.builder) (g.met.Q.Lookup.like_hash c.args.key k h))

pub returns-in-Some : goal.returns-in-Some
returns-in-Some g c =
    let test = g.Q.Lookup.matches c.args.key in
    sym (value-found c.self.invariant test (g.met.Q.Lookup.like_eq c.args.key) c.in-Some.slot c.place.result.now c.place.ensures c.in-Some.ensures.found)
    ∙ ap (λ (f : TableView _ _ _). lookup test f.entries) c.self.view_is

pub returns-in-None : goal.returns-in-None
returns-in-None g c =
    let test = g.Q.Lookup.matches c.args.key in
    sym (no-value c.self.invariant test (g.met.Q.Lookup.like_eq c.args.key) c.in-None.ensures.absent)
    ∙ ap (λ (f : TableView _ _ _). lookup test f.entries) c.self.view_is
