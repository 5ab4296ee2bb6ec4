use Rattle.std.proofs.Common.{ap, inl, inr, refl, sym, ◌∙◌}
use Rattle.std.specs.Map.{lookup}
use Rattle.aa_table.specs.Contents.{TableView}
use Rattle.aa_table.specs.Places.{hash_by}
use Rattle.aa_table.proofs.Lookups.{no-value, once, passes, value-found}
use Rattle.aa_table.proofs.Sound.{findable-by, written, written-filled}
use Rattle.aa_table.proofs.table.Table.get_mut.Goals as goal

pub find_in-requires : goal.find_in-requires
find_in-requires g c =
    findable-by c.self.invariant (g.Q.Lookup.matches c.args.key) c.hash_of-hash.result
    (λ k h. c.hash_of-hash.ensures ∙ ap (hash_by g.S.BuildHasher g.S.Hasher.Hasher c.self.inside.builder) (g.met.Q.Lookup.like_hash c.args.key k h))

pub returns-in-None : goal.returns-in-None
returns-in-None g c =
    let test = g.Q.Lookup.matches c.args.key in
    let none = sym (no-value c.self.invariant test (g.met.Q.Lookup.like_eq c.args.key) c.in-None.ensures.absent) ∙ ap (λ (f : TableView _ _ _). lookup test f.entries) c.self.view_is in
    (λ i. inr (c.self.view_is i), record { writes_back = tt; value = none })

pub invariant_of-self-lent : goal.invariant_of-self-lent
invariant_of-self-lent g c v =
    let t = c.self.invariant in let e = c.place_mut.result.now in
    let same = t.keys.equality.refl e.0 in
    written t e.0 c.in-Some.slot e (e.0, v) c.place_mut.ensures.value same same _ refl

pub returns-in-Some : goal.returns-in-Some
returns-in-Some g c =
    let t = c.self.invariant in let e = c.place_mut.result.now in let at = c.place_mut.ensures.value in let found = c.in-Some.ensures.found in
    let test = g.Q.Lookup.matches c.args.key in let like = g.met.Q.Lookup.like_eq c.args.key in (
      λ i. inl (c.self-in-Some-1.given, λ w. written-filled test c.self.inside.places.places c.in-Some.slot e w at (passes t test like c.in-Some.slot e at found) (once t test like c.in-Some.slot e at found) c.self.view_is i),
      record { writes_back = tt; value = sym (value-found t test like c.in-Some.slot e at found) ∙ ap (λ (f : TableView _ _ _). lookup test f.entries) c.self.view_is },
    )
