use Rattle.std.proofs.Common.{Some, ap, refl, subst, sym, true, ◌∙◌, ◌≡◌}
use Rattle.std.specs.Option.{option_map}
use Rattle.allocator_api2.specs.Places.{somes}
use Rattle.aa_table.specs.Contents.{entry_of, TableView}
use Rattle.aa_table.proofs.Entries.{key-written}
use Rattle.aa_table.proofs.Placed.{entry-read, no-entry}
use Rattle.aa_table.proofs.Sound.{absent-keys, findable, is-here, written}
use Rattle.aa_table.proofs.table.Table.replace_key.Goals as goal

pub find_in-requires : goal.find_in-requires
find_in-requires g c = findable c.self.invariant c.args.key c.hash_of-hash.result c.hash_of-hash.ensures

pub invariant_of-self : goal.invariant_of-self
invariant_of-self g c =
    let t = c.self.invariant in let e = c.place_mut.result.now in let at = c.place_mut.ensures.value in
    let here = is-here t c.args.key c.in-Some.slot e at c.in-Some.ensures.found in
    let same = subst (λ k. g.K.PartialEq.eq c.args.key k ≡ true) (sym c.replace.ensures.after) (t.keys.equality.refl c.args.key) in
    written t c.args.key c.in-Some.slot e (c.replace.new.dest, e.1) at here same _ refl

pub returns-in-Some-clause-old : goal.returns-in-Some-clause-old
returns-in-Some-clause-old g c =
    let t = c.self.invariant in let e = c.place_mut.result.now in let at = c.place_mut.ensures.value in
    let here = is-here t c.args.key c.in-Some.slot e at c.in-Some.ensures.found in
    ap (option_map (λ (x : _ × _). x.0))
    (sym (ap (λ (f : TableView _ _ _). entry_of g.K.PartialEq.eq f.entries c.args.key) c.self.view_is)
    ∙ entry-read (g.K.PartialEq.eq c.args.key) c.self.inside.places.places c.in-Some.slot e at here (t.once c.args.key))
    ∙ ap (λ k. Some k) (sym c.replace.ensures.value)

pub returns-in-Some-clause-replaced : goal.returns-in-Some-clause-replaced
returns-in-Some-clause-replaced g c =
    let t = c.self.invariant in let e = c.place_mut.result.now in let at = c.place_mut.ensures.value in
    let here = is-here t c.args.key c.in-Some.slot e at c.in-Some.ensures.found in
    rw (c.replace.ensures.after, sym (ap (λ (f : TableView _ _ _). f.entries) c.self.view_is)) (key-written g.K.PartialEq.eq c.args.key c.self.inside.places.places c.in-Some.slot e c.args.key at here (t.once c.args.key))

pub returns-in-None-clause-absent : goal.returns-in-None-clause-absent
returns-in-None-clause-absent g c =
    sym (ap (λ (f : TableView _ _ _). entry_of g.K.PartialEq.eq f.entries c.args.key) c.self.view_is)
    ∙ no-entry (g.K.PartialEq.eq c.args.key) (somes c.self.inside.places.places) (absent-keys c.self.invariant c.args.key c.in-None.ensures.absent)
