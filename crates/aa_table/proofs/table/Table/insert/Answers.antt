use Rattle.std.proofs.Common.{Some, ap, arith, length, refl, sym, ◌∙◌, ◌∷◌}
use Rattle.std.proofs.lemmas.List.Sorted.{length_permutation}
use Rattle.aa_table.specs.Contents.{keys_like, value, TableView}
use Rattle.aa_table.proofs.Maps.{sets-new}
use Rattle.aa_table.proofs.Placed.{value-written}
use Rattle.aa_table.proofs.Sound.{absent, absent-keys, as-many, findable, is-here, read, sets-written, written}
use Rattle.aa_table.proofs.table.Table.insert.Goals as goal

pub find_in-requires : goal.find_in-requires
find_in-requires g c = findable c.self.invariant c.args.key c.hash_of-hash.result c.hash_of-hash.ensures

pub invariant_of-self : goal.invariant_of-self
invariant_of-self g c =
    let t = c.self.invariant in let e = c.place_mut.result.now in let at = c.place_mut.ensures.value in
    let here = is-here t c.args.key c.in-Some.slot e at c.in-Some.ensures.found in
    rw c.replace-old.ensures.after (written t c.args.key c.in-Some.slot e (e.0, c.args.item) at here here _ refl)

pub returns-in-Some-clause-old : goal.returns-in-Some-clause-old
returns-in-Some-clause-old g c =
    let t = c.self.invariant in let e = c.place_mut.result.now in let at = c.place_mut.ensures.value in
    ap (λ x. Some x) c.replace-old.ensures.value ∙ sym (read t c.args.key c.in-Some.slot e at c.in-Some.ensures.found)
    ∙ ap (λ (f : TableView _ _ _). value g.K.PartialEq.eq f.entries c.args.key) c.self.view_is

pub returns-in-Some-clause-inserted : goal.returns-in-Some-clause-inserted
returns-in-Some-clause-inserted g c =
    let t = c.self.invariant in let e = c.place_mut.result.now in let at = c.place_mut.ensures.value in
    let here = is-here t c.args.key c.in-Some.slot e at c.in-Some.ensures.found in
    rw (c.replace-old.ensures.after, sym (ap (λ (f : TableView _ _ _). f.entries) c.self.view_is)) (sets-written t c.args.key c.in-Some.slot e (e.0, c.args.item) at here here)

pub returns-in-Some-clause-written : goal.returns-in-Some-clause-written
returns-in-Some-clause-written g c = λ _.
    let t = c.self.invariant in let e = c.place_mut.result.now in let at = c.place_mut.ensures.value in
    let here = is-here t c.args.key c.in-Some.slot e at c.in-Some.ensures.found in
    rw (c.replace-old.ensures.after, sym (ap (λ (f : TableView _ _ _). f.entries) c.self.view_is)) (value-written (g.K.PartialEq.eq c.args.key) c.self.inside.places.places c.in-Some.slot e c.args.item at here (t.once c.args.key))

pub returns-in-Some-clause-replaced_count : goal.returns-in-Some-clause-replaced_count
returns-in-Some-clause-replaced_count g c = λ _.
    let t = c.self.invariant in let e = c.place_mut.result.now in let at = c.place_mut.ensures.value in
    let here = is-here t c.args.key c.in-Some.slot e at c.in-Some.ensures.found in
    as-many t c.args.key c.in-Some.slot e (e.0, c.replace-old.new.dest) at here here ∙ ap (λ (f : TableView _ _ _). length f.entries) c.self.view_is

pub insert_new-requires-clause-absent : goal.insert_new-requires-clause-absent
insert_new-requires-clause-absent g c = sym (ap (λ (f : TableView _ _ _). keys_like g.K.PartialEq.eq c.args.key f.entries) c.self.view_is) ∙ absent-keys c.self.invariant c.args.key c.in_default.ensures.absent

pub returns-in-Ok-clause-old : goal.returns-in-Ok-clause-old
returns-in-Ok-clause-old g c = sym (absent c.self.invariant c.args.key c.in_default.ensures.absent) ∙ ap (λ (f : TableView _ _ _). value g.K.PartialEq.eq f.entries c.args.key) c.self.view_is

pub returns-in-Ok-clause-inserted : goal.returns-in-Ok-clause-inserted
returns-in-Ok-clause-inserted g c =
    let t = c.self.invariant in let es = c.args.self.now.entries in
    let none = sym (ap (λ (f : TableView _ _ _). keys_like g.K.PartialEq.eq c.args.key f.entries) c.self.view_is) ∙ absent-keys t c.args.key c.in_default.ensures.absent in
    sets-new g.K.PartialEq.eq t.keys.equality c.args.key c.args.item es c.insert_new.new.self.entries (rw c.in-Ok.is at c.insert_new.ensures.added) none (rw (sym (ap (λ (f : TableView _ _ _). f.entries) c.self.view_is)) t.once)

pub returns-in-Ok-clause-one_more : goal.returns-in-Ok-clause-one_more
returns-in-Ok-clause-one_more g c = λ _. omega (arith, length_permutation ((c.args.key, c.args.item) ∷ c.args.self.now.entries) c.insert_new.new.self.entries (rw c.in-Ok.is at c.insert_new.ensures.added))

pub returns-in-Err-clause-new : goal.returns-in-Err-clause-new
returns-in-Err-clause-new g c = sym (ap (λ (f : TableView _ _ _). value g.K.PartialEq.eq f.entries c.args.key) c.self.view_is) ∙ absent c.self.invariant c.args.key c.in_default.ensures.absent
