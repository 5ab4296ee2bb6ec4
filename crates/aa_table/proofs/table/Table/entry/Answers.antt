use Rattle.std.proofs.Common.{ap, sym, ◌∙◌}
use Rattle.std.specs.Prelude.{is_some}
use Rattle.aa_table.specs.Contents.{keys_like, value, TableView}
use Rattle.aa_table.specs.Places.{hashes}
use Rattle.aa_table.proofs.Entries.{puts-added, puts-written}
use Rattle.aa_table.proofs.Sound.{absent, absent-keys, findable, present}
use Rattle.aa_table.proofs.table.Table.entry.Goals as goal

pub find_in-requires : goal.find_in-requires
find_in-requires g c = findable c.self.invariant c.args.key c.hash_of-hash.result c.hash_of-hash.ensures

pub invariant_of-result : goal.invariant_of-result
invariant_of-result g c = record {
  present = sym (ap (λ (f : TableView _ _ _). is_some (value g.K.PartialEq.eq f.entries c.args.key)) c.self.view_is) ∙ present c.self.invariant c.args.key _ c.in-Some.ensures.found;
}

pub invariant_of-result-in-None : goal.invariant_of-result-in-None
invariant_of-result-in-None g c = record {
  hashed = c.hash_of-hash.ensures ∙ ap (λ (f : TableView _ _ _). hashes g.S.BuildHasher g.S.Hasher.Hasher g.K.Hash.hash_input f.builder c.args.key) c.self.view_is;
  absent = sym (ap (λ (f : TableView _ _ _). keys_like g.K.PartialEq.eq c.args.key f.entries) c.self.view_is) ∙ absent-keys c.self.invariant c.args.key c.in-None.ensures.absent;
}

pub returns-in-Some-clause-update : goal.returns-in-Some-clause-update
returns-in-Some-clause-update g c =
    let some = sym (ap (λ (f : TableView _ _ _). is_some (value g.K.PartialEq.eq f.entries c.args.key)) c.self.view_is) ∙ present c.self.invariant c.args.key _ c.in-Some.ensures.found in
    puts-written c.self.invariant.keys.equality c.args.self.now c.args.key some

pub returns-in-None-clause-value : goal.returns-in-None-clause-value
returns-in-None-clause-value g c =
    sym (absent c.self.invariant c.args.key c.in-None.ensures.absent) ∙ ap (λ (f : TableView _ _ _). value g.K.PartialEq.eq f.entries c.args.key) c.self.view_is

pub returns-in-None-clause-found : goal.returns-in-None-clause-found
returns-in-None-clause-found g c =
    sym (ap (λ (f : TableView _ _ _). value g.K.PartialEq.eq f.entries c.args.key) c.self.view_is) ∙ absent c.self.invariant c.args.key c.in-None.ensures.absent

pub returns-in-None-clause-update : goal.returns-in-None-clause-update
returns-in-None-clause-update g c =
    let none = sym (ap (λ (f : TableView _ _ _). keys_like g.K.PartialEq.eq c.args.key f.entries) c.self.view_is) ∙ absent-keys c.self.invariant c.args.key c.in-None.ensures.absent in
    puts-added c.self.invariant.keys.equality c.args.self.now c.args.key none (rw (sym (ap (λ (f : TableView _ _ _). f.entries) c.self.view_is)) c.self.invariant.once)
