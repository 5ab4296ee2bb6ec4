use Rattle.std.proofs.Common.{ap, subst, sym, ◌∙◌, ◌≡◌}
use Rattle.std.specs.Prelude.{MatchOption}
use Rattle.aa_table.specs.Contents.{value, TableView}
use Rattle.aa_table.specs.Entry.{entry_key, entry_table, with_value, Writes}
use Rattle.aa_table.proofs.Entries.{value-set, written-twice}
use Rattle.aa_table.proofs.table.entry.Entry.and_modify.Goals as goal

pub returns-in-Occupied-clause-after : goal.returns-in-Occupied-clause-after
returns-in-Occupied-clause-after g c =
    let eq = g.K.PartialEq.eq in let o = c.in-Occupied.entry in let d = c.modify.new.self in
    let did = c.modify.ensures.written in
    let is : d.table.now ≡ with_value eq o.table.now o.key did.0 = did.1.table in
    let holds = ap (λ (t : TableView _ _ _). value eq t.entries d.key) is ∙ ap (λ k. value eq (with_value eq o.table.now o.key did.0).entries k) did.1.key ∙ value-set eq o.table.now.entries o.key did.0 o.present in
    subst (λ r. MatchOption r (d.table.now ≡ (entry_table c.args.self).now) (λ v. d.table.now ≡ with_value eq (entry_table c.args.self).now (entry_key c.args.self) v)) (sym holds)
    (subst (λ e. d.table.now ≡ with_value eq (entry_table e).now (entry_key e) did.0) (sym c.in-Occupied.is) is)

pub returns-in-Occupied-clause-update : goal.returns-in-Occupied-clause-update
returns-in-Occupied-clause-update g c = λ v u w.
    let eq = g.K.PartialEq.eq in let o = c.in-Occupied.entry in let d = c.modify.new.self in
    let did = c.modify.ensures.written in
    let is : d.table.now ≡ with_value eq o.table.now o.key did.0 = did.1.table in
    let again : with_value eq d.table.now d.key v ≡ with_value eq o.table.now o.key v
    = (λ i. with_value eq (is i) (did.1.key i) v)
    ∙ ap (λ es. record o.table.now { entries = es }) (written-twice (eq o.key) o.table.now.entries did.0 v) in
    subst (λ e. Writes e v u) (sym c.in-Occupied.is) (w ∙ again)
