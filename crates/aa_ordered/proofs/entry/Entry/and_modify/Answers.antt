use Rattle.std.proofs.Common.{ap, subst, sym, ◌≡◌, ◌∙◌}
use Rattle.std.specs.BTreeMap.{insert_entry}
use Rattle.std.specs.Map.{keys_of}
use Rattle.aa_ordered.specs.Entries.{value, OrderedView}
use Rattle.aa_ordered.specs.Entry.{entry_key, entry_map, writes}
use Rattle.aa_ordered.specs.Inserting.{Inserts}
use Rattle.aa_ordered.proofs.Stored.{there, written-inserts}
use Rattle.aa_ordered.proofs.entry.Entry.and_modify.Goals as goal

pub returns-in-Occupied-clause-update : goal.returns-in-Occupied-clause-update
returns-in-Occupied-clause-update g c = λ v u i.
    let cmp = g.K.Ord.cmp in let o = c.in-Occupied.entry in let d = c.modify.new.self in
    let did = there (value cmp d.map.now.entries d.key) d.present c.modify.ensures.written in
    let is : d.map.now ≡ writes cmp o.map.now o.key did.0 = did.1 in
    let keys : keys_of (insert_entry cmp o.map.now.entries o.key did.0) ≡ keys_of o.map.now.entries = sym (ap (λ (m : OrderedView _ _). keys_of m.entries) is) ∙ c.modify.ensures.keys in
    let again : Inserts cmp (writes cmp o.map.now o.key did.0) o.key v u = subst (λ m. Inserts cmp m o.key v u) is (subst (λ k. Inserts cmp d.map.now k v u) c.modify.ensures.key i) in
    subst (λ e. Inserts cmp (entry_map e).now (entry_key e) v u) (sym c.in-Occupied.is) (written-inserts cmp g.met.K.Ord.total o.map.now o.key did.0 v u keys again)
