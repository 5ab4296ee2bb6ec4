use Rattle.std.proofs.Common.{Some, [], ap, arith, length, ◌∙◌, ◌≤◌}
use Rattle.std.proofs.lemmas.List.{length-replicate}
use Rattle.aa_table.specs.Contents.{TableView}
use Rattle.aa_table.specs.Places.{hashes}
use Rattle.aa_table.proofs.Clearing.{all-gone, index-cleared}
use Rattle.aa_table.proofs.Moving.{none-left}
use Rattle.aa_table.proofs.Placed.{free, places}
use Rattle.aa_table.proofs.Sound.{none-in}
use Rattle.aa_table.proofs.table.Table.clear.Goals as goal

pub invariant_of-self : goal.invariant_of-self
invariant_of-self g c =
    let t = c.self.invariant in let h = hashes g.S.BuildHasher g.S.Hasher.Hasher g.K.Hash.hash_input c.self.inside.builder in let old = c.self.inside.places.places in
    let i = rw c.in-Some.is at t.indexed in let ts = c.in-Some.index.tags.items in let drop = c.drop_between.ensures in
    let empty = all-gone ts old c.drop_between.new.places.places (free h old i) (rw c.as_slice-tags.ensures at drop.dropped) drop.others in
    let many : length ts ≤ length c.drop_between.new.places.places = omega (arith, drop.len, places h old i) in
    none-in g.K.PartialEq.eq h t.keys c.drop_between.new.places (Some c.clear.new.self) c.self.inside.capacity empty (index-cleared ts old c.drop_between.new.places.places h c.in-Some.index.overflows.items i.slots many empty c.clear.ensures.tags c.clear.ensures.overflows) (rw (ap length c.clear.ensures.tags ∙ length-replicate (length ts) 0) (rw c.in-Some.is at t.room)) (rw (ap length c.clear.ensures.tags ∙ length-replicate (length ts) 0, drop.len) (rw c.in-Some.is at t.memory)) t.small

pub returns-in-Some : goal.returns-in-Some
returns-in-Some g c =
    let t = c.self.invariant in let h = hashes g.S.BuildHasher g.S.Hasher.Hasher g.K.Hash.hash_input c.self.inside.builder in let old = c.self.inside.places.places in
    let i = rw c.in-Some.is at t.indexed in let ts = c.in-Some.index.tags.items in let drop = c.drop_between.ensures in
    let empty = all-gone ts old c.drop_between.new.places.places (free h old i) (rw c.as_slice-tags.ensures at drop.dropped) drop.others in
    rw (none-left c.drop_between.new.places.places empty) (ap (λ (f : TableView _ _ _). record f { entries = [] }) c.self.view_is)
