use Rattle.allocator_api2.proofs.Blocks.{none-each}
use Rattle.aa_table.specs.Places.{tags_of}
use Rattle.aa_table.proofs.Clearing.{all-gone}
use Rattle.aa_table.proofs.Sound.{all-free}
use Rattle.aa_table.proofs.table.Table.drop.Goals as goal

pub drop-places-requires : goal.drop-places-requires
drop-places-requires g c =
    let t = c.self.inside in let drop = c.drop_between.ensures in
    none-each c.drop_between.new.places.places (λ s h. all-gone (tags_of t.index) t.places.places c.drop_between.new.places.places (all-free c.self.invariant) (rw c.tags_in-tags.ensures at drop.dropped) drop.others s)
