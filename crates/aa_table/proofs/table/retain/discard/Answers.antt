use Rattle.std.proofs.Common.{None, Some, ap, subst, sym, ◌∙◌}
use Rattle.aa_table.specs.Places.{hashes, hashes_of}
use Rattle.aa_table.specs.Slots.{IsIndex}
use Rattle.aa_table.proofs.Placed.{hash-here, hashes-set}
use Rattle.aa_table.proofs.table.retain.discard.Goals as goal

pub returns-clause-index : goal.returns-clause-index
returns-clause-index g c =
    let h = hashes g.S.BuildHasher g.S.Hasher.Hasher g.K.Hash.hash_input c.args.builder.now in let cs = c.args.places.now.places in let out = c.take_out.ensures in
    let hash = hash-here h cs c.requires.index c.args.slot c.place.result.now c.place.ensures ∙ ap Some (sym c.hash_of-hash.ensures) in
    rw out.taken (subst (IsIndex c.take_out.new.self.tags.items c.take_out.new.self.overflows.items) (sym (hashes-set h cs c.args.slot None)) (out.index (hashes_of h cs) c.requires.index hash))
