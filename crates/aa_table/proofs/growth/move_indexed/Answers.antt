use Rattle.std.proofs.Common.{[]}
use Rattle.std.proofs.lemmas.List.Sorted.{IsPermutation-refl}
use Rattle.aa_table.specs.Places.{hashes}
use Rattle.aa_table.proofs.Moving.{none-left}
use Rattle.aa_table.proofs.Placed.{free, held}
use Rattle.aa_table.proofs.growth.move_indexed.Goals as goal

pub move_all-requires-clause-held : goal.move_all-requires-clause-held
move_all-requires-clause-held g c = rw c.as_slice.ensures (held (hashes g.S.BuildHasher g.S.Hasher.Hasher g.K.Hash.hash_input c.args.builder.now) c.args.from.now.places (rw c.in-Some.is at c.requires.indexed))

pub move_all-requires-clause-free : goal.move_all-requires-clause-free
move_all-requires-clause-free g c = rw c.as_slice.ensures (free (hashes g.S.BuildHasher g.S.Hasher.Hasher g.K.Hash.hash_input c.args.builder.now) c.args.from.now.places (rw c.in-Some.is at c.requires.indexed))

pub returns-in-None-clause-moved : goal.returns-in-None-clause-moved
returns-in-None-clause-moved g c = rw (none-left c.args.from.now.places (rw c.in-None.is at c.requires.indexed), none-left c.args.to.now.places c.requires.empty) (IsPermutation-refl [])
