use Rattle.std.proofs.Common.{ap, arith, length, sym, ◌∙◌}
use Rattle.std.proofs.lemmas.List.{length-set}
use Rattle.aa_table.specs.Contents.{keys_like, TableView}
use Rattle.aa_table.specs.Places.{hashes_of, hashes}
use Rattle.aa_table.proofs.Placed.{free, held, places, some-free}
use Rattle.aa_table.proofs.Sound.{added, with-one}
use Rattle.aa_table.proofs.table.Table.add.Goals as goal

pub put_new-requires-clause-free : goal.put_new-requires-clause-free
put_new-requires-clause-free g c =
    let t = c.self.invariant in let cs = c.self.inside.places.places in let i = rw c.in-Some.is at t.indexed in
    some-free c.in-Some.index.tags.items cs (held (hashes g.S.BuildHasher g.S.Hasher.Hasher g.K.Hash.hash_input c.self.inside.builder) cs i) (grind (arith, rw c.in-Some.is at t.room, t.within, t.counted, c.requires.room, c.self.view_is))

pub invariant_of-self : goal.invariant_of-self
invariant_of-self g c =
    let h = hashes g.S.BuildHasher g.S.Hasher.Hasher g.K.Hash.hash_input c.self.inside.builder in let cs = c.self.inside.places.places in let put = c.put_new.ensures in
    let i = rw c.in-Some.is at c.self.invariant.indexed in
    let hash = c.requires.hash ∙ ap (λ (f : TableView _ _ _). hashes g.S.BuildHasher g.S.Hasher.Hasher g.K.Hash.hash_input f.builder c.args.key) (sym c.self.view_is) in
    let new-key = ap (λ (f : TableView _ _ _). keys_like g.K.PartialEq.eq c.args.key f.entries) c.self.view_is ∙ c.requires.absent in
    let entry : g.row.K.Denot × g.row.V.Denot = (c.args.key, c.args.item) in
    added c.self.invariant entry c.put_new.result (omega (arith, put.within, places h cs i)) (free h cs i c.put_new.result put.was_free) new-key c.in-Some.index c.put_new.new.self c.put_new.new.places put.put (ap length put.tags ∙ length-set c.in-Some.index.tags.items c.put_new.result _)
    (rw hash at (put.index (hashes_of h cs) i)) (rw c.in-Some.is at c.self.invariant.room) (rw c.in-Some.is at c.self.invariant.memory) (grind (arith, c.self.invariant.counted, c.requires.room, c.self.view_is))

pub returns-clause-added : goal.returns-clause-added
returns-clause-added g c =
    let h = hashes g.S.BuildHasher g.S.Hasher.Hasher g.K.Hash.hash_input c.self.inside.builder in let cs = c.self.inside.places.places in let put = c.put_new.ensures in
    let i = rw c.in-Some.is at c.self.invariant.indexed in
    let new-key = ap (λ (f : TableView _ _ _). keys_like g.K.PartialEq.eq c.args.key f.entries) c.self.view_is ∙ c.requires.absent in
    let entry : g.row.K.Denot × g.row.V.Denot = (c.args.key, c.args.item) in
    rw (put.put, ap (λ (f : TableView _ _ _). f.entries) (sym c.self.view_is)) (with-one c.self.invariant entry c.put_new.result (omega (arith, put.within, places h cs i)) (free h cs i c.put_new.result put.was_free) new-key)
