use Rattle.std.proofs.Common.{◌∷◌, ◌∙◌}
use Rattle.std.proofs.lemmas.List.Sorted.{IsPermutation-cons, IsPermutation-trans}
use Rattle.aa_table.proofs.Maps.{keys-permuted}
use Rattle.aa_table.proofs.table.Table.insert_new.Goals as goal

pub add_slow-requires-clause-absent : goal.add_slow-requires-clause-absent
add_slow-requires-clause-absent g c =
    keys-permuted g.K.PartialEq.eq c.args.self.now.entries c.reserve.new.self.entries c.reserve.ensures.same c.args.key ∙ c.requires.absent

pub returns-clause-added : goal.returns-clause-added
returns-clause-added g c =
    let e : g.row.K.Denot × g.row.V.Denot = (c.args.key, c.args.item) in let old = c.args.self.now.entries in let mid = c.reserve.new.self.entries in
    IsPermutation-trans (e ∷ old) (e ∷ mid) c.add_slow.new.self.entries (IsPermutation-cons e old mid c.reserve.ensures.same) c.add_slow.ensures.added
