use Rattle.std.proofs.Common.{◌++◌, append-nil, false, true, ◌∙◌}
use Rattle.aa_ordered.specs.Ranges.{items_of}
use Rattle.aa_ordered.proofs.Ranging.{cut-prefix, filter-true}
use Rattle.aa_ordered.proofs.range.up_to_end.Goals as goal

pub up_to-requires-clause-sorted : goal.up_to-requires-clause-sorted
up_to-requires-clause-sorted g c = cut-prefix g.met.K.Ord.total c.in-Included.key.now true (c.args.front.now ++ items_of c.args.lists) c.requires.sorted

pub up_to-requires-in-Excluded-clause-sorted : goal.up_to-requires-in-Excluded-clause-sorted
up_to-requires-in-Excluded-clause-sorted g c = cut-prefix g.met.K.Ord.total c.in-Excluded.key.now false (c.args.front.now ++ items_of c.args.lists) c.requires.sorted

pub returns-in-Unbounded : goal.returns-in-Unbounded
returns-in-Unbounded g c =
    let es = c.args.front.now ++ items_of c.args.lists in
    rw c.in-Unbounded.is (c.of.ensures ∙ append-nil es ∙ filter-true es)
