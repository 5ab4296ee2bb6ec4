use Rattle.std.proofs.Common.{false, true}
use Rattle.aa_ordered.specs.Ranges.{items_of}
use Rattle.aa_ordered.proofs.Ranging.{cut-prefix, filter-true}
use Rattle.aa_ordered.proofs.range.from_start.Goals as goal

pub skip_before-requires-clause-sorted : goal.skip_before-requires-clause-sorted
skip_before-requires-clause-sorted g c = cut-prefix g.met.K.Ord.total c.in-Included.key.now false (items_of c.args.lists.now) c.requires.sorted

pub skip_before-requires-in-Excluded-clause-sorted : goal.skip_before-requires-in-Excluded-clause-sorted
skip_before-requires-in-Excluded-clause-sorted g c = cut-prefix g.met.K.Ord.total c.in-Excluded.key.now true (items_of c.args.lists.now) c.requires.sorted

pub returns-in-Unbounded-clause-from : goal.returns-in-Unbounded-clause-from
returns-in-Unbounded-clause-from g c = rw c.in-Unbounded.is (filter-true (items_of c.args.lists.now))
