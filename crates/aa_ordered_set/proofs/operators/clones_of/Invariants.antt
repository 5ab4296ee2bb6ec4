use Rattle.std.proofs.Common.{◌≡◌, [], List, map}
use Rattle.std.specs.Iterator.{size}
use Rattle.std.specs.List.{AllZip}
use Rattle.aa_ordered.specs.Capacity.{capacity_of, fresh_resizes, leaves_for}
use Rattle.aa_ordered.specs.Iterating.{HasCapacity}
use Rattle.aa_ordered_set.specs.Sets.{insert_keys, map_of}
use Rattle.aa_ordered_set.proofs.operators.clones_of.Given as goal

-- clones of the items so far were inserted, and there is capacity for the others
abbrev pub invariant-each : goal.invariant-each
invariant-each g l =
    (clones : List g.row.T.Denot) × AllZip g.T.Clone.is_clone (map (λ x. x.now) l.yielded) clones
    × (l.made.elements ≡ insert_keys g.T.Ord.cmp [] clones)
    × HasCapacity (map_of l.made) (size (g.U.IntoIter.Iterator.remaining l.value-iterator))
    × (l.made.capacity ≡ capacity_of (leaves_for l.count)) × (l.made.resizes ≡ fresh_resizes l.count)
