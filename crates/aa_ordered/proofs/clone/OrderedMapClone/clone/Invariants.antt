use Rattle.std.proofs.Common.{◌≡◌, ◌++◌, [], List, length}
use Rattle.std.specs.List.{AllZip}
use Rattle.aa_ordered.specs.Capacity.{fresh_resizes}
use Rattle.aa_ordered.specs.Iterating.{insert_all, HasCapacity}
use Rattle.aa_ordered.proofs.clone.OrderedMapClone.clone.Given as goal

-- clones of the entries so far were inserted
abbrev pub invariant-each : goal.invariant-each
invariant-each g l =
    (seen : List (g.row.K.Denot × g.row.V.Denot)) × (clones : List (g.row.K.Denot × g.row.V.Denot))
    × (seen ++ l.rest ≡ l.self.entries)
    × AllZip (λ e f. g.K.Clone.is_clone e.0 f.0 × g.V.Clone.is_clone e.1 f.1) seen clones
    × (l.copy.entries ≡ insert_all g.K.Ord.cmp [] clones)
    × HasCapacity l.copy (length l.rest) × (l.copy.resizes ≡ fresh_resizes (length l.self.entries))

abbrev pub decreases-each : goal.decreases-each
decreases-each g l = length l.rest
