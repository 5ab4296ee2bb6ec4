use Rattle.std.proofs.Common.{◌≡◌, ◌++◌, [], List, length}
use Rattle.std.specs.List.{AllZip}
use Rattle.aa_table.specs.Contents.{HasRoom, SetsAll}
use Rattle.aa_table.proofs.clone.TableClone.clone.Given as goal

-- clones of the entries so far were inserted, and there is capacity for the others
abbrev pub invariant-each : goal.invariant-each
invariant-each g l =
    (seen : List (g.row.K.Denot × g.row.V.Denot)) × (clones : List (g.row.K.Denot × g.row.V.Denot))
    × (seen ++ l.rest ≡ l.self.entries) × AllZip (λ e f. g.K.Clone.is_clone e.0 f.0 × g.V.Clone.is_clone e.1 f.1) seen clones
    × SetsAll g.K.PartialEq.eq [] clones l.copy.entries × (l.copy.builder ≡ l.initial.copy.builder)
    × HasRoom l.copy (length l.rest) × (l.copy.capacity ≡ l.initial.copy.capacity) × (l.copy.resizes ≡ l.initial.copy.resizes)

abbrev pub decreases-each : goal.decreases-each
decreases-each g l = length l.rest
