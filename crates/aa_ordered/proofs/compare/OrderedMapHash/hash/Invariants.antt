use Rattle.std.proofs.Common.{◌≡◌, ◌++◌, length}
use Rattle.std.specs.Hash as fed
use Rattle.std.specs.List.{flat_map, fold}
use Rattle.aa_ordered.proofs.compare.OrderedMapHash.hash.Given as goal

-- what is fed of the remaining entries leads to the same state as all of it does
abbrev pub invariant-each : goal.invariant-each
invariant-each g l =
    let feeds = flat_map (λ (e : g.row.K.Denot × g.row.V.Denot). g.K.Hash.hash_input e.0 ++ g.V.Hash.hash_input e.1) in
    let all = fed.usize (length l.self.entries) ++ feeds l.self.entries in
    fold g.H.Hasher.write l.state (feeds l.entries) ≡ fold g.H.Hasher.write l.fn.state all

abbrev pub decreases-each : goal.decreases-each
decreases-each g l = length l.entries
