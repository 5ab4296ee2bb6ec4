use Rattle.std.proofs.Common.{ap, sym, ◌++◌, ◌∙◌}
use Rattle.std.proofs.lemmas.Grind.{fold-append}
use Rattle.std.specs.Hash.{HashWrites, fed_then}
use Rattle.std.specs.List.{flat_map, fold}
use Rattle.aa_ordered.proofs.compare.OrderedMapHash.hash.Goals as goal

pub each-preserved : goal.each-preserved
each-preserved g c =
    let write = g.H.Hasher.write in let left = c.next.new.self in let at = c.each.state in
    let writes : g.row.K.Denot × g.row.V.Denot → HashWrites = λ e. g.K.Hash.hash_input e.0 ++ g.V.Hash.hash_input e.1 in
    let key = c.in-Some.key.now in let item = c.in-Some.item.now in
    let fed_key = g.K.Hash.hash_input key in let fed_item = g.V.Hash.hash_input item in
    let both = fed_then write at c.hash.new.state c.hash-in-Some.new.state fed_key fed_item c.hash.ensures c.hash-in-Some.ensures in
    let more = sym (fold-append write at (writes (key, item)) (flat_map writes left)) in
    let steps = ap (λ es. fold write at (flat_map writes es)) (sym c.in-Some.ensures.steps) in
    ap (λ s. fold write s (flat_map writes left)) both ∙ more ∙ steps ∙ c.each.invariant
