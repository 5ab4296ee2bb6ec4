use Rattle.std.proofs.Common.{◌*◌, ◌++◌, ◌∷◌, [], ap, map, sym, ◌∙◌}
use Rattle.std.proofs.lemmas.List.{map-append}
use Rattle.aa_raw.proofs.Runs.{run-is}
use Rattle.aa_ordered.specs.Arena.{list_of}
use Rattle.aa_ordered.proofs.leaves.slices.SlicesDoubleEndedIterator.next_back.Goals as goal

pub returns-clause-steps : goal.returns-clause-steps
returns-clause-steps g c =
    let it = c.self.inside in let cs = it.block.now.places in let h = c.in_ok-head.head.now in let others = c.in_ok-head.others.now in
    sym c.self.view_is ∙ ap (map (list_of cs)) c.in_ok-head.ensures.cases.0 ∙ map-append (list_of cs) others (h ∷ [])
    ∙ ap (λ l. map (list_of cs) others ++ l ∷ []) (run-is cs (h.leaf * 64) h.len c.slice.result.now c.slice.ensures)
