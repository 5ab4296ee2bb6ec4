use Rattle.std.proofs.Common.{◌*◌, ◌∷◌, ap, map, sym, ◌∙◌}
use Rattle.std.proofs.lemmas.List.Elements.{All-rest}
use Rattle.aa_raw.proofs.Runs.{run-is}
use Rattle.aa_ordered.specs.Arena.{list_of, IsHeld}
use Rattle.aa_ordered.proofs.leaves.slices.SlicesIterator.next.Goals as goal

pub invariant_of-self : goal.invariant_of-self
invariant_of-self g c =
    let it = c.self.inside in let cs = it.block.now.places in let h = c.in_ok-head.head.now in let others = c.in_ok-head.others.now in
    All-rest (IsHeld cs) h others it.heads.now c.in_ok-head.ensures.cases.0 c.self.invariant

pub returns-clause-steps : goal.returns-clause-steps
returns-clause-steps g c =
    let it = c.self.inside in let cs = it.block.now.places in let h = c.in_ok-head.head.now in let others = c.in_ok-head.others.now in
    sym c.self.view_is ∙ ap (map (list_of cs)) c.in_ok-head.ensures.cases.0 ∙ ap (λ l. l ∷ map (list_of cs) others) (run-is cs (h.leaf * 64) h.len c.slice.result.now c.slice.ensures)
