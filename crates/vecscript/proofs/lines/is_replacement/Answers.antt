use Rattle.vecscript.proofs.Common.{refl}
use Rattle.vecscript.proofs.Looks.{splice-decided}
use Rattle.vecscript.proofs.lines.is_replacement.Goals as goal

pub returns : goal.returns
returns c =
    let (v, behind_start, start) = c.in-Some.ensures.some in
    let (w, behind_end, end) = c.in-Some-number.ensures.some in
    let (word, behind_hint, hinted) = c.in-Some-hint.ensures.some in
    splice-decided _ v w word _ _ _ _ _ (rw (behind_start, behind_end, behind_hint) refl) start end hinted c.are_elements.ensures
