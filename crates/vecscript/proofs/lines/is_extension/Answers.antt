use Rattle.vecscript.proofs.Looks.{extend-decided}
use Rattle.vecscript.proofs.lines.is_extension.Goals as goal

pub returns : goal.returns
returns c =
    let (word, next, hinted) = c.in-Some.ensures.some in
    extend-decided _ word _ _ _ next hinted c.are_elements.ensures
