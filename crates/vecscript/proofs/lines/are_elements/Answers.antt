use Rattle.vecscript.proofs.Common.{◌^◌, Denotes}
use Rattle.vecscript.proofs.Taken.{HasTaken-next, HasTaken-stuck}
use Rattle.vecscript.proofs.lines.are_elements.Goals as goal

-- the word that was taken is an element
pub each-preserved : goal.each-preserved
each-preserved c =
    let (word, next, written) = c.in-Some.ensures.some in (_, HasTaken-next (Denotes (2 ^ 32)) _ _ _ word _ _ c.each.invariant.1 next written)

-- or it is none
pub returns-in_default : goal.returns-in_default
returns-in_default c = HasTaken-stuck (Denotes (2 ^ 32)) _ _ _ c.each.invariant.1 c.each-test.ensures c.in_default.ensures.none
