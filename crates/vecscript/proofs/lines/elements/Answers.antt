use Rattle.vecscript.proofs.Common.{◌^◌, ap, inr, refl, Denotes}
use Rattle.allocator_api2.specs.Vector.{Vector}
use Rattle.vecscript.proofs.Taken.{HasTaken-next, HasTaken-stuck}
use Rattle.vecscript.proofs.lines.elements.Goals as goal

-- the word that was taken is read
pub each-preserved : goal.each-preserved
each-preserved c =
    let (word, next, written) = c.in-Some.ensures.some in
    rw (ap (λ (v : Vector _ _). v.items) c.in_ok-push-in-Some.ensures.pushed) (HasTaken-next (Denotes (2 ^ 32)) _ _ _ word _ _ c.each.invariant next written)

-- or it is no element, and then the line says none
pub returns-in-None : goal.returns-in-None
returns-in-None c = inr (refl, λ v. HasTaken-stuck (Denotes (2 ^ 32)) _ _ _ c.each.invariant c.each-test.ensures c.in-None.ensures.none v.items)
