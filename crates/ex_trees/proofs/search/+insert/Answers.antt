use Rattle.std.proofs.Common.{refl, arith, ◌∙◌}
use Rattle.ex_trees.proofs.Found.{finds-Leaf, finds-here, finds-below, finds-above, finds-alone, same_below, same_above}
use Rattle.ex_trees.proofs.search.+insert.Goals as goal

pub returns-then-key-here-2-clause-there : goal.returns-then-key-here-2-clause-there
returns-then-key-here-2-clause-there g t c = finds-below _ _ _ _ c.if-key-here-2.true ∙ (rw c.in_ok-new_in-in-Fork.ensures.made c.in_ok-less-in-Fork.ensures.there)

pub returns-then-key-here-2-clause-others : goal.returns-then-key-here-2-clause-others
returns-then-key-here-2-clause-others g t c = λ other n.
    rw c.in-Fork.is (same_below _ _ _ _ _ (rw (c.in_ok-new_in-in-Fork.ensures.made, ← c.into_inner.ensures) (c.in_ok-less-in-Fork.ensures.others other n)))

pub returns-in_ok-above-in-Leaf-clause-there : goal.returns-in_ok-above-in-Leaf-clause-there
returns-in_ok-above-in-Leaf-clause-there g t c = finds-here _ _ _ _ refl

pub returns-in_ok-above-in-Leaf-clause-others : goal.returns-in_ok-above-in-Leaf-clause-others
returns-in_ok-above-in-Leaf-clause-others g t c = λ other n.
    rw (c.in-Leaf.is, finds-Leaf) (finds-alone _ _ _ _ n (rw c.in_ok-below-in-Leaf.ensures.made (finds-Leaf _ other)) (rw c.in_ok-above-in-Leaf.ensures.made (finds-Leaf _ other)))

pub returns-in_ok-new_in-in-Fork-2-clause-there : goal.returns-in_ok-new_in-in-Fork-2-clause-there
returns-in_ok-new_in-in-Fork-2-clause-there g t c =
    finds-above _ _ _ _ (omega (arith, c.if-key-here.false, c.if-key-here-2.false)) ∙ (rw c.in_ok-new_in-in-Fork-2.ensures.made c.in_ok-more-in-Fork.ensures.there)

pub returns-in_ok-new_in-in-Fork-2-clause-others : goal.returns-in_ok-new_in-in-Fork-2-clause-others
returns-in_ok-new_in-in-Fork-2-clause-others g t c = λ other n.
    rw c.in-Fork.is (same_above _ _ _ _ _ (rw (c.in_ok-new_in-in-Fork-2.ensures.made, ← c.into_inner-in-Fork.ensures) (c.in_ok-more-in-Fork.ensures.others other n)))
