use Rattle.aa_boxed.proofs.boxed.text.BoxedText+Global.clone.Goals as goal

pub invariant_of-result : goal.invariant_of-result
invariant_of-result c = rw (c.in_ok-bytes.ensures.copied (λ x y e. e)) (c.self.inside.utf8, tt)
