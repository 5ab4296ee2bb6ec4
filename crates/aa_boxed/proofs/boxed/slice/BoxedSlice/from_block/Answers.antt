use Rattle.aa_boxed.proofs.{IsRun-forgot, length-forgot, none-forgot, ◌∙◌}
use Rattle.aa_boxed.proofs.boxed.slice.BoxedSlice.from_block.Goals as goal

pub invariant_of-result : goal.invariant_of-result
invariant_of-result g c =
    let b = c.args.block in let n = c.args.len in let filled = c.requires.filled in
    let long = length-forgot b n filled in
    rw c.forget_from.ensures
    (record {
      filled = IsRun-forgot b n filled;
      exact = λ other. long
          ∙ c.requires.exact (λ same. other (long ∙ same));
      others = none-forgot b n filled;
    })
