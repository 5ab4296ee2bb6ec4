use Rattle.aa_raw.proofs.{arith, refl, ◌-◌, ◌≡◌}
use Rattle.aa_raw.proofs.Beyond.{IsRun-forgot, none-forgot}
use Rattle.aa_raw.proofs.vec.into_iter.IntoIter.from_block.Goals as goal

pub invariant_of-result : goal.invariant_of-result
invariant_of-result g c =
    let b = c.args.block in let n = c.args.len in let whole : n - 0 ≡ n = omega arith in
    rw c.forget_from.ensures
    (record {
      between = omega arith;
      filled = rw whole (IsRun-forgot b n c.requires);
      before = refl;
      after = none-forgot b n c.requires;
    })
