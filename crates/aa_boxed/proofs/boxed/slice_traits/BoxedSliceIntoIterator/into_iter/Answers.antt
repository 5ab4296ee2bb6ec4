use Rattle.std.proofs.Common.{rules}
use Rattle.aa_boxed.proofs.{remaining-exact}
use Rattle.aa_boxed.proofs.boxed.slice_traits.BoxedSliceIntoIterator.into_iter.Goals as goal

pub returns : goal.returns
returns g c =
    let b = c.into_block-block in let k = c.prove_capacity_bounds.ensures in
    record {
      into_iter_gives = (search rules, search rules, search rules, search (remaining-exact, rules));
    }
