use Rattle.aa_raw.proofs.{arith, filled_again, filled_within, get_or-set_other}
use Rattle.aa_raw.proofs.raw_vec.RawVec.pair_with.Goals as goal

pub returns : goal.returns
returns g c =
    let A = c.call_at_one_lifetime-returned in let filled = c.requires.filled in
    let seen = c.self.view_is in record {
      first = c.read-x.result;
      second = c.read-y.result;
      first_left = A.new.x;
      second_left = A.new.y;
      had = (grind (arith, filled_within), grind (arith, get_or-set_other));
      called = A.ensures;
      left = grind (arith, filled_again, filled_within);
    }
