-- The list among others that a key belongs to.
use Rattle.std.specs.Prelude.{ℕ, ◌+◌, List, take, drop}
use Rattle.std.specs.declared.cmp.Ordering.{Ordering}
use Rattle.aa_ordered.specs.Balance.{joined}
use Rattle.aa_ordered.specs.Entries.{AreGreater, AreLess}

-- the lists before index `i` have keys less than what compares with keys by `order`, and those after
-- it greater ones
pub record HasPlace {K V : Type 0} (order : K → Ordering) (ls : List (List (K × V))) (i : ℕ)
    : Type 0 where
  pub before : AreLess order (joined (take i ls))
  pub after : AreGreater order (joined (drop (i + 1) ls))
