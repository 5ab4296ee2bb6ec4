-- What remains to be removed from a range by a pure test: a closure whose result depends on the
-- element alone, and which leaves it unchanged.
use Rattle.std.specs.Prelude.{Bool, not, List, ◌++◌, filter}
use Rattle.aa_vec.specs.Extract.{extract_vec, extract_kept, extract_remaining, extract_tail}
use Rattle.aa_vec.specs.declared.vec.extract_if.ExtractBy.{ExtractBy}

module _ {T A : Type 0} (test : T → Bool) where
  -- the elements that remain to be removed: the untested ones for which the test is true
  unfoldable pub remaining_matches : ExtractBy T A → List T
  remaining_matches e = filter test (extract_remaining e)

  -- what the vector has once they are removed: all that is there now, but for these
  unfoldable pub items_at_end : ExtractBy T A → List T
  items_at_end e =
      (extract_vec e).items
      ++ (extract_kept e ++ (filter (λ x. not (test x)) (extract_remaining e) ++ extract_tail e))
