-- A value written at an index of a boxed slice, for the search.
use Rattle.std.proofs.lemmas.List.{drop-set-lt}

pub ruleset at_index = (drop-set-lt)
