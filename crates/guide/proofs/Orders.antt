-- Lemmas of the toolchain whose names cannot be written in an attribute.
use Rattle.std.proofs.lemmas.List.Sorted.{IsPermutation-insert}

pub ruleset orders = (IsPermutation-insert)
