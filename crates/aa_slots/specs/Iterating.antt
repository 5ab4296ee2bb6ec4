-- The pairs that an iterator over a slot map yields.
use Rattle.std.specs.Borrow.{Bor}
use Rattle.std.specs.Iterator.{YieldsFirstBy, YieldsLastBy}
use Rattle.std.specs.Iterator.Runs.{EveryRun, ItemsMapTo, ItemsMapToReversed}
use Rattle.aa_slots.specs.declared.key.Key.{Key}
use Rattle.aa_slots.specs.declared.key.KeyData.{KeyData}

-- an item of the iterator as the data of its key, and the value that it refers to
abbrev pub pair_of : {T K : Type 0} → Key K × Bor T → KeyData × T
pair_of item = (item.0.parts, item.1.now)

-- each run of `next` yields the pairs that remained, in order
abbrev pub YieldsPairsInOrder : (T K : Type 0) → Type 0
YieldsPairsInOrder T K = EveryRun (YieldsFirstBy (pair_of {T = T} {K = K}) (λ rest. rest)) (λ p.
    ItemsMapTo p pair_of p.from)

-- each run of `next_back` yields them in reverse
abbrev pub YieldsPairsInReverse : (T K : Type 0) → Type 0
YieldsPairsInReverse T K = EveryRun (YieldsLastBy (pair_of {T = T} {K = K}) (λ rest. rest)) (λ p.
    ItemsMapToReversed p pair_of p.from)
