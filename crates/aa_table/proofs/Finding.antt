-- A key that no search finds is absent.
use Rattle.std.proofs.Common.{Bool, List, Option, length, suc, ℕ, ◌<◌}
use Rattle.aa_table.specs.Slots.{tag_of, probe_start}
use Rattle.aa_table.specs.Places.{Lacks}
use Rattle.aa_table.specs.declared.slots.Overflow.{Overflow}

module _ {K V : Type 0} (test : K → Bool) (ts : List ℕ) (bs : List Overflow) (cs : List (Option (K × V))) (hash : ℕ) where
  -- a search of `n` steps after the home group does not find the key
  abbrev pub Misses : ℕ → Type 0
  Misses n = (step : ℕ) → step < n → Lacks test ts cs (probe_start (length ts) hash (suc step)) (tag_of hash)
