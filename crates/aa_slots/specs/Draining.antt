-- What contracts see of a `Drain`: the borrowed map, whose values are those not taken yet.
use Rattle.std.specs.Prelude.{◌≡◌, List, [], ◌∷◌, ◌++◌, Option, IfSome, MatchOption}
use Rattle.std.specs.Borrow.{GName}
use Rattle.std.specs.Iterator.Runs.{EveryRun, ItemsMapTo, ItemsMapToReversed}
use Rattle.aa_slots.specs.declared.key.Key.{Key}
use Rattle.aa_slots.specs.declared.key.KeyData.{KeyData}
use Rattle.aa_slots.specs.declared.map.drain.Drain.{Drain}
use Rattle.aa_slots.specs.Keys.{data_pair}
use Rattle.aa_slots.specs.Slotted.{Slotted, entries, without}

module _ {T A K : Type 0} where
  -- the name of the reference to the map of the drain `d`
  abbrev pub drain_lender : Drain T A K → GName
  drain_lender d = d.map.ghost_name

  -- the map of the drain `d` while it is borrowed
  abbrev pub drain_map : Drain T A K → Slotted T
  drain_map d = d.map.now

  -- the keys and values that the drain `d` has not taken yet, in the order of the slots
  abbrev pub drain_remaining : Drain T A K → List (KeyData × T)
  drain_remaining d = entries (drain_map d)

  -- the drain `new` has the map of `old`, but for the slots
  pub record DrainKeeps (old new : Drain T A K) : Type 0 where
    pub lender : drain_lender new ≡ drain_lender old
    pub others : drain_map new ≡ record (drain_map old) { slots = (drain_map new).slots }

  -- the drain `t` is `s` without the value of the key in `r`, if there is one; else `s` had none
  abbrev pub DrainsKey : Drain T A K → Option (Key K × T) → Drain T A K → Type 0
  DrainsKey s r t =
      MatchOption r ((drain_remaining s ≡ []) × (drain_map t ≡ drain_map s))
      (λ e. drain_map t ≡ without (drain_map s) e.0.parts)

  -- `r` was taken from the front of the drain `s`, which is then `t`, or none remained
  abbrev pub drains_first : Drain T A K → Option (Key K × T) → Drain T A K → Type 0
  drains_first s r t =
      DrainKeeps s t × DrainsKey s r t
      × IfSome r (λ e. drain_remaining s ≡ data_pair e ∷ drain_remaining t)

  -- the same from the back
  abbrev pub drains_last : Drain T A K → Option (Key K × T) → Drain T A K → Type 0
  drains_last s r t =
      DrainKeeps s t × DrainsKey s r t
      × IfSome r (λ e. drain_remaining s ≡ drain_remaining t ++ data_pair e ∷ [])

-- each run of `next` yields the pairs that remained, in order
abbrev pub DrainsInOrder : (T A K : Type 0) → Type 0
DrainsInOrder T A K = EveryRun (drains_first {T = T} {A = A} {K = K}) (λ p.
    ItemsMapTo p data_pair (drain_remaining p.from))

-- each run of `next_back` yields them in reverse
abbrev pub DrainsInReverse : (T A K : Type 0) → Type 0
DrainsInReverse T A K = EveryRun (drains_last {T = T} {A = A} {K = K}) (λ p.
    ItemsMapToReversed p data_pair (drain_remaining p.from))
