-- The values of a map without free slots, when their block grows.
use Rattle.aa_slots.proofs.Common.{AreHeld, Free, Held, List, None, Option, Some, State, [], ap, arith, count, drop, get_or, is_some, length, refl, seen, sym, take, true, ℕ, ⊤, ◌++◌, ◌+◌, ◌∙◌, ◌∷◌, ◌≡◌, ◌<◌, ◌≤◌}
use Rattle.aa_slots.proofs.Finds.{count-cons}
use Rattle.aa_slots.proofs.Seen.{held-within, length-seen, seen-same}
use Rattle.allocator_api2.specs.Places.{IsRun, with_run}
use Rattle.std.proofs.Math.Seq.{take-append_seam}
use Rattle.std.proofs.lemmas.List.{get_or-take, length-take-le}
use Rattle.std.proofs.lemmas.List.Sums.{count_by-le-length}
use Rattle.std.specs.List.{list_all}

module _ {T : Type 0} where
  few : (ss : List State) (cs : List (Option (⊤ × T))) → count (seen ss cs) ≤ length ss
  few ss cs = omega (arith, count_by-le-length is_some (seen ss cs), length-seen ss cs)

  -- if each slot has a value, so have the places of these slots
  all-filled : (ss : List State) (cs : List (Option (⊤ × T))) → count (seen ss cs) ≡ length ss
      → list_all is_some (take (length ss) cs) ≡ true
  all-filled [] cs h = refl
  all-filled (s ∷ ss) [] h = refl
  all-filled (Free next ∷ ss) (c ∷ cs) h =
      absurd (omega (arith, h, count-cons {T = T} None (seen ss cs), few ss cs))
  all-filled (Held serial ∷ ss) (None ∷ cs) h =
      absurd (omega (arith, h, count-cons {T = T} None (seen ss cs), few ss cs))
  all-filled (Held serial ∷ ss) (Some e ∷ cs) h =
      all-filled ss cs (omega (arith, h, count-cons (Some (serial, e.1)) (seen ss cs)))

  -- then they are a run
  pub run-filled : (ss : List State) (cs : List (Option (⊤ × T))) (free : ℕ)
      → free + count (seen ss cs) ≡ length ss → free ≡ 0 → length ss ≤ length cs
      → IsRun cs 0 (length ss)
  run-filled ss cs free h none room =
      (omega (arith, room), all-filled ss cs (omega (arith, h, none)))

  first-same : (n : ℕ) (cs ds : List (Option (⊤ × T))) → take n ds ≡ take n cs → (i : ℕ) → i < n
      → get_or ds i None ≡ get_or cs i None
  first-same n cs ds same i l =
      sym (get_or-take n ds i None l) ∙ (λ j. get_or (same j) i None) ∙ get_or-take n cs i None l

  module _ (ss : List State) (cs ds : List (Option (⊤ × T))) (same : take (length ss) ds ≡ take (length ss) cs) where
    -- places that begin alike show the same slots
    pub seen-first : seen ss ds ≡ seen ss cs
    seen-first = seen-same ss ds cs (λ i h. first-same (length ss) cs ds same i (held-within ss i h))

    pub held-first : AreHeld ss cs → AreHeld ss ds
    held-first held i h =
        rw (first-same (length ss) cs ds same i (held-within ss i h)) (held i h)

  -- values that were moved at once
  module _ (ss : List State) (cs ds : List (Option (⊤ × T))) (n : ℕ) (long : n ≡ length ss)
      (within : length ss ≤ length cs) where
    abbrev moved : List (Option (⊤ × T))
    moved = with_run ds 0 n (take n (drop 0 cs))

    first-moved : take (length ss) moved ≡ take (length ss) cs
    unfolding with_run
    first-moved =
        let count : length (take n cs) ≡ n = length-take-le n cs (omega (arith, long, within)) in
        let none : 0 + n ≡ n = omega arith in
        rw (none, ← long) (ap (λ m. take m (take n cs ++ drop n ds)) (sym count)
        ∙ take-append_seam (take n cs) (drop n ds))

    pub seen-moved : seen ss moved ≡ seen ss cs
    seen-moved = seen-first ss cs moved first-moved

    pub held-moved : AreHeld ss cs → AreHeld ss moved
    held-moved = held-first ss cs moved first-moved

pub ruleset full = (run-filled)

pub ruleset transferred = (run-filled, seen-moved, held-moved)

pub ruleset same = (seen-first, held-first)
