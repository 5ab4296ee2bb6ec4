-- Slots with other values: what of a map does not depend on them.
use Rattle.aa_slots.proofs.Common.{Chain, Free, Held, IsSound, List, None, Option, Some, State, [], ap, arith, entries_from, get_or, is_some, length, refl, seen, suc, zero, ℕ, ⊤, ◌+◌, ◌∙◌, ◌∷◌, ◌≡◌}
use Rattle.aa_slots.proofs.Finds.{length-entries}
use Rattle.aa_slots.proofs.Writing.{stays}
use Rattle.aa_raw.proofs.Entries.{length-with_values}
use Rattle.aa_raw.specs.Entries.{with_values}
use Rattle.aa_slots.specs.IterMutLends.{with_values_of}
use Rattle.std.specs.Prelude.{map}

module _ {T : Type 0} where
  pub same : (ss : List (Option (ℕ × T))) → with_values_of ss ss ≡ ss
  same [] = refl
  same (None ∷ ss) = ap (λ ts. None ∷ ts) (same ss)
  same (Some e ∷ ss) = ap (λ ts. Some e ∷ ts) (same ss)

  pub read : (ss : List State) (cs : List (Option (⊤ × T))) (ws : List T)
      → with_values_of (seen ss cs) (seen ss (with_values cs ws)) ≡ seen ss (with_values cs ws)
  read [] cs ws = refl
  read (s ∷ ss) [] ws = ap (λ ts. None ∷ ts) (read ss [] ws)
  read (Free next ∷ ss) (None ∷ cs) ws = ap (λ ts. None ∷ ts) (read ss cs ws)
  read (Free next ∷ ss) (Some e ∷ cs) [] = ap (λ ts. None ∷ ts) (read ss cs [])
  read (Free next ∷ ss) (Some e ∷ cs) (w ∷ ws) = ap (λ ts. None ∷ ts) (read ss cs ws)
  read (Held serial ∷ ss) (None ∷ cs) ws = ap (λ ts. None ∷ ts) (read ss cs ws)
  read (Held serial ∷ ss) (Some e ∷ cs) [] = ap (λ ts. Some (serial, e.1) ∷ ts) (read ss cs [])
  read (Held serial ∷ ss) (Some e ∷ cs) (w ∷ ws) = ap (λ ts. Some (serial, w) ∷ ts) (read ss cs ws)

  filled : (cs : List (Option (⊤ × T))) (ws : List T) (i : ℕ)
      → is_some (get_or (with_values cs ws) i None) ≡ is_some (get_or cs i None)
  filled [] ws i = refl
  filled (None ∷ cs) ws zero = refl
  filled (None ∷ cs) ws (suc i) = filled cs ws i
  filled (Some e ∷ cs) [] zero = refl
  filled (Some e ∷ cs) [] (suc i) = filled cs [] i
  filled (Some e ∷ cs) (w ∷ ws) zero = refl
  filled (Some e ∷ cs) (w ∷ ws) (suc i) = filled cs ws i

  -- a map stays one, with other values
  pub stays-lent : {ss : List State} {cs : List (Option (⊤ × T))} {free : Chain} {capacity : ℕ}
      → IsSound ss cs free capacity → (ws : List T) → IsSound ss (with_values cs ws) free capacity
  stays-lent {ss} {cs} sound ws = stays sound (with_values cs ws)
      (λ i h. filled cs ws i ∙ sound.held i h)
      (omega (arith, sound.room, length-with_values cs ws))

  pub keys-kept : (i : ℕ) (ss ts : List (Option (ℕ × T)))
      → map (λ e. e.0) (entries_from i (with_values_of ss ts)) ≡ map (λ e. e.0) (entries_from i ss)
  keys-kept i [] ts = refl
  keys-kept i (s ∷ ss) [] = refl
  keys-kept i (None ∷ ss) (t ∷ ts) = keys-kept (i + 1) ss ts
  keys-kept i (Some e ∷ ss) (None ∷ ts) =
      ap (λ ks. record { index = i; serial = e.0 } ∷ ks) (keys-kept (i + 1) ss ts)
  keys-kept i (Some e ∷ ss) (Some f ∷ ts) =
      ap (λ ks. record { index = i; serial = e.0 } ∷ ks) (keys-kept (i + 1) ss ts)

  pub length-kept : (ss ts : List (Option (ℕ × T))) → length (with_values_of ss ts) ≡ length ss
  length-kept [] ts = refl
  length-kept (s ∷ ss) [] = refl
  length-kept (s ∷ ss) (t ∷ ts) = ap suc (length-kept ss ts)

pub ruleset kept_keys = (keys-kept, length-kept, length-entries)
