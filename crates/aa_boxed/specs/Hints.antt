-- The lower bounds of size hints.
use Rattle.std.specs.Prelude.{◌≡◌, ℕ, List, [], ◌∷◌, length, Option, Some, None, ◌⊎◌}
use Rattle.std.specs.Iterator.{Count}
use Rattle.std.specs.Iterator.SizeHint.{IsWithinCount}

-- in the state `s` the lower bound of the size hint may be `n`, which is at most what remains
abbrev pub LowerAtMost : {S : Type 0} → (S → Count) → S → ℕ → Type 0
LowerAtMost remaining s n = IsWithinCount n (remaining s)

-- calls that led to `last` ended at `after`: there, or after one more call, which returned none
abbrev pub EndsAt : {S T : Type 0} → (S → Option T → S → Type 0) → (last after : S) → Type 0
EndsAt next_gives last after = (last ≡ after) ⊎ next_gives last None after

module _ {S T : Type 0} (next_gives : S → Option T → S → Type 0) (LowerIs : S → ℕ → Type 0) where
  -- calls from `s` yielded the items `xs` and led to `t`. In each state, with `k` of them still to
  -- come, the lower bound may be `lower k`
  abbrev pub YieldsWithLower : (lower : ℕ → ℕ) → S → List T → S → Type 0
  YieldsWithLower lower s [] t = LowerIs s (lower 0) × (s ≡ t)
  YieldsWithLower lower s (x ∷ xs) t =
      LowerIs s (lower (length (x ∷ xs))) × (j : S) × next_gives s (Some x) j
      × YieldsWithLower lower j xs t

  -- the items `taken` from `iter`, the lower bounds `lower` on the way, and the state `last` that
  -- this led to. `Outcome` says what became of them
  pub record Takes (iter : S)
      (Outcome : (lower : ℕ → ℕ) → (taken : List T) → (last : S) → Type 0) : Type 0 where
    pub taken : List T
    pub lower : ℕ → ℕ
    pub last : S
    pub yields : YieldsWithLower lower iter taken last
    pub outcome : Outcome lower taken last
