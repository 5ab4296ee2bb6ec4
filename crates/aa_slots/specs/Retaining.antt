-- What `retain` leaves of the pairs, by the results of its closure.
use Rattle.std.specs.Prelude.{◌≡◌, Bool, List, [], ◌∷◌, if◌then◌else◌}
use Rattle.std.specs.Borrow.{MutBor}
use Rattle.aa_slots.specs.declared.key.Key.{Key}
use Rattle.aa_slots.specs.declared.key.KeyData.{KeyData}
use Rattle.aa_slots.specs.Keys.{key_of}

module _ {T F K : Type 0} (step : F → Key K → MutBor T → Bool → MutBor T → F → Type 0) where
  -- a call of `f` for the key `k` and its value `x` may return `keep`, with `y` as the value and
  -- the closure as `g` then
  pub record MayReturn (f : F) (k : KeyData) (x : T) (keep : Bool) (y : T) (g : F) : Type 0 where
    pub before : MutBor T
    pub given : before.now ≡ x
    pub after : MutBor T
    pub left : after.now ≡ y
    pub call : step f (key_of k) before keep after g

  -- `f` was called for each of the pairs `es`, in order, and is `g` then; the pairs are `kept` then:
  -- a value for which it returned `true` is as the call left it, and others are removed
  abbrev pub Keeps : (f : F) → (es kept : List (KeyData × T)) → (g : F) → Type 0
  Keeps f [] kept g = (kept ≡ []) × (g ≡ f)
  Keeps f (e ∷ es) kept g =
      (keep : Bool) × (y : T) × (next : F) × MayReturn f e.0 e.1 keep y next
      × (others : List (KeyData × T))
      × (kept ≡ (if keep then (e.0, y) ∷ others else others)) × Keeps next es others g
