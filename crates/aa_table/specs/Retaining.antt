-- What `retain` leaves of the entries, by the results of its closure.
use Rattle.std.specs.Prelude.{◌≡◌, Bool, List, [], ◌∷◌, Option, None, Some, if◌then◌else◌}
use Rattle.std.specs.Borrow.{Bor, MutBor}

module _ {K V F : Type 0} (step : F → Bor K → MutBor V → Bool → MutBor V → F → Type 0) where
  -- a call of `f` for the entry `e` may return `keep`, with `y` as the value and the closure as `g`
  -- then
  pub record MayReturn (f : F) (e : K × V) (keep : Bool) (y : V) (g : F) : Type 0 where
    pub key : Bor K
    pub keyed : key.now ≡ e.0
    pub before : MutBor V
    pub given : before.now ≡ e.1
    pub after : MutBor V
    pub left : after.now ≡ y
    pub call : step f key before keep after g

-- `Calls f e keep y g`: a call of `f` for the entry `e` may return `keep`, with `y` as the value and
-- the closure as `g` then
module _ {K V F : Type 0} (Calls : F → K × V → Bool → V → F → Type 0) where
  -- `f` was called for each of the entries, in order, and is `g` then; an entry for which it
  -- returned `true` is in `kept`, with the value as the call left it
  abbrev pub Retains : (f : F) → (es kept : List (K × V)) → (g : F) → Type 0
  Retains f [] kept g = (kept ≡ []) × (g ≡ f)
  Retains f (e ∷ es) kept g =
      (keep : Bool) × (y : V) × (next : F) × Calls f e keep y next
      × (others : List (K × V)) × (kept ≡ (if keep then (e.0, y) ∷ others else others))
      × Retains next es others g

  -- the place `o` is as `p` after `f` was called for its entry, if it has one, and `f` is `g` then
  abbrev pub Visits : (f : F) → (o p : Option (K × V)) → (g : F) → Type 0
  Visits f None p g = (p ≡ None) × (g ≡ f)
  Visits f (Some e) p g =
      (keep : Bool) × (y : V) × Calls f e keep y g × (p ≡ (if keep then Some (e.0, y) else None))
