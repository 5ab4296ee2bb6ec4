-- What `retain` leaves of the entries, by the results of its closure.
use Rattle.std.specs.Prelude.{◌≡◌, ℕ, ◌+◌, Bool, List, [], ◌∷◌, Some, if◌then◌else◌, remove, slice_get, slice_set}
use Rattle.std.specs.Borrow.{Bor, MutBor}

module _ {K V F : Type 0} (step : F → Bor K → MutBor V → Bool → MutBor V → F → Type 0) where
  -- a call of `f` for the entry `e` may return `keep`, with `y` as the value and the closure as `g`
  -- then
  pub record MayReturn (f : F) (e : K × V) (keep : Bool) (y : V) (g : F) : Type 0 where
    pub key : Bor K
    pub keyed : key.now ≡ e.0
    pub before : MutBor V
    pub given : before.now ≡ e.1
    pub after : MutBor V
    pub left : after.now ≡ y
    pub call : step f key before keep after g

  -- `f` was called for each of the entries, in order, and is `g` then; an entry for which it
  -- returned `true` is in `kept`, with the value as the call left it
  abbrev pub Retains : (f : F) → (es kept : List (K × V)) → (g : F) → Type 0
  Retains f [] kept g = (kept ≡ []) × (g ≡ f)
  Retains f (e ∷ es) kept g =
      (keep : Bool) × (y : V) × (next : F) × MayReturn f e keep y next
      × (others : List (K × V)) × (kept ≡ (if keep then (e.0, y) ∷ others else others))
      × Retains next es others g

  -- `f` was called for the entry at position `p` of `es`, and is `g` then: `new` are the entries as
  -- the call left them, and `q` the position of the next one
  pub record Visits (f : F) (es : List (K × V)) (p : ℕ) (new : List (K × V)) (q : ℕ) (g : F)
      : Type 0 where
    pub entry : K × V
    pub keep : Bool
    pub written : V
    pub there : slice_get es p ≡ Some entry
    pub call : MayReturn f entry keep written g
    pub left : new ≡ (if keep then slice_set es p (entry.0, written) else remove es p)
    pub next : q ≡ (if keep then p + 1 else p)
