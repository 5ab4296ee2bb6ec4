-- Calls of a closure along a list, up to the first element that is removed.
use Rattle.std.specs.Prelude.{◌≡◌, ℕ, zero, suc, ◌≤◌, Bool, true, false, not, List, [], ◌∷◌, ◌++◌, length, map, take, drop, Option, Some, ◌+◌, ◌-◌, ◌<◌, slice_set, None, MatchOption, if◌then◌else◌}
use Rattle.aa_vec.specs.Tail.{HasTail, ClosesGap, LeavesInTail, tail_items, with_spare}
use Rattle.aa_vec.specs.Choosing.{Call, CalledInOrder, EndsTrue, kept, passed_over}
use Rattle.aa_vec.specs.Vector.{Vector, Becomes, run_count, moved_over}

-- of the elements of `old` after the gap, which are in the places from `at` up to `end`, the first
-- `kept` were moved down; one after them, if there is one, was taken out, and `next` is the first
-- place after it
pub record TakesNext {T A : Type 0} (old : Vector T A) (gap at end kept : ℕ) (new : Vector T A)
    (next : ℕ) : Type 0 where
  pub closed : Vector T A
  pub closes : ClosesGap old gap kept closed
  pub removed : at + kept < end → (new ≡ with_spare closed (slice_set closed.spare gap None))
      × (next ≡ at + kept + 1)
  pub none : at + kept ≡ end → (new ≡ closed) × (next ≡ end)

-- calls of a closure, as calls whose result says whether the element is kept: it is where the
-- closure returns this truth value
abbrev pub KeepsWhen : {F T : Type 0} → Bool → (F → T → Bool → F → T → Type 0) → F
    → T → Bool → F → T → Type 0
KeepsWhen result Calls f x b g y = Calls f x (if result then b else not b) g y

module _ {F T : Type 0} (Calls : F → T → Bool → F → T → Type 0) where
  -- from the state `f` on, the closure was called for the first `k` of `xs`, which are kept, and
  -- for one after them, if there is one, which is removed. `ys` are all of `xs`, as they were left
  abbrev pub CallsUntil : F → List T → (k : ℕ) → F → List T → Type 0
  CallsUntil f [] zero g ys = (g ≡ f) × (ys ≡ [])
  CallsUntil f [] (suc k) g ys = ⊥
  CallsUntil f (x ∷ xs) zero g ys = (y : T) × Calls f x false g y × (ys ≡ y ∷ xs)
  CallsUntil f (x ∷ xs) (suc k) g ys =
      (next : F) × (y : T) × (zs : List T) × Calls f x true next y × CallsUntil next xs k g zs
      × (ys ≡ y ∷ zs)

  -- the closure was called so for the `n` elements of `old` after the gap
  pub record CallsOnTail {A : Type 0} (f : F) (old : Vector T A) (gap n k : ℕ) (g : F)
      (new : Vector T A) : Type 0 where
    pub left : List T
    pub until : CallsUntil f (tail_items old gap n) k g left
    pub leaves : LeavesInTail old gap n left new

  -- and then the `k` kept elements were moved down
  pub record CallsAndShifts {A : Type 0} (f : F) (old : Vector T A) (gap n k : ℕ) (g : F)
      (new : Vector T A) : Type 0 where
    pub left : Vector T A
    pub calls : CallsOnTail f old gap n k g left
    pub closes : ClosesGap left gap k new

  -- the closure was called for the elements in the places from `front` up to `end`, in order, up to
  -- the first for which it returned `true`, which was taken out. The others for which it was called
  -- were moved down to the first `low` places. `next` is the first place that was not tested
  pub record Picks {A : Type 0} (f : F) (old : Vector T A) (low front end : ℕ) (passed next : ℕ)
      (item : Option T) (g : F) (new : Vector T A) : Type 0 where
    pub calls : List (Call T)
    pub called : CalledInOrder Calls f
        (take (length calls) (tail_items old front (end - front))) calls g
    pub cases : MatchOption item ((kept calls ≡ []) × (next ≡ end))
        (λ x. (kept calls ≡ x ∷ []) × EndsTrue calls)
    pub counts : (passed ≡ length (passed_over calls)) × (next ≡ front + length calls)
    pub becomes : let moved = moved_over (front - low) passed in
        Becomes old old.items moved (run_count moved) new
    pub has_tail : HasTail new 0 (low + passed)
    pub kept_items : tail_items new 0 (low + passed) ≡ tail_items old 0 low ++ passed_over calls
    pub within : (low + passed ≤ next) × (front ≤ next) × (next ≤ end)
    pub above : drop next new.spare ≡ drop next old.spare

module _ {F T : Type 0} (Calls : F → T → T → Bool → F → T → T → Type 0) where
  -- from the state `f` on, the closure was called for the first `k` of `xs`, each with the one
  -- before it, the first with `l`, and they are kept; and for one after them, if there is one,
  -- which is removed. `ws` are all, as they were left, `l` first
  abbrev pub ChainsUntil : F → T → List T → (k : ℕ) → F → List T → Type 0
  ChainsUntil f l [] zero g ws = (g ≡ f) × (ws ≡ l ∷ [])
  ChainsUntil f l [] (suc k) g ws = ⊥
  ChainsUntil f l (x ∷ xs) zero g ws = (y : T) × (m : T) × Calls f x l true g y m
      × (ws ≡ m ∷ y ∷ xs)
  ChainsUntil f l (x ∷ xs) (suc k) g ws =
      (next : F) × (y : T) × (m : T) × (zs : List T) × Calls f x l false next y m
      × ChainsUntil next y xs k g zs × (ws ≡ m ∷ zs)

  -- the closure was called so for all elements of a list after its first
  abbrev pub ChainsAlong : F → List T → (k : ℕ) → F → List T → Type 0
  ChainsAlong f [] k g ws = ⊥
  ChainsAlong f (l ∷ xs) k g ws = ChainsUntil f l xs k g ws

  -- the closure was called for the element after the gap, with the last item
  pub record CallsOnLast {A : Type 0} (f : F) (old : Vector T A) (gap : ℕ) (result : Bool) (g : F)
      (new : Vector T A) : Type 0 where
    pub front : List T
    pub last : T
    pub next : T
    pub last_left : T
    pub next_left : T
    pub had : (old.items ≡ front ++ last ∷ []) × (tail_items old gap 1 ≡ next ∷ [])
    pub called : Calls f next last result g next_left last_left
    pub becomes : Becomes old (front ++ last_left ∷ []) 0 0 new
    pub spare : drop gap new.spare ≡ Some next_left ∷ drop 1 (drop gap old.spare)

  -- the closure was called so for the `n` elements of `old` after the gap, the first with the last
  -- item
  pub record ChainsOnTail {A : Type 0} (f : F) (old : Vector T A) (gap n k : ℕ) (g : F)
      (new : Vector T A) : Type 0 where
    pub front : List T
    pub last : T
    pub last_left : T
    pub left : List T
    pub had : old.items ≡ front ++ last ∷ []
    pub until : ChainsUntil f last (tail_items old gap n) k g (last_left ∷ left)
    pub becomes : Becomes old (front ++ last_left ∷ []) 0 0 new
    pub spare : drop gap new.spare ≡ map Some left ++ drop n (drop gap old.spare)
