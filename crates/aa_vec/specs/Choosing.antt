-- What closures that test elements leave of a list. A relation says what one call of a closure may
-- do: from its state and the borrowed elements to a result, its next state, and the elements as it
-- left them.
use denote.Ref.{MutBor, Bor}
use denote.Param.Members.{Mut}
use Rattle.std.specs.Prelude.{◌≡◌, ℕ, ◌≤◌, Bool, true, false, not, List, [], ◌∷◌, ◌++◌, ◌⊎◌, map, filter, count_by, length, ⊤}
use Rattle.std.specs.Fn.{CalledAt, CalledAtMut}
use Rattle.aa_vec.specs.Vector.{Vector, Becomes}

-- the closure `f` may be called at a `&mut` to `x`
abbrev pub CallableAtMut : {F T R : Type 0} → Mut F (MutBor T × Unit {0})
    (R × (MutBor T × Unit {0}))
    → F → T → Type 0
CallableAtMut {F} {T} g f x = (p : MutBor T) → p.now ≡ x → g.pre f (p, tt)

-- one call of the closure `f` at a `&` to `x` had this result; `y` is `x`, which is thus unchanged
abbrev pub Reads : {F T : Type 0} → Mut F (Bor T × Unit {0}) Bool → F → T → Bool → F → T → Type 0
Reads g f x result next y = CalledAt g f x result next × (y ≡ x)

-- the closure `f` may be called for the key of `x`, and then for the key of `l`
abbrev pub CallableAtKeys : {F T R : Type 0} → Mut F (MutBor T × Unit {0})
    (R × (MutBor T × Unit {0}))
    → F → T → T → Type 0
CallableAtKeys {F} {T} {R} g f x l =
    CallableAtMut g f x
    × ((key : R) (next : F) (y : T) → CalledAtMut g f x key next y → CallableAtMut g next l)

-- a call of the test of equality `eq`, which leaves both elements unchanged
abbrev pub Equals : {T : Type 0} → (T → T → Bool) → Unit {0} → T → T → Bool
    → Unit {0} → T → T → Type 0
Equals eq s x l result t y k = (result ≡ eq x l) × (y ≡ x) × (k ≡ l)

-- a call of a closure for an element: its result, and the element as it was left
pub record Call (T : Type 0) : Type 0 where
  pub result : Bool
  pub left : T

-- the results of the calls
abbrev pub results_of : {T : Type 0} → List (Call T) → List Bool
results_of calls = map (λ t. t.result) calls

-- the elements whose call returned `true`, as they were left
abbrev pub kept : {T : Type 0} → List (Call T) → List T
kept calls = map (λ t. t.left) (filter (λ t. t.result) calls)

-- the elements whose call returned `false`, as they were left
abbrev pub passed_over : {T : Type 0} → List (Call T) → List T
passed_over calls = map (λ t. t.left) (filter (λ t. not t.result) calls)

-- the last of the calls, if there is one, returned `true`
abbrev pub EndsTrue : {T : Type 0} → List (Call T) → Type 0
EndsTrue {T} calls =
    (calls ≡ [])
    ⊎ ((front : List (Call T)) × (x : T)
    × (calls ≡ front ++ record { result = true; left = x } ∷ []))

-- of elements that are kept where the list is true, how many are after the first removed one
abbrev pub kept_after_removed : List Bool → ℕ
kept_after_removed [] = 0
kept_after_removed (true ∷ results) = kept_after_removed results
kept_after_removed (false ∷ results) = count_by (λ s. s) results

module _ {F T : Type 0} (Calls : F → T → Bool → F → T → Type 0) where
  -- the closure was called once for each element, in order; its state was `f` and then is `g`
  abbrev pub CalledInOrder : F → List T → List (Call T) → F → Type 0
  CalledInOrder f [] [] g = g ≡ f
  CalledInOrder f (x ∷ xs) (y ∷ ys) g =
      (next : F) × Calls f x y.result next y.left × CalledInOrder next xs ys g
  CalledInOrder f [] (y ∷ ys) g = ⊥
  CalledInOrder f (x ∷ xs) [] g = ⊥

  -- the closure may be called for each element in turn, in whatever state the call before leaves it
  abbrev pub MayCallInOrder : (F → T → Type 0) → F → List T → Type 0
  MayCallInOrder Takes f [] = ⊤
  MayCallInOrder Takes f (x ∷ xs) =
      Takes f x
      × ((result : Bool) (next : F) (y : T) → Calls f x result next y
      → MayCallInOrder Takes next xs)

  -- the same as a record, which callers prove
  pub record IsCallableInOrder (Takes : F → T → Type 0) (f : F) (xs : List T) : Type 0 where
    pub along : MayCallInOrder Takes f xs

  -- `new` is `old` after one call of the closure for each element, in order. It has the elements
  -- whose call returned `true`, as they were left, in the block of `old`. Those after the first
  -- removed one were written, in no more runs than elements were removed
  pub record Retains {A : Type 0} (f : F) (old : Vector T A) (g : F)
      (new : Vector T A) : Type 0 where
    pub calls : List (Call T)
    pub called : CalledInOrder f old.items calls g
    pub runs : ℕ
    pub few : runs ≤ count_by (λ t. not t.result) calls
    pub becomes : let results = map (λ t. t.result) calls in
        Becomes old (kept calls) (kept_after_removed results) runs new

module _ {F T : Type 0} (Calls : F → T → T → Bool → F → T → T → Type 0) where
  -- `l` is the last element kept. The closure was called for each of `xs` with the last one kept
  -- before it, and the element is removed where the result is true; `ys` are the remaining ones,
  -- `l` first
  abbrev pub ChainsFrom : F → T → List T → List Bool → F → List T → Type 0
  ChainsFrom f l [] [] g ys = (g ≡ f) × (ys ≡ l ∷ [])
  ChainsFrom f l (x ∷ xs) (true ∷ results) g ys =
      (next : F) × (y : T) × (k : T) × Calls f x l true next y k × ChainsFrom next k xs results g ys
  ChainsFrom f l (x ∷ xs) (false ∷ results) g ys =
      (next : F) × (y : T) × (k : T) × (zs : List T) × Calls f x l false next y k
      × ChainsFrom next y xs results g zs × (ys ≡ k ∷ zs)
  ChainsFrom f l [] (result ∷ results) g ys = ⊥
  ChainsFrom f l (x ∷ xs) [] g ys = ⊥

  -- `ys` is what remains of `xs` without repeats, after calls with these results, in order
  abbrev pub Deduplicated : F → List T → List Bool → F → List T → Type 0
  Deduplicated f [] results g ys = (results ≡ []) × (g ≡ f) × (ys ≡ [])
  Deduplicated f (x ∷ xs) results g ys = ChainsFrom f x xs results g ys

  -- `l` is the last element kept, and the closure may be called for each of `xs` in turn with the
  -- last one kept then
  abbrev pub MayChainFrom : (F → T → T → Type 0) → F → T → List T → Type 0
  MayChainFrom Takes f l [] = ⊤
  MayChainFrom Takes f l (x ∷ xs) =
      Takes f x l
      × ((next : F) (y k : T) → Calls f x l true next y k → MayChainFrom Takes next k xs)
      × ((next : F) (y k : T) → Calls f x l false next y k → MayChainFrom Takes next y xs)

  -- the closure may be called for each element after the first in turn, with the last one kept
  abbrev pub MayDeduplicate : (F → T → T → Type 0) → F → List T → Type 0
  MayDeduplicate Takes f [] = ⊤
  MayDeduplicate Takes f (x ∷ xs) = MayChainFrom Takes f x xs

  -- the same as a record, which callers prove
  pub record IsCallableAlong (Takes : F → T → T → Type 0) (f : F) (xs : List T) : Type 0 where
    pub along : MayDeduplicate Takes f xs

  -- each call returns `same` of its two elements, and changes neither
  abbrev pub IsPureTest : (T → T → Bool) → Type 0
  IsPureTest same = (f : F) (x l : T) (result : Bool) (g : F) (y k : T)
      → Calls f x l result g y k → (result ≡ same x l) × (y ≡ x) × (k ≡ l)

  -- `new` has what remains of the items of `old` without repeats, no more than there were, in the
  -- block of `old`. Those after the first repeat were written, in no more runs than repeats were
  -- removed
  pub record Deduplicates {A : Type 0} (f : F) (old : Vector T A) (g : F)
      (new : Vector T A) : Type 0 where
    pub results : List Bool
    pub left : List T
    pub called : Deduplicated f old.items results g left
    pub runs : ℕ
    pub few : runs ≤ count_by (λ removed. removed) results
    pub fewer : length new.items ≤ length old.items
    pub becomes : Becomes old left (kept_after_removed (map not results)) runs new
