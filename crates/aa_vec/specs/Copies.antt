-- What calls leave that append copies of elements, or results of a closure, to a vector.
use Rattle.std.specs.Prelude.{◌≡◌, ℕ, zero, suc, ◌+◌, ◌-◌, ◌<◌, ◌≤◌, List, [], ◌∷◌, ◌++◌, length, take, replicate, ◌⊎◌, ⊤, if◌then◌else◌, ◌==◌}
use Rattle.std.specs.List.{AllZip, FoldsTo}
pub use Rattle.aa_raw.specs.Clones.{ClonesAreEqual}
use Rattle.aa_raw.specs.declared.collections.TryReserveError.{TryReserveError}
use Rattle.aa_raw.specs.declared.collections.TryReserveErrorKind.TheVariants.{AllocError}
use Rattle.aa_raw.specs.declared.raw_vec.Growth.{Growth}
use Rattle.aa_raw.specs.declared.raw_vec.Growth.TheVariants.{Doubling}
use Rattle.aa_vec.specs.Vector.{Vector, len, new_capacity, of_new, Becomes, LacksRoom, with_items, with_room}

-- the closure `f` can be called `k` times, each time in the state that the call before left
abbrev pub MayCallTimes : {F T : Type 0} → (F → Type 0) → (F → T → F → Type 0) → (k : ℕ) → F
    → Type 0
MayCallTimes callable step zero f = ⊤
MayCallTimes {F} {T} callable step (suc k) f =
    callable f × ((y : T) (g : F) → step f y g → MayCallTimes callable step k g)

module _ {T A : Type 0} where
  -- `v` is new, with the items `xs`, capacity for `n` elements of `size` bytes and this `growth`;
  -- `k` calls of the block wrote the items
  pub record IsMade (size n : ℕ) (growth : Growth) (xs : List T) (k : ℕ)
      (v : Vector T A) : Type 0 where
    pub items : v.items ≡ xs
    pub capacity : v.capacity ≡ new_capacity size n
    pub grows : v.growth ≡ growth
    pub grown : v.grown ≡ of_new size n
    pub written : v.written ≡ length xs
    pub runs : v.runs ≡ k

  -- `n` elements were written into places, by at most `n` calls of the block
  pub record WritesAtMost (old : Vector T A) (n : ℕ) (new : Vector T A) : Type 0 where
    pub written : new.written ≡ old.written + n
    pub runs : new.runs ≤ old.runs + n

  -- `v` is new, with the items `xs`, capacity for exactly these and this `growth`; at most as many
  -- calls of the block wrote them
  pub record IsMadeWithin (size : ℕ) (growth : Growth) (xs : List T) (v : Vector T A) : Type 0 where
    pub calls : ℕ
    pub few : calls ≤ length xs
    pub made : IsMade size (length xs) growth xs calls v

  -- `v` is new, with a clone of each of `xs`, and capacity for exactly these
  pub record IsMadeOf (clones : T → T → Type 0) (size : ℕ) (growth : Growth) (xs : List T)
      (v : Vector T A) : Type 0 where
    pub added : List T
    pub each : AllZip clones xs added
    pub made : IsMade size (length xs) growth added (length xs) v

  -- `v` is new, with `n` items, clones of `x` and last `x` itself, and capacity for exactly these
  pub record IsMadeOfOne (clones : T → T → Type 0) (size : ℕ) (x : T) (n : ℕ)
      (v : Vector T A) : Type 0 where
    pub added : List T
    pub each : AllZip clones (replicate (n - 1) x) added
    pub made : IsMade size n Doubling (if n == 0 then [] else added ++ x ∷ []) n v

  -- `new` is `old` with a clone of each of `xs` appended in the same block, written one by one
  pub record AppendsClones (clones : T → T → Type 0) (old : Vector T A) (xs : List T)
      (new : Vector T A) : Type 0 where
    pub added : List T
    pub each : AllZip clones xs added
    pub becomes : let n = length xs in Becomes old (old.items ++ added) n n new

  -- `new` is `old` with `k` elements appended in the same block, written one by one: clones of `x`,
  -- and last `x` itself
  pub record AppendsCopies (clones : T → T → Type 0) (old : Vector T A) (k : ℕ) (x : T)
      (new : Vector T A) : Type 0 where
    pub added : List T
    pub each : AllZip clones (replicate (k - 1) x) added
    pub becomes : Becomes old (old.items ++ (added ++ x ∷ [])) k k new

  -- `new` is `old` in the same block, after fewer than `k` elements were appended and removed again
  pub record RolledBack (old : Vector T A) (k : ℕ) (new : Vector T A) : Type 0 where
    pub done : ℕ
    pub fewer : done < k
    pub becomes : Becomes old old.items done done new

  -- `new` is `old` with `k` results of `f` appended in the same block, written one by one; `f` was
  -- called once for each, in order, and is `g` then
  pub record AppendsResults {F : Type 0} (step : F → T → F → Type 0) (old : Vector T A) (k : ℕ)
      (f g : F) (new : Vector T A) : Type 0 where
    pub results : List T
    pub calls : FoldsTo step f results g
    pub count : length results ≡ k
    pub becomes : Becomes old (old.items ++ results) k k new

  -- `new` is `old` after `k` elements could not all be appended, because of `failure`: those
  -- appended are removed, and the capacity reserved for them is kept
  pub record AppendRolledBack (failure : Type 0) (size : ℕ) (old : Vector T A) (k : ℕ)
      (error : TryReserveError) (new : Vector T A) : Type 0 where
    pub cause : failure
    pub number : error.kind ≡ AllocError (len old + k)
    pub rolled_back : RolledBack (with_room size old (len old) k) k new

  -- `k` elements were not appended to `old`: the allocation failed and `new` is `old`, or there was
  -- a `failure` and they are removed again
  abbrev pub AppendFails : (failure : Type 0) (size : ℕ) → Vector T A → (k : ℕ) → TryReserveError
      → Vector T A → Type 0
  AppendFails failure size old k error new =
      (LacksRoom size old k error × (new ≡ old)) ⊎ AppendRolledBack failure size old k error new

  -- clones of `xs` were to replace the items of `old`, with capacity reserved for all of them, and
  -- because of `failure` only those of a prefix of `xs` did
  pub record AssignsPart (clones : T → T → Type 0) (failure : Type 0) (size : ℕ) (old : Vector T A)
      (xs : List T) (error : TryReserveError) (new : Vector T A) : Type 0 where
    pub cause : failure
    pub number : error.kind ≡ AllocError (length xs)
    pub done : ℕ
    pub fewer : done < length xs
    pub added : List T
    pub each : AllZip clones (take done xs) added
    pub becomes : let roomy = with_room size (with_items old []) 0 (length xs) in
        Becomes roomy added done done new

  -- the items of `old` were not replaced by clones of all of `xs`: the allocation failed and no
  -- item is left, or there was a `failure` and a prefix is
  abbrev pub AssignFails : (clones : T → T → Type 0) (failure : Type 0) (size : ℕ) → Vector T A
      → (xs : List T) → TryReserveError → Vector T A → Type 0
  AssignFails clones failure size old xs error new =
      (LacksRoom size (with_items old []) (length xs) error × Becomes old [] 0 0 new)
      ⊎ AssignsPart clones failure size old xs error new
