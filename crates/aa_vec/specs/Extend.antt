-- A vector to which the items of an iterator are appended one by one, and the lower bounds that the
-- iterator returns of how many remain.
use Rattle.std.specs.Prelude.{◌≡◌, ℕ, ◌+◌, ◌-◌, ◌^◌, min, ◌<◌, ◌≤◌, List, [], ◌++◌, length, map, Option, Some, None, Result, Ok, Err, IfOk, IfErr, OnOk}
use Rattle.std.specs.Borrow.{Bor}
use Rattle.std.specs.Iterator.{YieldsFirst, Drains}
use Rattle.std.specs.Iterator.Runs.{WholeRun}
use Rattle.aa_raw.specs.Growth.{amortized, min_capacity}
use Rattle.aa_raw.specs.Room.{LacksRoom}
use Rattle.aa_raw.specs.declared.collections.TryReserveError.{TryReserveError}
pub use Rattle.aa_boxed.specs.Hints.{LowerAtMost, EndsAt, YieldsWithLower, Takes}
use Rattle.aa_raw.specs.declared.raw_vec.Growth.TheVariants.{Doubling}
use Rattle.aa_vec.specs.Vector.{Vector, IsNew, with_room}

-- what an `Items` holds: the remaining items, in order, and the hint that it returns of their
-- number
pub record RemainingItems (T : Type 0) : Type 0 where
  pub items : List T
  pub hint : Option ℕ  -- for `None` it is how many there are

-- an `Items` in the state `s` yielded `r` and is then `t`: `r` is the first item, if there was one,
-- and the hint is unchanged
abbrev pub takes_item : {T : Type 0} → RemainingItems T → Option T → RemainingItems T → Type 0
takes_item s r t = YieldsFirst (λ left. left.items) s r t × (t.hint ≡ s.hint)

-- the lower bound that an `Items` with this hint returns when `left` items remain
abbrev pub lower_bound_of : Option ℕ → (left : ℕ) → ℕ
lower_bound_of None left = left
lower_bound_of (Some hint) left = hint

module _ {T A : Type 0} where
  -- `old`, of elements of `size` bytes, grew any number of times while it was full and had no
  -- capacity for `needed`, and `new` has its block. Each growth requested capacity for the first
  -- item without a place and for `lower k` more, where k others had none, or for `usize::MAX`
  pub data GrowsInSteps (size : ℕ) (lower : ℕ → ℕ) (needed : ℕ) : Vector T A → Vector T A
      → Type 0 where
    unchanged : {old new : Vector T A}
        → new
        ≡ record old {
          items = new.items;
          written = new.written;
          runs = new.runs;
          spare = new.spare;
        }
        → GrowsInSteps size lower needed old new
    grows : {old new : Vector T A} → old.capacity < needed
        → GrowsInSteps size lower needed
        (with_room size old old.capacity (min (lower (needed - old.capacity - 1) + 1) (2 ^ 64 - 1)))
        new
        → GrowsInSteps size lower needed old new

  -- `new` has `xs` and after it `front`, a beginning of `added`, in the block of `old` or the first
  -- that it grew to with places for all. On success `front` is all of `added`; else it fills the
  -- places, and the growth failed that was requested when the first of the others had no place
  pub record Extends (size : ℕ) (lower : ℕ → ℕ) (old : Vector T A) (xs added : List T)
      (result : Result Unit TryReserveError) (new : Vector T A) : Type 0 where
    pub front : List T
    pub others : List T
    pub begins : added ≡ front ++ others
    pub within : length xs ≤ old.capacity
    pub in_steps : GrowsInSteps size lower (length xs + length added) old new
    pub items : new.items ≡ xs ++ front
    pub fits : length xs + length front ≤ new.capacity
    pub all : OnOk result (others ≡ [])
    pub error : IfErr result (λ e.
        let more = min (lower (length others - 1) + 1) (2 ^ 64 - 1) in
        (0 < length others) × (length xs + length front ≡ new.capacity)
        × LacksRoom size new.capacity (length new.items) more
        (amortized new.growth new.capacity (length new.items + more) (min_capacity size)) e)

-- a call that yielded a `&` yielded a value equal to what it refers to
abbrev pub YieldsCopies : {S T : Type 0} → (S → Option (Bor T) → S → Type 0) → S → Option T → S
    → Type 0
YieldsCopies next_gives s None t = next_gives s None t
YieldsCopies {T = T} next_gives s (Some x) t = (r : Bor T) × next_gives s (Some r) t × (x ≡ r.now)

-- in the state `s` the lower bound is the number that `lower_of` has for it
abbrev pub LowerExactly : {S : Type 0} → (S → ℕ) → S → ℕ → Type 0
LowerExactly lower_of s n = n ≡ lower_of s

-- `new` is `old` with items of `iter` appended, after a call with this result; `after` is what is
-- left of `iter`. Only the items that were placed were taken and, if a growth failed, one more
pub record ExtendResult {S T A : Type 0} (next_gives : S → Option T → S → Type 0)
    (LowerIs : S → ℕ → Type 0) (size : ℕ) (iter : S) (old : Vector T A) (after : S)
    (result : Result Unit TryReserveError) (new : Vector T A) : Type 0 where
  -- on success all items are appended, in order
  pub items : OnOk result ((xs : List T) × Drains next_gives iter xs
      × (new.items ≡ old.items ++ xs))
  pub runs : OnOk result (WholeRun next_gives iter (λ p. new.items ≡ old.items ++ p.items))
  -- and the vector grew while it was full
  pub appended : OnOk result (Takes next_gives LowerIs iter (λ lower xs last.
      next_gives last None after × Extends size lower old old.items xs (Ok tt) new))
  -- each appended item was written once
  pub written : let n = length new.items - length old.items in
      (new.written ≡ old.written + n) × (new.runs ≡ old.runs + n)
  -- on an error `new` has a beginning of the items, and one item more was taken
  pub error : IfErr result (λ e. Takes next_gives LowerIs iter (λ lower xs last. (last ≡ after)
      × (stop : Extends size lower old old.items xs (Err e) new) × (length stop.others ≡ 1)))

-- a new vector over the allocator `a` was extended with the items of `iter`; the result is the
-- vector, or the error after which it was dropped
pub record CollectResult {S T A : Type 0} (next_gives : S → Option T → S → Type 0)
    (LowerIs : S → ℕ → Type 0) (size : ℕ) (iter : S) (a : A) (after : S)
    (result : Result (Vector T A) TryReserveError) : Type 0 where
  -- on success the vector holds all items, in order
  pub items : IfOk result (λ v. Drains next_gives iter v.items)
  pub runs : IfOk result (λ v. WholeRun next_gives iter (λ p. v.items ≡ p.items))
  -- and grew from nothing, as an extension does
  pub made : IfOk result (λ v. Takes next_gives LowerIs iter (λ lower xs last.
      next_gives last None after × (new : Vector T A) × IsNew size 0 a new
      × Extends size lower new new.items xs (Ok tt) v))
  pub growth : IfOk result (λ v. v.growth ≡ Doubling)
  pub alloc : IfOk result (λ v. v.alloc ≡ a)
  -- each item was written once
  pub written : IfOk result (λ v. (v.written ≡ length v.items) × (v.runs ≡ length v.items))
  -- on an error a beginning of the items is dropped, and one item more was taken
  pub error : IfErr result (λ e. Takes next_gives LowerIs iter (λ lower xs last. (last ≡ after)
      × (new : Vector T A) × (stop : Vector T A) × IsNew size 0 a new
      × (full : Extends size lower new new.items xs (Err e) stop) × (length full.others ≡ 1)))

module _ {T A : Type 0} where
  -- `v` has the items `xs`, each of which was written once, and grew by doubling
  pub record HasCollected (xs : List T) (v : Vector T A) : Type 0 where
    pub items : v.items ≡ xs
    pub growth : v.growth ≡ Doubling
    pub written : v.written ≡ length xs
    pub runs : v.runs ≡ length xs

  -- `new` is `old` with the items `xs` appended, each of which was written once
  pub record HasExtended (old : Vector T A) (xs : List T) (new : Vector T A) : Type 0 where
    pub items : new.items ≡ old.items ++ xs
    pub capacity : old.capacity ≤ new.capacity
    pub growth : new.growth ≡ old.growth
    pub alloc : new.alloc ≡ old.alloc
    pub written : new.written ≡ old.written + length xs
    pub runs : new.runs ≡ old.runs + length xs

  -- `new` is `old` with copies appended of what `rs` refer to, each of which was written once
  abbrev pub HasCopied : (old : Vector T A) → List (Bor T) → (new : Vector T A) → Type 0
  HasCopied old rs new = HasExtended old (map (λ r. r.now) rs) new
