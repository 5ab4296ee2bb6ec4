-- Laws that users of the vector rely on, over the steps of the list machine and the results of
-- calls.
use Rattle.std.specs.Prelude.{◌≡◌, ℕ, ◌≤◌, Bool, false, List, [], ◌∷◌, length, ⊤}
use Rattle.std.specs.List.{AllByRecursion, IsDistinct, dedup}
use Rattle.std.specs.List.Sorted.{IsSortedBy, ties}
use Rattle.aa_raw.specs.declared.collections.Refused.{Refused}
use Rattle.aa_vec.specs.Vector.{Vector, len, new_capacity, with_less}
use Rattle.aa_vec.specs.Boxes.{boxed, ReturnsVector, IsUnboxed}
use Rattle.aa_vec.specs.Choosing.{Equals, Deduplicated}
use Rattle.allocator_api2.specs.declared.runner.Command.TheVariants.{Within, Reserve, SplitOff, Append}
use Rattle.allocator_api2.specs.declared.runner.Reply.{Reply}
use Rattle.allocator_api2.specs.declared.runner.Reply.TheVariants.{Done}
use Rattle.allocator_api2.specs.Machine.{Replies}

-- the reply says that the command succeeded
abbrev pub IsDone : {T : Type 0} → Reply T → Type 0
IsDone Done = ⊤
IsDone reply = ⊥

-- the elements are pushed within the capacity of `main`, one after another, with these replies
abbrev pub PushesWithin : {T A : Type 0} (size : ℕ) (main side : Vector T A) → List T
    → List (Reply T) → Type 0
PushesWithin size main side [] [] = ⊤
PushesWithin {T} {A} size main side (x ∷ xs) (reply ∷ replies) =
    (main' : Vector T A) × (side' : Vector T A)
    × Replies size ⊤ main side (Within x) reply main' side'
    × PushesWithin size main' side' xs replies
PushesWithin size main side [] (reply ∷ replies) = ⊥
PushesWithin size main side (x ∷ xs) [] = ⊥

-- after a successful reserve of k more, up to k pushes within the capacity that come next succeed
abbrev pub ReserveHolds : (T A : Type 0) (size : ℕ) → Type 0
ReserveHolds T A size =
    (k : ℕ) (main side main' side' : Vector T A) (xs : List T) (replies : List (Reply T))
    → Replies size ⊤ main side (Reserve k) Done main' side'
    → PushesWithin size main' side' xs replies
    → length xs ≤ k
    → AllByRecursion IsDone replies

-- after splitting main at an index and appending what was split off, it has the same list
abbrev pub CutIsJoined : (T A : Type 0) (size : ℕ) → Type 0
CutIsJoined T A size =
    (at : ℕ) (main side head tail main' side' : Vector T A)
    → Replies size ⊤ main side (SplitOff at) Done head tail
    → Replies size ⊤ head tail Append Done main' side'
    → main'.items ≡ main.items

-- no two neighbours of the list are equal by `eq`, in either order
abbrev pub NeighboursDiffer : {T : Type 0} → (T → T → Bool) → List T → Type 0
NeighboursDiffer eq [] = ⊤
NeighboursDiffer eq (x ∷ []) = ⊤
NeighboursDiffer eq (x ∷ y ∷ xs) =
    (eq x y ≡ false) × (eq y x ≡ false) × NeighboursDiffer eq (y ∷ xs)

-- each call of the closure returns whether its elements are equal, and does not change them
abbrev pub TestsEquality : {T S : Type 0} → (T → T → Bool) → (S → T → T → Bool → S → T → T → Type 0)
    → Type 0
TestsEquality {T} {S} eq Repeats =
    (s t : S) (x l y k : T) (equal : Bool) → Repeats s x l equal t y k
    → Equals eq tt x l equal tt y k

-- if the closure tests for equality, the list that it deduplicates has no two equal neighbours
abbrev pub LeavesNoRepeats : {T S : Type 0} → (T → T → Bool)
    → (S → T → T → Bool → S → T → T → Type 0) → Type 0
LeavesNoRepeats {T} {S} eq Repeats =
    TestsEquality eq Repeats
    → (s t : S) (xs left : List T) (results : List Bool) → Deduplicated Repeats s xs results t left
    → NeighboursDiffer eq left

-- `lt` orders the elements up to `same`: 'not less than' is transitive, and two elements are the
-- same exactly if neither is less than the other
pub record OrdersUpTo {T : Type 0} (same lt : T → T → Bool) : Type 0 where
  pub chain : (x y z : T) → lt x y ≡ false → lt y z ≡ false → lt x z ≡ false
  pub tie : (x y : T) → same x y ≡ ties lt x y

-- after `dedup` of a list that such an order sorts, no two elements are the same
abbrev pub LeavesDistinct : {T : Type 0} → (same : T → T → Bool) → Type 0
LeavesDistinct {T} same =
    (lt : T → T → Bool) (xs : List T) → OrdersUpTo same lt → IsSortedBy lt xs
    → IsDistinct same (dedup same xs)

-- a vector that is converted to a boxed slice and back has the same list, with exact capacity, and
-- its memory has cost no more than to shrink it. A vector that could not be converted is returned
-- in the error
abbrev pub BoxingKeeps : (T A : Type 0) (size : ℕ) → Type 0
BoxingKeeps T A size =
    (v : Vector T A) → let less = with_less size v (len v) in
    ((w : Vector T A) → IsUnboxed size (boxed less) w
    → (w.items ≡ v.items) × (w.capacity ≡ new_capacity size (len v)) × (w.grown ≡ less.grown))
    × ((r : Refused (Vector T A)) → ReturnsVector size v r → r.source ≡ v)
