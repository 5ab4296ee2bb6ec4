-- The invariant of the fields of an arena of leaves, and their view.
use Rattle.std.specs.Prelude.{◌≡◌, ◌≢◌, ℕ, ◌*◌, ◌<◌, ◌≤◌, List, length, take, map, get_or, Option, ◌==◌}
use Rattle.std.specs.List.{All, count_by}
use Rattle.allocator_api2.specs.Places.{IsRun, run}
use Rattle.aa_ordered.specs.Leaves.{LeavesView}
use Rattle.aa_ordered.specs.declared.leaves.Head.{Head}
use Rattle.aa_ordered.specs.declared.leaves.Leaves.TheInside.{Inside}

-- the number of heads whose leaf is `leaf`
abbrev pub heads_of : (leaf : ℕ) → List Head → ℕ
heads_of leaf hs = count_by (λ h. h.leaf == leaf) hs

-- `news` are the heads of `n` leaves in order, of which the first have lists as long as those of
-- the heads `hs`
pub record AreNumbered (hs : List Head) (n : ℕ) (news : List Head) : Type 0 where
  pub count : length news ≡ n
  pub leaves : (i : ℕ) (d : Head) → i < n → (get_or news i d).leaf ≡ i
  pub lens : (i : ℕ) (d : Head) → i < length hs → (get_or news i d).len ≡ (get_or hs i d).len

module _ {T : Type 0} where
  -- the list of the head `h`: the values in the first places of its leaf
  abbrev pub list_of : List (Option T) → Head → List T
  list_of cs h = run cs (h.leaf * 64) h.len

  -- the places of the list of the head `h` are filled, and all in its leaf
  abbrev pub IsHeld : List (Option T) → Head → Type 0
  IsHeld cs h = (h.len ≤ 64) × IsRun cs (h.leaf * 64) h.len

  -- the list of the head `h` in the places `cs` is the one of the leaf `leaf` in the places `ds`
  abbrev pub IsMoved : (cs ds : List (Option T)) → (leaf : ℕ) → Head → Type 0
  IsMoved cs ds leaf h =
      IsRun ds (leaf * 64) h.len × (run ds (leaf * 64) h.len ≡ list_of cs h)

  -- the places `ds` are `cs` with other values in the leaves `a` and `b`
  pub record Keeps (cs ds : List (Option T)) (a b : ℕ) : Type 0 where
    pub count : length ds ≡ length cs
    pub same : (leaf n : ℕ) → leaf ≢ a → leaf ≢ b → n ≤ 64
        → run ds (leaf * 64) n ≡ run cs (leaf * 64) n

  -- the first `used` heads have lists, and each leaf has one head
  pub record IsArena (cs : List (Option T)) (hs : List Head) (used : ℕ) : Type 0 where
    pub lists : used ≤ length hs
    pub places : length hs * 64 ≤ length cs
    pub leaves : (leaf : ℕ) → length hs ≤ leaf → heads_of leaf hs ≡ 0
    pub once : (leaf : ℕ) → heads_of leaf hs ≤ 1
    pub held : All (IsHeld cs) (take used hs)

module _ {T A : Type 0} where
  -- the view of the arena `a`: the lists of its first heads, the number of its heads, and that of
  -- its resizes
  abbrev pub view_of : Inside T A → LeavesView T
  view_of a =
      record {
        lists = map (list_of a.block.places) (take a.used a.heads.items);
        room = length a.heads.items;
        resizes = a.resizes.count;
      }

  -- the invariant of the arena `a`
  abbrev pub IsWhole : Inside T A → Type 0
  IsWhole a = IsArena a.block.places a.heads.items a.used
