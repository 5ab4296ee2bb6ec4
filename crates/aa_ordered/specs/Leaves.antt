-- Lists in the leaves of one block, as contracts see them.
use Rattle.std.specs.Prelude.{ℕ, ◌+◌, ◌*◌, List, [], ◌++◌, ◌==◌, ◌||◌, length, take, drop, get_or, slice_set, max, if◌then◌else◌, nat_le}
use Rattle.std.specs.List.{flat_map}

-- lists of at most 64 items each, the number of leaves, one for each list and free ones, and the
-- number of times that the lists moved to new blocks
pub record LeavesView (T : Type 0) : Type 0 where
  pub lists : List (List T)
  pub room : ℕ
  pub resizes : ℕ  -- each time to two: of the leaves and of their heads

module _ {T : Type 0} where
  -- the items of all lists, in order
  abbrev pub items : LeavesView T → List T
  items v = flat_map (λ l. l) v.lists

  -- the list at index `i`
  abbrev pub list_at : LeavesView T → (i : ℕ) → List T
  list_at v i = get_or v.lists i []

  -- `v` with these lists
  abbrev pub with_lists : LeavesView T → List (List T) → LeavesView T
  with_lists v ls = record v { lists = ls }

  -- `v` with the list `xs` at index `i`
  abbrev pub with_list : LeavesView T → (i : ℕ) → (xs : List T) → LeavesView T
  with_list v i xs = with_lists v (slice_set v.lists i xs)

  -- the lists `ls` with `others` in place of the `n` lists from index `i` on
  abbrev pub replaced : (ls : List (List T)) → (i n : ℕ) → (others : List (List T)) → List (List T)
  replaced ls i n others = take i ls ++ (others ++ drop (i + n) ls)

  -- the number of leaves after a reserve of `k` more: if they do not fit, at least twice as many
  abbrev pub room_for : LeavesView T → (k : ℕ) → ℕ
  room_for v k =
      if nat_le (length v.lists + k) v.room then v.room else max (2 * v.room) (length v.lists + k)

  -- the number of resizes of `v` once it has `n` leaves: one more, unless it had as many, or `n` is 0
  -- and all blocks were freed
  abbrev pub resizes_to : LeavesView T → (n : ℕ) → ℕ
  resizes_to v n = if (n == 0) || (n == v.room) then v.resizes else v.resizes + 1

  -- `v` with `n` leaves, and as many resizes as that needs
  abbrev pub with_room : LeavesView T → (n : ℕ) → LeavesView T
  with_room v n = record v { room = n; resizes = resizes_to v n }
