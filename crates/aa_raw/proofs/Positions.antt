-- Lemmas on edits at a position of the first n places of a block, which are filled.
use Rattle.aa_raw.proofs.Common.{IsFilled, IsRun, List, None, Option, Some, [], ap, arith, drop, get_or, get_or-set_other, get_or_from_slice_get, insert, is_some, length, length-append, length-drop, length-set, length-take, moved, nat_tests, refl, remove, run, set-set, set_comm, slice_set, suc, swap_remove, sym, take, take-set-le, ℕ, ◌++◌, ◌+◌, ◌-◌, ◌<◌, ◌∙◌, ◌∷◌, ◌≡◌, ◌≤◌}
use Rattle.aa_raw.proofs.Calls.{IsRun-reserved, IsRun-rest, run-of_none, run-reserved, slice_get-run}
use Rattle.aa_raw.proofs.Firsts.{IsRun-set, run-at, run-set}
use Rattle.aa_raw.proofs.Places.{first_filled, length-moved, lengths, moved_one, value_of}
use Rattle.aa_raw.proofs.Runs.{IsRun-long, IsRun-moved, IsRun-part, IsRun-pop, IsRun-set-below, IsRun-shift, length-run, run-drop, run-moved, run-moved-below, run-set-above, run-set-below, run-set-same, run-shift, run-split, run-take}

module _ {T : Type 0} where
  module _ (cs : List (Option T)) (n : ℕ) (front : IsRun cs 0 n) where
    -- those from i on are moved up by one, and x put at i
    abbrev pub inserted : (i : ℕ) → T → List (Option T)
    inserted i x = slice_set (moved cs i (i + 1) (n - i)) i (Some x)

    module _ (i : ℕ) (x : T) (within : i ≤ n) (room : n < length cs) where
      pub length-inserted : length (inserted i x) ≡ length cs
      length-inserted = grind (arith, length-set, length-moved)

      pub run-inserted : run (inserted i x) 0 (n + 1) ≡ insert (run cs 0 n) i x
      run-inserted = grind (
        arith,
        length-moved,
        run-split (inserted i x) 0 i i (n - i + 1) (n + 1),
        run-split (inserted i x) i (i + 1) 1 (n - i) (n - i + 1),
        run-set-above,
        run-set-below,
        run-set-same,
        run-moved,
        run-moved-below,
        run-take cs 0 i n,
        run-drop cs 0 i i n (n - i),
        IsRun-part cs 0 n i (n - i),
      )

      pub IsRun-inserted : IsRun (inserted i x) 0 (n + 1)
      IsRun-inserted =
          IsRun-long (inserted i x) 0 (n + 1)
          (grind (arith, run-inserted, length-append, length-take, length-drop, length-run))
          (omega (arith, length-inserted))

    -- place i is emptied, and those after it are moved down by one
    abbrev pub removed : (i : ℕ) → List (Option T)
    removed i = moved (slice_set cs i None) (i + 1) i (n - 1 - i)

    module _ (i : ℕ) (within : i < n) where
      -- those after it are still there
      pub IsRun-after : IsRun (slice_set cs i None) (i + 1) (n - 1 - i)
      IsRun-after = IsRun-set-below cs (i + 1) (n - 1 - i) i None (omega arith)
          (IsRun-part cs 0 n (i + 1) (n - 1 - i) (omega arith) (omega arith) front)

      pub length-removed : length (removed i) ≡ length cs
      length-removed = grind (arith, front.0, length-set, length-moved)

      pub run-removed : run (removed i) 0 (n - 1) ≡ remove (run cs 0 n) i
      run-removed = grind (
        arith,
        length-set,
        front.0,
        run-split (removed i) 0 i i (n - 1 - i) (n - 1),
        run-moved,
        run-moved-below,
        IsRun-after,
        run-set-above,
        run-set-below,
        run-take cs 0 i n,
        run-drop cs 0 (i + 1) (suc i) n (n - 1 - i),
      )

      pub IsRun-removed : IsRun (removed i) 0 (n - 1)
      IsRun-removed = IsRun-long (removed i) 0 (n - 1)
          (grind (arith, run-removed, length-append, length-take, length-drop, length-run))
          (omega (arith, length-removed, front.0))

      -- the last one is taken: nothing moves
      pub run-last_removed : (d : T) → i ≡ n - 1 → run (slice_set cs i None) 0 (n - 1)
          ≡ swap_remove (run cs 0 n) i d
      run-last_removed d e =
          grind (arith, front.0, run-set-above, run-take, take-set-le, length-run)

      -- another is taken: the last one is moved to its place
      abbrev pub swapped : List (Option T)
      swapped = moved (slice_set cs i None) (n - 1) i 1

      pub length-swapped : length swapped ≡ length cs
      length-swapped = grind (arith, front.0, length-set, length-moved)

      -- the last one is still there
      pub last-filled : i < n - 1 → IsFilled (slice_set cs i None) (n - 1)
      last-filled h = ap is_some
          (get_or-set_other cs i (n - 1) None None (λ e. absurd (omega arith)))
          ∙ first_filled cs n (n - 1) front (omega arith)

      swapped_with : (x d : T) → get_or cs (n - 1) None ≡ Some x → i < n - 1 → run swapped 0 (n - 1)
          ≡ swap_remove (run cs 0 n) i d
      swapped_with x d e h =
          let last : get_or (run cs 0 n) (n - 1) d
          ≡ x = get_or_from_slice_get (run cs 0 n) (n - 1) x d
          (slice_get-run cs n (n - 1) x front (omega arith) e) in
          let places : swapped ≡ slice_set (slice_set cs i (Some x)) (n - 1) None = grind
          (arith, moved_one, set_comm, set-set, length-set, get_or-set_other, e) in
          ap (λ l. run l 0 (n - 1)) places
          ∙ grind (
            arith,
            front.0,
            last,
            length-set,
            run-set-above (slice_set cs i (Some x)) 0
                (n - 1) (n - 1) None,
            run-take (slice_set cs i (Some x)) 0 (n - 1) n,
            IsRun-set cs n i x front,
            run-set cs n i x front within,
            length-run cs 0 n front,
          )

      pub run-swapped : (d : T) → i < n - 1 → run swapped 0 (n - 1) ≡ swap_remove (run cs 0 n) i d
      run-swapped d h =
          let v = value_of (get_or cs (n - 1) None) (first_filled cs n (n - 1) front (omega arith))
          in swapped_with v.0 d v.1 h

      -- all others are there
      pub IsRun-last_removed : i ≡ n - 1 → IsRun (slice_set cs i None) 0 (n - 1)
      IsRun-last_removed e = IsRun-pop cs 0 (n - 1) i n (omega arith) (omega arith) front

      pub IsRun-swapped : i < n - 1 → IsRun swapped 0 (n - 1)
      IsRun-swapped h =
          IsRun-long swapped 0 (n - 1)
          (grind (
            arith,
            run-swapped
                (value_of (get_or cs i None) (first_filled cs n i front within)).0,
            length-take,
            length-set,
            length-run,
          )) (omega (arith, length-swapped, front.0))

  -- the first of the first n taken, and those after it moved down by one
  module _ (cs : List (Option T)) (n : ℕ) (some : 0 < n) (front : IsRun cs 0 n) where
    pub IsRun-after_first : IsRun (slice_set cs 0 None) 1 (n - 1)
    IsRun-after_first = IsRun-shift cs 0 (n - 1) 1 n refl (omega arith) front

    pub IsRun-removed_first : IsRun (moved (slice_set cs 0 None) 1 0 (n - 1)) 0 (n - 1)
    IsRun-removed_first = IsRun-moved (slice_set cs 0 None) 1 0 (n - 1) IsRun-after_first
        (omega (arith, length-set cs 0 None, front.0))

    pub run-removed_first : (x : T) → get_or cs 0 None ≡ Some x
        → x ∷ run (moved (slice_set cs 0 None) 1 0 (n - 1)) 0 (n - 1) ≡ run cs 0 n
    run-removed_first x e =
        grind (
          arith,
          run-moved (slice_set cs 0 None) 1 0 (n - 1) IsRun-after_first,
          length-set,
          front.0,
          run-shift cs 0 (n - 1) x 1 n,
        )

pub ruleset at_positions = (
  nat_tests,
  lengths,
  length-run,
  length-set,
  run-of_none,
  IsRun-rest,
  run-reserved,
  IsRun-reserved,
  first_filled,
  slice_get-run,
  length-inserted,
  run-inserted,
  IsRun-inserted,
  IsRun-after,
  length-removed,
  run-removed,
  IsRun-removed,
  IsRun-after_first,
  run-removed_first,
  IsRun-removed_first,
  run-last_removed,
  IsRun-last_removed,
  last-filled,
  length-swapped,
  run-swapped,
  IsRun-swapped,
  IsRun-set,
  run-set,
  run-at,
)
