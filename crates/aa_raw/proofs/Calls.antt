-- Lemmas on places in the form that the search applies: the left side shows every variable, at the
-- shapes that the calls of a block make. Whoever builds on a block names a ruleset in an attribute,
-- `#[tactic(auto, using(aa_raw::proofs::Calls::at_ends))]`:
--     at_ends     put, take, place, place_mut at the first places or the last, and the tests of numbers beside them
--     with_room     the constructors, the reserves and the shrinks
--     shown     slice, slice_mut, and what was written through a `&mut`
--     in_runs     move_one, move_run, move_down, transfer, drop_run, put_array, take_array, put_copies
use Rattle.aa_raw.proofs.Common.{Block, IsFilled, IsRun, List, None, Option, Reserves, Some, [], ap, arith, drop, drop-drop, drop-set-lt, get_or, length, length-append, length-drop, length-map, length-replicate, length-set, length-take, length_refill, map, moved, nat_tests, places, refl, replicate, rules, run, same_lists, slice_get, slice_get_past, slice_get_read, slice_set, somes, subst, sym, take, take-append-le, take-take, take_all, with_run, zero-add, ℕ, ◌++◌, ◌+◌, ◌-◌, ◌<◌, ◌∙◌, ◌∷◌, ◌≡◌, ◌≤◌}
use Rattle.aa_raw.proofs.Firsts.{run-at}
pub use Rattle.aa_raw.proofs.Runs.{run-none as run-of_none}
use Rattle.aa_raw.proofs.Places.{length-empty_places, length-moved, length-with_run, lengths, moved_none, moved_on_down, moved_on_up, run_before, with_none}
use Rattle.aa_raw.proofs.Runs.{IsRun-kept, IsRun-long, IsRun-moved, IsRun-nil, IsRun-part, IsRun-pop, IsRun-push, IsRun-same, IsRun-set-above, IsRun-set-below, IsRun-shift, IsRun-with, drop-with, first-filled, last-filled, length-run, run-drop, run-filled, run-moved, run-moved-below, run-pop, run-push, run-set-above, run-set-below, run-shift, run-split, run-take, run-with, run-with-above, run-with-below, run_same, somes-map}

module _ {X : Type 0} where
  -- a value written after the first n
  pub run-put : (cs : List (Option X)) (n : ℕ) (x : X) → n < length cs
      → run (slice_set cs n (Some x)) 0 (n + 1) ≡ run cs 0 n ++ x ∷ []
  run-put cs n x room = run-push cs 0 n x n (n + 1) (omega arith) refl room

  pub IsRun-put : (cs : List (Option X)) (n : ℕ) (x : X) → n < length cs → IsRun cs 0 n
      → IsRun (slice_set cs n (Some x)) 0 (n + 1)
  IsRun-put cs n x room r = IsRun-push cs 0 n x n (n + 1) (omega arith) refl room r

  -- the last of the first k taken
  pub run-take_last : (cs : List (Option X)) (k : ℕ) (x : X) → 0 < k → IsRun cs 0 k
      → get_or cs (k - 1) None ≡ Some x → run (slice_set cs (k - 1) None) 0 (k - 1) ++ x ∷ []
      ≡ run cs 0 k
  run-take_last cs k x some r e =
      sym (run-pop cs 0 (k - 1) x (k - 1) k (omega arith) (omega arith) r e)

  pub IsRun-take_last : (cs : List (Option X)) (k : ℕ) → 0 < k → IsRun cs 0 k
      → IsRun (slice_set cs (k - 1) None) 0 (k - 1)
  IsRun-take_last cs k some r = IsRun-pop cs 0 (k - 1) (k - 1) k (omega arith) (omega arith) r

  -- the first of those up to another place taken
  pub run-take_first : (cs : List (Option X)) (front back : ℕ) (x : X) → front < back
      → IsRun cs front (back - front) → get_or cs front None ≡ Some x
      → x ∷ run (slice_set cs front None) (front + 1) (back - (front + 1))
      ≡ run cs front (back - front)
  run-take_first cs front back x some r e =
      sym (run-shift cs front (back - (front + 1)) x (front + 1) (back - front) refl
      (omega arith) r e)

  pub IsRun-take_first : (cs : List (Option X)) (front back : ℕ) → front < back
      → IsRun cs front (back - front)
      → IsRun (slice_set cs front None) (front + 1) (back - (front + 1))
  IsRun-take_first cs front back some r = IsRun-shift cs front (back - (front + 1)) (front + 1)
      (back - front) refl (omega arith) r

  pub run-take_back : (cs : List (Option X)) (front back : ℕ) (x : X) → front < back
      → IsRun cs front (back - front) → get_or cs (back - 1) None ≡ Some x
      → run (slice_set cs (back - 1) None) front (back - 1 - front) ++ x ∷ []
      ≡ run cs front (back - front)
  run-take_back cs front back x some r e =
      sym (run-pop cs front (back - 1 - front) x (back - 1) (back - front) (omega arith)
      (omega arith) r e)

  pub IsRun-take_back : (cs : List (Option X)) (front back : ℕ) → front < back
      → IsRun cs front (back - front)
      → IsRun (slice_set cs (back - 1) None) front (back - 1 - front)
  IsRun-take_back cs front back some r = IsRun-pop cs front (back - 1 - front) (back - 1)
      (back - front) (omega arith) (omega arith) r

  pub filled-back : (cs : List (Option X)) (front back : ℕ) → front < back
      → IsRun cs front (back - front) → IsFilled cs (back - 1)
  filled-back cs front back some r = last-filled cs front (back - 1 - front) (back - 1)
      (back - front) (omega arith) (omega arith) r

  -- a value read among the first n
  pub slice_get-run : (cs : List (Option X)) (n i : ℕ) (x : X) → IsRun cs 0 n → i < n
      → get_or cs i None ≡ Some x → slice_get (run cs 0 n) i ≡ Some x
  slice_get-run cs n i x r h e = slice_get_read (run cs 0 n) n i x (sym (length-run cs 0 n r)) h
      (run-at cs n i x r h e)

  -- the first values of a run, and the last
  pub IsRun-last : (cs : List (Option X)) (k by : ℕ) → by ≤ k → IsRun cs 0 k → IsRun cs (k - by) by
  IsRun-last cs k by h r = IsRun-part cs 0 k (k - by) by (omega arith) (omega arith) r

  pub IsRun-rest : (cs : List (Option X)) (from k : ℕ) → from ≤ k → IsRun cs 0 k
      → IsRun cs from (k - from)
  IsRun-rest cs from k h r = IsRun-part cs 0 k from (k - from) (omega arith) (omega arith) r

  pub IsRun-first : (cs : List (Option X)) (i by : ℕ) → by ≤ length cs - i
      → IsRun cs i (length cs - i) → IsRun cs i by
  IsRun-first cs i by h r = IsRun-part cs i (length cs - i) i by (omega arith) (omega arith) r

  -- those that a block keeps which reserved capacity
  pub run-kept : (cs ds : List (Option X)) (n : ℕ) → take n ds ≡ take n cs → run ds 0 n ≡ run cs 0 n
  run-kept cs ds n e = run_same ds cs 0 n e

  -- the first n of two joined lists, and of a beginning
  pub run-append : (cs ds : List (Option X)) (n : ℕ) → n ≤ length cs → run (cs ++ ds) 0 n
      ≡ run cs 0 n
  run-append cs ds n h = run-kept cs (cs ++ ds) n (take-append-le n cs ds h)

  pub IsRun-append : (cs ds : List (Option X)) (n : ℕ) → IsRun cs 0 n → IsRun (cs ++ ds) 0 n
  IsRun-append cs ds n r = let h : n ≤ length cs = omega (arith, r.0) in
      IsRun-kept cs (cs ++ ds) n (take-append-le n cs ds h) (omega (arith, length-append cs ds)) r

  pub run-beginning : (cs : List (Option X)) (k n : ℕ) → n ≤ k → run (take k cs) 0 n ≡ run cs 0 n
  run-beginning cs k n h = run-kept cs (take k cs) n (take-take n k cs h)

  pub IsRun-beginning : (cs : List (Option X)) (k n : ℕ) → n ≤ k → IsRun cs 0 n
      → IsRun (take k cs) 0 n
  IsRun-beginning cs k n h r = run_before cs k 0 n (omega arith) r

  -- no value
  pub IsRun-of_none : (cs : List (Option X)) (from n : ℕ) → n ≡ 0 → from ≤ length cs
      → IsRun cs from n
  IsRun-of_none cs from n e h = subst (λ k. IsRun cs from k) (sym e) (IsRun-nil cs from h)

  -- what a slice shows
  pub run-shown : (cs : List (Option X)) (from n : ℕ) → run cs from n
      ≡ somes (take n (drop from cs))
  unfolding run
  run-shown cs from n = refl

  -- values after the first n, all at once
  pub run-put_all : (cs : List (Option X)) (n k : ℕ) (xs : List X) → n + k ≤ length cs → length xs
      ≡ k → run (with_run cs n k (map Some xs)) 0 (n + k) ≡ run cs 0 n ++ xs
  run-put_all cs n k xs fits long =
      grind (
        arith,
        run-split (with_run cs n k (map Some xs)) 0 n n k (n + k),
        run-with-below,
        run-with,
      )

  pub IsRun-put_all : (cs : List (Option X)) (n k : ℕ) (xs : List X) → n + k ≤ length cs → length xs
      ≡ k → IsRun cs 0 n → IsRun (with_run cs n k (map Some xs)) 0 (n + k)
  IsRun-put_all cs n k xs fits long r = IsRun-long (with_run cs n k (map Some xs)) 0 (n + k)
      (grind (arith, run-put_all, length-append, length-run))
      (grind (arith, length-with_run, length-map))

  -- and those of another block
  pub run-transferred : (cs ds : List (Option X)) (n from k : ℕ) → n + k ≤ length cs
      → IsRun ds from k → run (with_run cs n k (take k (drop from ds))) 0 (n + k) ≡ run cs 0 n
      ++ run ds from k
  run-transferred cs ds n from k fits r = ap (λ ys. run (with_run cs n k ys) 0 (n + k))
      (run-filled ds from k r) ∙ run-put_all cs n k (run ds from k) fits (length-run ds from k r)

  pub IsRun-transferred : (cs ds : List (Option X)) (n from k : ℕ) → n + k ≤ length cs
      → IsRun ds from k → IsRun cs 0 n → IsRun (with_run cs n k (take k (drop from ds))) 0 (n + k)
  IsRun-transferred cs ds n from k fits r front = subst (λ ys. IsRun (with_run cs n k ys) 0 (n + k))
      (sym (run-filled ds from k r))
      (IsRun-put_all cs n k (run ds from k) fits (length-run ds from k r) front)

  pub run-transferred_there : (cs ds : List (Option X)) (to from k : ℕ) → to + k ≤ length cs
      → IsRun ds from k → run (with_run cs to k (take k (drop from ds))) to k ≡ run ds from k
  run-transferred_there cs ds to from k fits r =
      ap (λ ys. run (with_run cs to k ys) to k) (run-filled ds from k r)
      ∙ run-with cs to k (run ds from k) fits (length-run ds from k r)

  pub IsRun-transferred_there : (cs ds : List (Option X)) (to from k : ℕ) → to + k ≤ length cs
      → IsRun ds from k → IsRun (with_run cs to k (take k (drop from ds))) to k
  IsRun-transferred_there cs ds to from k fits r = subst (λ ys. IsRun (with_run cs to k ys) to k)
      (sym (run-filled ds from k r))
      (IsRun-with cs to k (run ds from k) fits (length-run ds from k r))

  -- other places leave a run before them unchanged, and one after them
  pub IsRun-with-below : (cs : List (Option X)) (from n : ℕ) (ys : List (Option X)) (a k : ℕ)
      → from + n ≤ length cs → length ys ≡ n → a + k ≤ from → IsRun cs a k
      → IsRun (with_run cs from n ys) a k
  IsRun-with-below cs from n ys a k fits long h r =
      IsRun-same cs (with_run cs from n ys) a k (length-with_run cs from n ys fits long)
      (run-with-below cs from n ys a k fits h) r

  pub IsRun-with-above : (cs : List (Option X)) (from n : ℕ) (ys : List (Option X)) (a k : ℕ)
      → from + n ≤ length cs → length ys ≡ n → from + n ≤ a → IsRun cs a k
      → IsRun (with_run cs from n ys) a k
  IsRun-with-above cs from n ys a k fits long h r =
      IsRun-same cs (with_run cs from n ys) a k (length-with_run cs from n ys fits long)
      (run-with-above cs from n ys a k fits long h) r

  -- the last of the first n values dropped
  pub run-dropped : (cs : List (Option X)) (m n : ℕ) → m ≤ n → IsRun cs 0 n
      → run (with_run cs m (n - m) (replicate (n - m) None)) 0 m ≡ take m (run cs 0 n)
  run-dropped cs m n h r = run-with-below cs m (n - m) (replicate (n - m) None) 0 m
      (omega (arith, r.0)) (omega arith) ∙ sym (run-take cs 0 m n h r)

  pub IsRun-dropped : (cs : List (Option X)) (m n : ℕ) → m ≤ n → IsRun cs 0 n
      → IsRun (with_run cs m (n - m) (replicate (n - m) None)) 0 m
  IsRun-dropped cs m n h r = IsRun-same cs (with_run cs m (n - m) (replicate (n - m) None)) 0 m
      (grind (arith, r.0, length-with_run, length-replicate)) (grind (arith, r.0, run-with-below))
      (IsRun-part cs 0 n 0 m (omega arith) (omega arith) r)

  -- a move leaves a run unchanged that is before both runs, after both, or between them
  pub run-moved-above : (cs : List (Option X)) (from to n a k : ℕ) → from + n ≤ length cs
      → to + n ≤ length cs → from + n ≤ a → to + n ≤ a → run (moved cs from to n) a k ≡ run cs a k
  unfolding moved with_run
  run-moved-above cs from to n a k f t b c =
      run_same (moved cs from to n) cs a k
      (same_lists _ _ (search (rules, places)) (λ j d h. grind (arith, places)))

  pub IsRun-moved-below : (cs : List (Option X)) (from to n a k : ℕ) → from + n ≤ length cs
      → to + n ≤ length cs → a + k ≤ from → a + k ≤ to → IsRun cs a k
      → IsRun (moved cs from to n) a k
  IsRun-moved-below cs from to n a k f t b c r =
      IsRun-same cs (moved cs from to n) a k (length-moved cs from to n f t)
      (run-moved-below cs from to n a k f t b c) r

  pub IsRun-moved-above : (cs : List (Option X)) (from to n a k : ℕ) → from + n ≤ length cs
      → to + n ≤ length cs → from + n ≤ a → to + n ≤ a → IsRun cs a k
      → IsRun (moved cs from to n) a k
  IsRun-moved-above cs from to n a k f t b c r =
      IsRun-same cs (moved cs from to n) a k (length-moved cs from to n f t)
      (run-moved-above cs from to n a k f t b c) r

  -- the last `by` values of the first k moved to a place at or above them, and the first `by` after
  -- k moved down to them
  pub run-shifted_down : (cs : List (Option X)) (k from by : ℕ) → k ≤ from → IsRun cs 0 k
      → IsRun cs from by → run (moved cs from k by) 0 (k + by) ≡ run cs 0 k ++ run cs from by
  run-shifted_down cs k from by h r s =
      grind (
        arith,
        s.0,
        run-split (moved cs from k by) 0 k k by (k + by),
        run-moved-below,
        run-moved,
      )

  pub IsRun-shifted_down : (cs : List (Option X)) (k from by : ℕ) → k ≤ from → IsRun cs 0 k
      → IsRun cs from by → IsRun (moved cs from k by) 0 (k + by)
  IsRun-shifted_down cs k from by h r s =
      IsRun-long (moved cs from k by) 0 (k + by)
      (grind (arith, run-shifted_down, length-append, length-run))
      (grind (arith, s.0, length-moved))

  pub run-shifted_up-below : (cs : List (Option X)) (k to by : ℕ) → by ≤ k → k - by ≤ to
      → to + by ≤ length cs → IsRun cs 0 k → run (moved cs (k - by) to by) 0 (k - by)
      ≡ take (k - by) (run cs 0 k)
  run-shifted_up-below cs k to by h l t r = run-moved-below cs (k - by) to by 0 (k - by)
      (omega (arith, r.0)) t (omega arith) (omega arith)
      ∙ sym (run-take cs 0 (k - by) k (omega arith) r)

  pub run-shifted_up : (cs : List (Option X)) (k to by : ℕ) → by ≤ k → to + by ≤ length cs
      → IsRun cs 0 k → run (moved cs (k - by) to by) to by ≡ drop (k - by) (run cs 0 k)
  run-shifted_up cs k to by h t r = run-moved cs (k - by) to by (IsRun-last cs k by h r) t
      ∙ sym (run-drop cs 0 (k - by) (k - by) k by (omega arith) (omega arith) r)

  pub IsRun-shifted_up-below : (cs : List (Option X)) (k to by : ℕ) → by ≤ k → k - by ≤ to
      → to + by ≤ length cs → IsRun cs 0 k → IsRun (moved cs (k - by) to by) 0 (k - by)
  IsRun-shifted_up-below cs k to by h l t r = IsRun-moved-below cs (k - by) to by 0 (k - by)
      (omega (arith, r.0)) t (omega arith) (omega arith)
      (IsRun-part cs 0 k 0 (k - by) (omega arith) (omega arith) r)

  pub IsRun-shifted_up : (cs : List (Option X)) (k to by : ℕ) → by ≤ k → to + by ≤ length cs
      → IsRun cs 0 k → IsRun (moved cs (k - by) to by) to by
  IsRun-shifted_up cs k to by h t r = IsRun-moved cs (k - by) to by (IsRun-last cs k by h r) t

  -- what is after the first places, when calls write and take at them
  pub drop-put_next : (cs : List (Option X)) (n : ℕ) (c : Option X)
      → drop (n + 1) (slice_set cs n c) ≡ drop 1 (drop n cs)
  drop-put_next cs n c = drop-set-lt (n + 1) cs n c (omega arith) ∙ sym (drop-drop 1 n cs)

  pub drop-with-first : (cs : List (Option X)) (n : ℕ) (ys : List (Option X)) → n ≤ length cs
      → length ys ≡ n → drop n (with_run cs 0 n ys) ≡ drop n cs
  drop-with-first cs n ys h e = grind (arith, drop-with cs 0 n ys)

  -- what the loops over arrays find: the values that are still to be moved are where they were
  pub shifted_up_next : (cs : List (Option X)) (by n left from m : ℕ) → IsRun cs 0 n
      → by + n ≤ length cs → left ≤ n → from + m ≤ left
      → IsRun (moved cs left (by + left) (n - left)) from m
  shifted_up_next cs by n left from m r room h l =
      IsRun-moved-below cs left (by + left) (n - left) from m (omega (arith, room)) (omega arith) l
      (omega arith) (IsRun-part cs 0 n from m (omega arith) (omega arith) r)

  pub shifted_up_first : (cs : List (Option X)) (by n left : ℕ) → IsRun cs 0 n → by + n ≤ length cs
      → left ≤ n → IsRun (moved cs left (by + left) (n - left)) 0 left
  shifted_up_first cs by n left r room h = shifted_up_next cs by n left 0 left r room h
      (omega arith)

  -- and what they do
  pub left_more : (qs : List (Option X)) (from k m : ℕ) → from + (k + m) ≤ length qs
      → with_run (with_run qs from k (replicate k None)) (from + k) m (replicate m None)
      ≡ with_run qs from (k + m) (replicate (k + m) None)
  unfolding with_run
  left_more qs from k m h = same_lists _ _ (search (rules, places)) (λ j d h. grind (arith, places))

  pub put_more : (cs qs : List (Option X)) (to from k m : ℕ) → to + (k + m) ≤ length cs
      → from + (k + m) ≤ length qs
      → with_run (with_run cs to k (take k (drop from qs))) (to + k) m
      (take m (drop (from + k) (with_run qs from k (replicate k None))))
      ≡ with_run cs to (k + m) (take (k + m) (drop from qs))
  unfolding with_run
  put_more cs qs to from k m room fits =
      same_lists _ _ (search (rules, places)) (λ j d h. grind (arith, places))

  -- first
  pub shifted_up_none : (cs : List (Option X)) (by n : ℕ) → by + n ≤ length cs
      → moved cs n (by + n) (n - n) ≡ cs
  shifted_up_none cs by n room = let none : n - n ≡ 0 = omega arith in
      ap (moved cs n (by + n)) none ∙ moved_none cs n (by + n) (omega arith) (omega arith)

  pub ruleset shifted_down_in_arrays =
      (lengths, length-drop, IsRun-moved-above, IsRun-part, moved_on_down, moved_none)

  pub ruleset shifted_up_in_arrays =
      (lengths, shifted_up_next, shifted_up_first, moved_on_up, shifted_up_none)

  pub ruleset put_in_arrays =
      (lengths, with_none, IsRun-with-above, IsRun-part, left_more, put_more)

module _ {X A : Type 0} where
  pub run-reserved : (size : ℕ) (old : Block X A) (n k requested : ℕ) (new : Block X A)
      → Reserves size old n k requested new → run new.places 0 n ≡ run old.places 0 n
  run-reserved size old n k requested new made = run-kept old.places new.places n made.kept

  pub IsRun-reserved : (size : ℕ) (old : Block X A) (n k requested : ℕ) (new : Block X A)
      → Reserves size old n k requested new → IsRun old.places 0 n → IsRun new.places 0 n
  IsRun-reserved size old n k requested new made r =
      let m : n + k ≤ length new.places = made.room in
      IsRun-kept old.places new.places n made.kept (omega arith) r

pub ruleset at_ends = (
  nat_tests,
  run-put,
  IsRun-put,
  run-take_last,
  IsRun-take_last,
  run-take_first,
  IsRun-take_first,
  run-take_back,
  IsRun-take_back,
  run-set-below,
  IsRun-set-below,
  run-set-above,
  IsRun-set-above,
  slice_get-run,
  slice_get_past,
  length-run,
  length-set,
  length-replicate,
  length-empty_places,
  run-of_none,
  IsRun-last,
  IsRun-first,
  first-filled,
  filled-back,
  drop-put_next,
)

pub ruleset with_room = (
  nat_tests,
  run-reserved,
  IsRun-reserved,
  run-kept,
  run-append,
  IsRun-append,
  run-beginning,
  IsRun-beginning,
  run-of_none,
  length-run,
  length-append,
  length-take,
  length-drop,
  length-replicate,
  length-empty_places,
)

pub ruleset shown = (
  run-shown,
  somes-map,
  length-run,
  length_refill,
  length-map,
  run-with,
  IsRun-with,
  drop-with-first,
  length-with_run,
)

pub ruleset in_runs = (
  nat_tests,
  lengths,
  length-run,
  length_refill,
  take_all,
  run-take,
  run-dropped,
  IsRun-dropped,
  with_none,
  moved_none,
  IsRun-last,
  IsRun-rest,
  IsRun-first,
  run-put_all,
  IsRun-put_all,
  run-transferred,
  IsRun-transferred,
  run-transferred_there,
  IsRun-transferred_there,
  run-with-below,
  IsRun-with-below,
  run-with-above,
  IsRun-with-above,
  run-moved,
  IsRun-moved,
  run-moved-below,
  IsRun-moved-below,
  run-moved-above,
  IsRun-moved-above,
  run-shifted_down,
  IsRun-shifted_down,
  run-shifted_up,
  run-shifted_up-below,
  IsRun-shifted_up,
  IsRun-shifted_up-below,
  run-of_none,
)
