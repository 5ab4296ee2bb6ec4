-- Lemmas on the values in a run of places.
use Rattle.aa_raw.proofs.Common.{Bool, IsFilled, IsRun, List, None, Option, Some, [], add-zero, ap, arith, cases_lt, drop, drop-drop, drop-set-lt, drop_at, drop_more, filter_map-append, get_or, get_or-drop, get_or-set_same, get_or-take, is_some, length, length-append, length-map, length-set, list_all, map, moved, places, refl, rules, run, same_lists, slice_set, somes, subst, suc, sym, take, take-add, take_at, true, with_run, ℕ, ◌&&◌, ◌++◌, ◌+◌, ◌-◌, ◌<◌, ◌∙◌, ◌∷◌, ◌≡◌, ◌≤◌}
use Rattle.aa_raw.proofs.Places.{all-map, length-moved, length-with_run, run_filled}
pub use Rattle.aa_raw.proofs.Places.{length-cut as cut-long}

module _ {X : Type 0} where
  pub somes-map : (xs : List X) → somes (map Some xs) ≡ xs
  somes-map [] = refl
  somes-map (x ∷ xs) = ap (λ ys. x ∷ ys) (somes-map xs)

  somes-le : (cs : List (Option X)) → length (somes cs) ≤ length cs
  somes-le [] = omega arith
  somes-le (None ∷ cs) = omega (arith, somes-le cs)
  somes-le (Some x ∷ cs) = omega (arith, somes-le cs)

  -- places that are all filled are as many as their values
  long-all : (cs : List (Option X)) → length (somes cs) ≡ length cs → list_all is_some cs ≡ true
  long-all [] h = refl
  long-all (None ∷ cs) h = absurd (omega (arith, somes-le cs, h))
  long-all (Some x ∷ cs) h = let e : length (somes cs) ≡ length cs = omega (arith, h) in
      long-all cs e

  -- as many values as places
  pub length-run : (cs : List (Option X)) (from n : ℕ) → IsRun cs from n → length (run cs from n)
      ≡ n
  unfolding run
  length-run cs from n r = let there = take n (drop from cs) in
      sym (ap length (all-map there r.1) ∙ length-map (somes there) (λ (x : X). Some x))
      ∙ cut-long cs from n r.0

  -- and where there are as many, each place is filled
  pub IsRun-long : (cs : List (Option X)) (from n : ℕ) → length (run cs from n) ≡ n
      → from + n ≤ length cs → IsRun cs from n
  unfolding run
  IsRun-long cs from n e h = (h, long-all (take n (drop from cs)) (e ∙ sym (cut-long cs from n h)))

  -- a run of places as the values that they hold
  pub run-filled : (cs : List (Option X)) (from n : ℕ) → IsRun cs from n → take n (drop from cs)
      ≡ map Some (run cs from n)
  unfolding run
  run-filled cs from n r = all-map (take n (drop from cs)) r.1

  -- the values that a slice of a run shows
  pub run-is : (cs : List (Option X)) (from n : ℕ) (xs : List X) → take n (drop from cs)
      ≡ map Some xs → run cs from n ≡ xs
  unfolding run
  run-is cs from n xs e = ap somes e ∙ somes-map xs

  pub run_same : (cs ds : List (Option X)) (from n : ℕ) → take n (drop from cs)
      ≡ take n (drop from ds) → run cs from n ≡ run ds from n
  unfolding run
  run_same cs ds from n e = ap somes e

  pub run-zero : (cs : List (Option X)) (from : ℕ) → run cs from 0 ≡ []
  unfolding run
  run-zero cs from = refl

  -- the value in one place
  pub run-one : (cs : List (Option X)) (i : ℕ) (x : X) → i < length cs → get_or cs i None ≡ Some x
      → run cs i 1 ≡ x ∷ []
  unfolding run
  run-one cs i x h e = rw (drop_more cs i None h, e) refl

  -- a run is its beginning and the rest
  pub run-split : (cs : List (Option X)) (from a m n k : ℕ) → from + m ≡ a → m + n ≡ k
      → run cs from k ≡ run cs from m ++ run cs a n
  unfolding run
  run-split cs from a m n k e f =
      rw (← e, ← f) (ap somes (take-add m n (drop from cs))
      ∙ filter_map-append (λ c. c) (take m (drop from cs)) (take n (drop m (drop from cs)))
      ∙ ap (λ ds. somes (take m (drop from cs)) ++ somes (take n ds)) (drop-drop m from cs))

  -- what holds of each place holds of all
  pub all-each : (p : Option X → Bool) (cs : List (Option X))
      → ((i : ℕ) → i < length cs → p (get_or cs i None) ≡ true) → list_all p cs ≡ true
  all-each p [] f = refl
  all-each p (c ∷ cs) f =
      λ i. f 0 (omega arith) i && all-each p cs (λ j h. f (suc j) (omega arith)) i

  -- places that are all filled are a run, and so are the parts of a run, and two runs in line
  pub filled-run : (cs : List (Option X)) (from n : ℕ) → from + n ≤ length cs
      → ((i : ℕ) → i < n → IsFilled cs (from + i)) → IsRun cs from n
  filled-run cs from n h f = (
    h,
    all-each is_some (take n (drop from cs))
        (λ i l. grind (arith, cut-long cs from n h, get_or-take, get_or-drop, f i)),
  )

  pub IsRun-part : (cs : List (Option X)) (from n a k : ℕ) → from ≤ a → a + k ≤ from + n
      → IsRun cs from n → IsRun cs a k
  IsRun-part cs from n a k h l r =
      filled-run cs a k (omega (arith, r.0))
      (λ i b. grind (arith, run_filled cs from n (a - from + i) r))

  pub IsRun-joined : (cs : List (Option X)) (from a m n k : ℕ) → from + m ≡ a → m + n ≡ k
      → IsRun cs from m → IsRun cs a n → IsRun cs from k
  IsRun-joined cs from a m n k e f r s =
      filled-run cs from k (omega (arith, s.0))
      (λ i h. grind (arith, cases_lt i m, run_filled cs from m i r, run_filled cs a n (i - m) s))

  pub IsRun-nil : (cs : List (Option X)) (from : ℕ) → from ≤ length cs → IsRun cs from 0
  IsRun-nil cs from h = IsRun-long cs from 0 (ap length (run-zero cs from)) (omega (arith, h))

  -- runs with the same values are runs alike
  pub IsRun-same : (cs ds : List (Option X)) (from n : ℕ) → length ds ≡ length cs → run ds from n
      ≡ run cs from n → IsRun cs from n → IsRun ds from n
  IsRun-same cs ds from n e f r = IsRun-long ds from n (ap length f ∙ length-run cs from n r)
      (omega (arith, r.0, e))

  -- a write elsewhere leaves a run
  pub run-set-above : (cs : List (Option X)) (from n i : ℕ) (c : Option X) → i < length cs
      → from + n ≤ i → run (slice_set cs i c) from n ≡ run cs from n
  run-set-above cs from n i c l h =
      run_same (slice_set cs i c) cs from n
      (same_lists _ _ (grind (arith, places, length-set))
      (λ j d t. grind (arith, places, length-set)))

  pub run-set-below : (cs : List (Option X)) (from n i : ℕ) (c : Option X) → i < from
      → run (slice_set cs i c) from n ≡ run cs from n
  run-set-below cs from n i c h =
      run_same (slice_set cs i c) cs from n (ap (take n) (drop-set-lt from cs i c h))

  pub run-set-same : (cs : List (Option X)) (i : ℕ) (x : X) → i < length cs
      → run (slice_set cs i (Some x)) i 1 ≡ x ∷ []
  run-set-same cs i x h =
      run-one (slice_set cs i (Some x)) i x (omega (arith, length-set cs i (Some x)))
      (get_or-set_same cs i (Some x) None h)

  pub IsRun-set-above : (cs : List (Option X)) (from n i : ℕ) (c : Option X) → i < length cs
      → from + n ≤ i → IsRun cs from n → IsRun (slice_set cs i c) from n
  IsRun-set-above cs from n i c l h r = IsRun-same cs (slice_set cs i c) from n (length-set cs i c)
      (run-set-above cs from n i c l h) r

  pub IsRun-set-below : (cs : List (Option X)) (from n i : ℕ) (c : Option X) → i < from
      → IsRun cs from n → IsRun (slice_set cs i c) from n
  IsRun-set-below cs from n i c h r = IsRun-same cs (slice_set cs i c) from n (length-set cs i c)
      (run-set-below cs from n i c h) r

  -- a value written after a run
  pub run-push : (cs : List (Option X)) (from n : ℕ) (x : X) (i k : ℕ) → from + n ≡ i → n + 1 ≡ k
      → i < length cs → run (slice_set cs i (Some x)) from k ≡ run cs from n ++ x ∷ []
  run-push cs from n x i k e f l =
      grind (
        arith,
        run-split (slice_set cs i (Some x)) from i n 1 k e f,
        run-set-above,
        run-set-same,
      )

  pub IsRun-push : (cs : List (Option X)) (from n : ℕ) (x : X) (i k : ℕ) → from + n ≡ i → n + 1 ≡ k
      → i < length cs → IsRun cs from n → IsRun (slice_set cs i (Some x)) from k
  IsRun-push cs from n x i k e f l r =
      IsRun-long (slice_set cs i (Some x)) from k
      (grind (arith, run-push cs from n x i k e f l, length-append, length-run cs from n r))
      (omega (arith, length-set cs i (Some x)))

  -- the last of a run taken
  pub run-pop : (cs : List (Option X)) (from n : ℕ) (x : X) (i k : ℕ) → from + n ≡ i → n + 1 ≡ k
      → IsRun cs from k → get_or cs i None ≡ Some x → run cs from k
      ≡ run (slice_set cs i None) from n ++ x ∷ []
  run-pop cs from n x i k e f r g =
      grind (arith, run-split cs from i n 1 k e f, run-set-above, run-one)

  pub IsRun-pop : (cs : List (Option X)) (from n i k : ℕ) → from + n ≡ i → n + 1 ≡ k
      → IsRun cs from k → IsRun (slice_set cs i None) from n
  IsRun-pop cs from n i k e f r = IsRun-set-above cs from n i None (omega (arith, r.0))
      (omega arith) (IsRun-part cs from k from n (omega arith) (omega arith) r)

  pub last-filled : (cs : List (Option X)) (from n i k : ℕ) → from + n ≡ i → n + 1 ≡ k
      → IsRun cs from k → IsFilled cs i
  last-filled cs from n i k e f r = let P : ℕ → Type 0 = λ j. IsFilled cs j in
      subst P e (run_filled cs from k n r (omega arith))

  -- the first of a run taken
  pub run-shift : (cs : List (Option X)) (from n : ℕ) (x : X) (i k : ℕ) → from + 1 ≡ i → n + 1 ≡ k
      → IsRun cs from k → get_or cs from None ≡ Some x → run cs from k
      ≡ x ∷ run (slice_set cs from None) i n
  run-shift cs from n x i k e f r g =
      grind (arith, run-split cs from i 1 n k e, run-set-below, run-one)

  pub IsRun-shift : (cs : List (Option X)) (from n i k : ℕ) → from + 1 ≡ i → n + 1 ≡ k
      → IsRun cs from k → IsRun (slice_set cs from None) i n
  IsRun-shift cs from n i k e f r = IsRun-set-below cs i n from None (omega arith)
      (IsRun-part cs from k i n (omega arith) (omega arith) r)

  -- a run of none
  pub run-none : (cs : List (Option X)) (from n : ℕ) → n ≡ 0 → run cs from n ≡ []
  run-none cs from n e = ap (run cs from) e ∙ run-zero cs from

  -- other values in the places of a run
  pub run-with : (cs : List (Option X)) (from n : ℕ) (xs : List X) → from + n ≤ length cs
      → length xs ≡ n → run (with_run cs from n (map Some xs)) from n ≡ xs
  unfolding with_run
  run-with cs from n xs h e = run-is (with_run cs from n (map Some xs)) from n xs
      (same_lists _ _ (grind (arith, places, length-map))
      (λ j d t. grind (arith, places, length-map)))

  pub IsRun-with : (cs : List (Option X)) (from n : ℕ) (xs : List X) → from + n ≤ length cs
      → length xs ≡ n → IsRun (with_run cs from n (map Some xs)) from n
  IsRun-with cs from n xs h e = IsRun-long (with_run cs from n (map Some xs)) from n
      (grind (arith, run-with)) (grind (arith, length-with_run, length-map))

  pub drop-with : (cs : List (Option X)) (from n : ℕ) (ys : List (Option X)) → from + n ≤ length cs
      → length ys ≡ n → drop (from + n) (with_run cs from n ys) ≡ drop (from + n) cs
  unfolding with_run
  drop-with cs from n ys h e =
      same_lists _ _ (grind (arith, places)) (λ j d t. grind (arith, places))

  -- the first place of a run is filled
  pub first-filled : (cs : List (Option X)) (from n : ℕ) → IsRun cs from n → 0 < n
      → IsFilled cs from
  first-filled cs from n r h = let P : ℕ → Type 0 = λ i. IsFilled cs i in
      subst P (add-zero from) (run_filled cs from n 0 r h)

  -- the first places of a list that begins as another does
  pub IsRun-kept : (cs ds : List (Option X)) (n : ℕ) → take n ds ≡ take n cs → n ≤ length ds
      → IsRun cs 0 n → IsRun ds 0 n
  IsRun-kept cs ds n e h r = (omega (arith, h), ap (list_all is_some) e ∙ r.1)

  -- a run that was moved holds the same values where it is now
  pub run-moved : (cs : List (Option X)) (from to n : ℕ) → IsRun cs from n → to + n ≤ length cs
      → run (moved cs from to n) to n ≡ run cs from n
  unfolding run moved with_run
  run-moved cs from to n r room =
      let fits = r.0 in
      let same : take n (drop to (moved cs from to n)) ≡ take n (drop from cs) =
      same_lists _ _ (search (rules, places)) (λ j d h. grind (arith, places)) in ap somes same

  pub IsRun-moved : (cs : List (Option X)) (from to n : ℕ) → IsRun cs from n → to + n ≤ length cs
      → IsRun (moved cs from to n) to n
  IsRun-moved cs from to n r h =
      IsRun-long (moved cs from to n) to n
      (ap length (run-moved cs from to n r h) ∙ length-run cs from n r)
      (omega (arith, length-moved cs from to n r.0 h))

  -- the first and the last elements of a run
  pub run-take : (cs : List (Option X)) (from m n : ℕ) → m ≤ n → IsRun cs from n
      → take m (run cs from n) ≡ run cs from m
  run-take cs from m n h r =
      grind (arith, run-split cs from (from + m) m (n - m) n, take_at, length-run, IsRun-part)

  pub run-drop : (cs : List (Option X)) (from a m n k : ℕ) → from + m ≡ a → m + k ≡ n
      → IsRun cs from n → drop m (run cs from n) ≡ run cs a k
  run-drop cs from a m n k e f r =
      grind (arith, run-split cs from a m k n e f, drop_at, length-run, IsRun-part)

  -- other places leave a run before them unchanged, and one after them
  pub run-with-below : (cs : List (Option X)) (from n : ℕ) (ys : List (Option X)) (a k : ℕ)
      → from + n ≤ length cs → a + k ≤ from → run (with_run cs from n ys) a k ≡ run cs a k
  unfolding with_run
  run-with-below cs from n ys a k h l =
      run_same (with_run cs from n ys) cs a k
      (same_lists _ _ (grind (arith, places)) (λ j d t. grind (arith, places)))

  pub run-with-above : (cs : List (Option X)) (from n : ℕ) (ys : List (Option X)) (a k : ℕ)
      → from + n ≤ length cs → length ys ≡ n → from + n ≤ a → run (with_run cs from n ys) a k
      ≡ run cs a k
  unfolding with_run
  run-with-above cs from n ys a k fits e l =
      run_same (with_run cs from n ys) cs a k
      (same_lists _ _ (search (rules, places)) (λ j d t. grind (arith, places)))

  -- a run that was moved leaves one that lies before it, and before where it is now
  pub run-moved-below : (cs : List (Option X)) (from to n a k : ℕ) → from + n ≤ length cs
      → to + n ≤ length cs → a + k ≤ from → a + k ≤ to → run (moved cs from to n) a k ≡ run cs a k
  unfolding moved with_run
  run-moved-below cs from to n a k f t b c =
      run_same (moved cs from to n) cs a k
      (same_lists _ _ (search (rules, places)) (λ j d h. grind (arith, places)))
