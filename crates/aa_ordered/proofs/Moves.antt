-- Values that move within a leaf, and from leaf to leaf.
use Rattle.std.proofs.Common.{◌≡◌, ◌≢◌, ◌⊎◌, ◌+◌, ◌-◌, ◌*◌, ◌≤◌, ◌<◌, ◌++◌, ℕ, List, ◌∷◌, Option, Some, None, inl, inr, refl, arith, rules, length, take, drop, get_or, set, slice_get, ap, sym, ◌∙◌, length-append, length-drop, length-set, length-take}
use Rattle.std.proofs.lemmas.Bool.{cases_lt}
use Rattle.std.proofs.lemmas.List.{places, same_lists}
use Rattle.aa_raw.specs.Places.{IsFilled, IsRun}
unfoldable use Rattle.aa_raw.specs.Places.{moved, run, with_run}
use Rattle.aa_raw.proofs.Places.{length-moved, run_filled}
use Rattle.aa_raw.proofs.Runs.{length-run, run_same, run-split, run-take, run-drop, run-moved, run-moved-below, run-set-above, run-set-below, run-set-same, IsRun-long, IsRun-part, IsRun-same, IsRun-set-below}
use Rattle.aa_raw.proofs.BothEnds.{slice_get-run_from}
use Rattle.aa_raw.proofs.Calls.{run-moved-above}
use Rattle.aa_ordered.specs.Arena.{Keeps}

-- the places of two leaves
pub leaves-apart : (leaf n a low high : ℕ) → leaf ≢ a → n ≤ 64 → a * 64 ≤ low → high ≤ (a + 1) * 64 → (leaf * 64 + n ≤ low) ⊎ (high ≤ leaf * 64)
leaves-apart leaf n a low high ne le l h = elim (cases_lt leaf a) [
  | inl b ↦ inl (omega arith)
  | inr b ↦ inr (omega arith)
]

module _ {T : Type 0} where
  -- a run that is apart from where values move from and to
  module _ (cs : List (Option T)) (from to n a k : ℕ) (fits : from + n ≤ length cs) (room : to + n ≤ length cs) where
    between : a + k ≤ from → to + n ≤ a → run (moved cs from to n) a k ≡ run cs a k
    unfolding moved with_run
    between b c = run_same (moved cs from to n) cs a k (same_lists _ _ (search (rules, places)) (λ j d h. grind (arith, places)))

    between' : from + n ≤ a → a + k ≤ to → run (moved cs from to n) a k ≡ run cs a k
    unfolding moved with_run
    between' b c = run_same (moved cs from to n) cs a k (same_lists _ _ (search (rules, places)) (λ j d h. grind (arith, places)))

    pub run-moved-off : (a + k ≤ from) ⊎ (from + n ≤ a) → (a + k ≤ to) ⊎ (to + n ≤ a) → run (moved cs from to n) a k ≡ run cs a k
    run-moved-off (inl f) (inl t) = run-moved-below cs from to n a k fits room f t
    run-moved-off (inl f) (inr t) = between f t
    run-moved-off (inr f) (inl t) = between' f t
    run-moved-off (inr f) (inr t) = run-moved-above cs from to n a k fits room f t

  module _ (cs : List (Option T)) (leaf len at : ℕ) (room : (leaf + 1) * 64 ≤ length cs) (filled : IsRun cs (leaf * 64) len) where
    abbrev from : ℕ
    from = leaf * 64

    -- a value inserted
    abbrev shifted : List (Option T)
    shifted = moved cs (from + at) (from + at + 1) (len - at)

    pub tail : at ≤ len → IsRun cs (from + at) (len - at)
    tail within = IsRun-part cs from len (from + at) (len - at) (omega arith) (omega arith) filled

    pub long-shifted : at ≤ len → len < 64 → length shifted ≡ length cs
    long-shifted within less = length-moved cs (from + at) (from + at + 1) (len - at) (omega arith) (omega arith)

    module _ (within : at ≤ len) (less : len < 64) (x : T) where
      abbrev pub inserted : List (Option T)
      inserted = set shifted (from + at) (Some x)

      pub length-inserted : length inserted ≡ length cs
      length-inserted = length-set shifted (from + at) (Some x) ∙ long-shifted within less

      first : run inserted from at ≡ run cs from at
      first = run-set-above shifted from at (from + at) (Some x) (omega (arith, long-shifted within less)) (omega arith)
          ∙ run-moved-off cs (from + at) (from + at + 1) (len - at) from at (omega arith) (omega arith) (inl (omega arith)) (inl (omega arith))

      last : run inserted (from + at + 1) (len - at) ≡ run cs (from + at) (len - at)
      last = run-set-below shifted (from + at + 1) (len - at) (from + at) (Some x) (omega arith) ∙ run-moved cs (from + at) (from + at + 1) (len - at) (tail within) (omega arith)

      pub run-inserted : run inserted from (len + 1) ≡ take at (run cs from len) ++ x ∷ drop at (run cs from len)
      run-inserted =
          run-split inserted from (from + at) at (len + 1 - at) (len + 1) refl (omega arith)
          ∙ ap (λ ys. run inserted from at ++ ys) (run-split inserted (from + at) (from + at + 1) 1 (len - at) (len + 1 - at) refl (omega arith)
          ∙ (λ j. run-set-same shifted (from + at) x (omega (arith, long-shifted within less)) j ++ last j))
          ∙ (λ j. (first ∙ sym (run-take cs from at len within filled)) j ++ x ∷ sym (run-drop cs from (from + at) at len (len - at) refl (omega arith) filled) j)

      pub IsRun-inserted : IsRun inserted from (len + 1)
      IsRun-inserted = IsRun-long inserted from (len + 1) (ap length (run-inserted) ∙ grind (arith, length-append, length-drop, length-take, length-run cs from len filled)) (omega (arith, length-inserted))

      pub keeps-inserted : Keeps cs inserted leaf leaf
      keeps-inserted = record {
        count = length-inserted;
        same = λ l n ne nf le. elim (leaves-apart l n leaf (from + at) (from + len + 1) ne le (omega arith) (omega arith)) [
          | inl b ↦ run-set-above shifted (l * 64) n (from + at) (Some x) (omega (arith, long-shifted within less)) b
              ∙ run-moved-off cs (from + at) (from + at + 1) (len - at) (l * 64) n (omega arith) (omega arith) (inl b) (inl (omega (arith, b)))
          | inr b ↦ run-set-below shifted (l * 64) n (from + at) (Some x) (omega (arith, b))
              ∙ run-moved-off cs (from + at) (from + at + 1) (len - at) (l * 64) n (omega arith) (omega arith) (inr (omega (arith, b))) (inr (omega (arith, b)))
        ];
      }

    -- a value removed
    module _ (within : at < len) (less : len ≤ 64) where
      abbrev taken : List (Option T)
      taken = set cs (from + at) None

      abbrev pub removed : List (Option T)
      removed = moved taken (from + at + 1) (from + at) (len - at - 1)

      pub filled-at : IsFilled cs (from + at)
      filled-at = run_filled cs from len at filled within

      pub read-at : (x : T) → get_or cs (from + at) None ≡ Some x → slice_get (run cs from len) at ≡ Some x
      read-at x e = slice_get-run_from cs from len at x filled within e

      pub long-taken : length taken ≡ length cs
      long-taken = length-set cs (from + at) None

      pub rest : IsRun taken (from + at + 1) (len - at - 1)
      rest = IsRun-set-below cs (from + at + 1) (len - at - 1) (from + at) None (omega arith) (IsRun-part cs from len (from + at + 1) (len - at - 1) (omega arith) (omega arith) filled)

      pub length-removed : length removed ≡ length cs
      length-removed = length-moved taken (from + at + 1) (from + at) (len - at - 1) (omega (arith, long-taken)) (omega (arith, long-taken)) ∙ long-taken

      pub run-removed : run removed from (len - 1) ≡ take at (run cs from len) ++ drop (at + 1) (run cs from len)
      run-removed =
          run-split removed from (from + at) at (len - at - 1) (len - 1) refl (omega arith)
          ∙ (λ j. (run-moved-off taken (from + at + 1) (from + at) (len - at - 1) from at (omega (arith, long-taken)) (omega (arith, long-taken)) (inl (omega arith)) (inl (omega arith))
          ∙ run-set-above cs from at (from + at) None (omega arith) (omega arith) ∙ sym (run-take cs from at len (omega arith) filled)) j
          ++ (run-moved taken (from + at + 1) (from + at) (len - at - 1) rest (omega (arith, long-taken)) ∙ run-set-below cs (from + at + 1) (len - at - 1) (from + at) None (omega arith)
          ∙ sym (run-drop cs from (from + at + 1) (at + 1) len (len - at - 1) (omega arith) (omega arith) filled)) j)

      pub IsRun-removed : IsRun removed from (len - 1)
      IsRun-removed = IsRun-long removed from (len - 1) (ap length (run-removed) ∙ grind (arith, length-append, length-drop, length-take, length-run cs from len filled)) (omega (arith, length-removed))

      pub keeps-removed : Keeps cs removed leaf leaf
      keeps-removed = record {
        count = length-removed;
        same = λ l n ne nf le. elim (leaves-apart l n leaf (from + at) (from + len) ne le (omega arith) (omega arith)) [
          | inl b ↦ run-moved-off taken (from + at + 1) (from + at) (len - at - 1) (l * 64) n (omega (arith, long-taken)) (omega (arith, long-taken)) (inl (omega (arith, b))) (inl b)
              ∙ run-set-above cs (l * 64) n (from + at) None (omega arith) b
          | inr b ↦ run-moved-off taken (from + at + 1) (from + at) (len - at - 1) (l * 64) n (omega (arith, long-taken)) (omega (arith, long-taken)) (inr (omega (arith, b))) (inr (omega (arith, b)))
              ∙ run-set-below cs (l * 64) n (from + at) None (omega (arith, b))
        ];
      }

-- values moved between two leaves, of which the one has `len` values, and `k` of them move to the other, which has `count`
module _ {T : Type 0} (cs : List (Option T)) (leaf len k to count : ℕ) (room : ((leaf + 1) * 64 ≤ length cs) × ((to + 1) * 64 ≤ length cs)) (apart : leaf ≢ to) (filled : IsRun cs (leaf * 64) len)
    (filled_there : IsRun cs (to * 64) count) (within : (len ≤ 64) × (k ≤ len)) (space : count + k ≤ 64) where
  abbrev source : ℕ
  source = leaf * 64

  abbrev target : ℕ
  target = to * 64

  is-apart : (target + 64 ≤ source) ⊎ (source + 64 ≤ target)
  is-apart = elim (cases_lt leaf to) [
    | inl b ↦ inr (omega arith)
    | inr b ↦ inl (omega arith)
  ]

  -- the last ones, to the front of the other
  abbrev opened : List (Option T)
  opened = moved cs target (target + k) count

  abbrev pub moved_up : List (Option T)
  moved_up = moved opened (source + (len - k)) target k

  pub length-opened : length opened ≡ length cs
  length-opened = length-moved cs target (target + k) count (omega (arith, room.1)) (omega (arith, room.1))

  off-opened : (a n : ℕ) → source ≤ a → a + n ≤ source + 64 → run opened a n ≡ run cs a n
  off-opened a n l h = elim is-apart [
    | inl b ↦ run-moved-off cs target (target + k) count a n (omega (arith, room.1)) (omega (arith, room.1)) (inr (omega (arith, b))) (inr (omega (arith, b)))
    | inr b ↦ run-moved-off cs target (target + k) count a n (omega (arith, room.1)) (omega (arith, room.1)) (inl (omega (arith, b))) (inl (omega (arith, b)))
  ]

  part : (a n : ℕ) → source ≤ a → a + n ≤ source + len → IsRun cs a n
  part a n l h = IsRun-part cs source len a n l h filled

  pub part_first : IsRun cs source k
  part_first = part source k (omega arith) (omega (arith, within.1))

  pub IsRun-last : IsRun opened (source + (len - k)) k
  IsRun-last = IsRun-same cs opened (source + (len - k)) k length-opened (off-opened (source + (len - k)) k (omega arith) (omega (arith, within.0, within.1))) (part (source + (len - k)) k (omega arith) (omega (arith, within.1)))

  pub length-moved_up : length moved_up ≡ length cs
  length-moved_up = length-moved opened (source + (len - k)) target k (omega (arith, room.0, within.0, within.1, length-opened)) (omega (arith, room.1, length-opened)) ∙ length-opened

  off-moved_up : (a n : ℕ) → (a + n ≤ source + (len - k)) ⊎ (source + len ≤ a) → (a + n ≤ target) ⊎ (target + k ≤ a) → run moved_up a n ≡ run opened a n
  off-moved_up a n f t =
      let f' : (a + n ≤ source + (len - k)) ⊎ (source + (len - k) + k ≤ a) = elim f [
        | inl b ↦ inl b
        | inr b ↦ inr (omega (arith, within.1, b))
      ] in
      run-moved-off opened (source + (len - k)) target k a n (omega (arith, room.0, within.0, within.1, length-opened)) (omega (arith, room.1, length-opened)) f' t

  pub kept_up : run moved_up source (len - k) ≡ take (len - k) (run cs source len)
  kept_up =
      off-moved_up source (len - k) (inl (omega arith)) (elim is-apart [
        | inl b ↦ inr (omega (arith, b))
        | inr b ↦ inl (omega (arith, b, within.0, within.1))
      ])
      ∙ off-opened source (len - k) (omega arith) (omega (arith, within.0)) ∙ sym (run-take cs source (len - k) len (omega arith) filled)

  first_up : run moved_up target k ≡ drop (len - k) (run cs source len)
  first_up =
      run-moved opened (source + (len - k)) target k IsRun-last (omega (arith, room.1, length-opened))
      ∙ off-opened (source + (len - k)) k (omega arith) (omega (arith, within.0, within.1)) ∙ sym (run-drop cs source (source + (len - k)) (len - k) len k refl (omega (arith, within.1)) filled)

  last_up : run moved_up (target + k) count ≡ run cs target count
  last_up =
      off-moved_up (target + k) count (elim is-apart [
        | inl b ↦ inl (omega (arith, b, within.0, within.1))
        | inr b ↦ inr (omega (arith, b, within.0))
      ]) (inr (omega arith))
      ∙ run-moved cs target (target + k) count filled_there (omega (arith, room.1))

  pub there_up : run moved_up target (count + k) ≡ drop (len - k) (run cs source len) ++ run cs target count
  there_up = run-split moved_up target (target + k) k count (count + k) refl (omega arith) ∙ (λ j. first_up j ++ last_up j)

  pub IsRun-kept_up : IsRun moved_up source (len - k)
  IsRun-kept_up = IsRun-long moved_up source (len - k) (ap length kept_up ∙ grind (arith, length-take, length-run cs source len filled)) (omega (arith, length-moved_up, room.0, within.0))

  pub IsRun-there_up : IsRun moved_up target (count + k)
  IsRun-there_up = IsRun-long moved_up target (count + k) (ap length there_up ∙ grind (arith, length-append, length-drop, within.1, length-run cs source len filled, length-run cs target count filled_there))
      (omega (arith, length-moved_up, room.1))

  pub keeps_up : Keeps cs moved_up leaf to
  keeps_up = record {
    count = length-moved_up;
    same = λ l n ne nf le. off-moved_up (l * 64) n (elim (leaves-apart l n leaf source (source + 64) ne le (omega arith) (omega arith)) [
      | inl b ↦ inl (omega (arith, b))
      | inr b ↦ inr (omega (arith, b, within.0))
    ]) (leaves-apart l n to target (target + k) nf le (omega arith) (omega arith))
        ∙ run-moved-off cs target (target + k) count (l * 64) n (omega (arith, room.1)) (omega (arith, room.1)) (leaves-apart l n to target (target + count) nf le (omega arith) (omega arith))
        (elim (leaves-apart l n to target (target + k + count) nf le (omega arith) (omega arith)) [
          | inl b ↦ inl (omega (arith, b))
          | inr b ↦ inr b
        ]);
  }

  -- the first ones, to the end of the other
  abbrev appended : List (Option T)
  appended = moved cs source (target + count) k

  abbrev pub moved_down : List (Option T)
  moved_down = moved appended (source + k) source (len - k)

  pub length-appended : length appended ≡ length cs
  length-appended = length-moved cs source (target + count) k (omega (arith, room.0, within.0, within.1)) (omega (arith, room.1))

  off-appended : (a n : ℕ) → source + k ≤ a → a + n ≤ source + 64 → run appended a n ≡ run cs a n
  off-appended a n l h = run-moved-off cs source (target + count) k a n (omega (arith, room.0, within.0, within.1)) (omega (arith, room.1)) (inr l) (elim is-apart [
    | inl b ↦ inr (omega (arith, b))
    | inr b ↦ inl (omega (arith, b))
  ])

  pub IsRun-rest : IsRun appended (source + k) (len - k)
  IsRun-rest = IsRun-same cs appended (source + k) (len - k) length-appended (off-appended (source + k) (len - k) (omega arith) (omega (arith, within.0, within.1))) (part (source + k) (len - k) (omega arith) (omega (arith, within.1)))

  pub length-moved_down : length moved_down ≡ length cs
  length-moved_down = length-moved appended (source + k) source (len - k) (omega (arith, room.0, within.0, within.1, length-appended)) (omega (arith, room.0, within.0, length-appended)) ∙ length-appended

  off-moved_down : (a n : ℕ) → (a + n ≤ source) ⊎ (source + len ≤ a) → run moved_down a n ≡ run appended a n
  off-moved_down a n f = run-moved-off appended (source + k) source (len - k) a n (omega (arith, room.0, within.0, within.1, length-appended)) (omega (arith, room.0, within.0, length-appended)) (elim f [
    | inl b ↦ inl (omega (arith, b))
    | inr b ↦ inr (omega (arith, within.1, b))
  ]) (elim f [
    | inl b ↦ inl b
    | inr b ↦ inr (omega (arith, within.1, b))
  ])

  target-apart : (a n : ℕ) → target ≤ a → a + n ≤ target + 64 → (a + n ≤ source) ⊎ (source + len ≤ a)
  target-apart a n l h = elim is-apart [
    | inl b ↦ inl (omega (arith, b))
    | inr b ↦ inr (omega (arith, b, within.0))
  ]

  pub kept_down : run moved_down source (len - k) ≡ drop k (run cs source len)
  kept_down =
      run-moved appended (source + k) source (len - k) IsRun-rest (omega (arith, room.0, within.0, length-appended))
      ∙ off-appended (source + k) (len - k) (omega arith) (omega (arith, within.0, within.1)) ∙ sym (run-drop cs source (source + k) k len (len - k) refl (omega (arith, within.1)) filled)

  first_down : run moved_down target count ≡ run cs target count
  first_down =
      off-moved_down target count (target-apart target count (omega arith) (omega arith))
      ∙ run-moved-off cs source (target + count) k target count (omega (arith, room.0, within.0, within.1)) (omega (arith, room.1)) (elim (target-apart target count (omega arith) (omega arith)) [
        | inl b ↦ inl b
        | inr b ↦ inr (omega (arith, within.1, b))
      ]) (inl (omega arith))

  last_down : run moved_down (target + count) k ≡ take k (run cs source len)
  last_down =
      off-moved_down (target + count) k (target-apart (target + count) k (omega arith) (omega arith))
      ∙ run-moved cs source (target + count) k (part source k (omega arith) (omega (arith, within.1))) (omega (arith, room.1)) ∙ sym (run-take cs source k len within.1 filled)

  pub there_down : run moved_down target (count + k) ≡ run cs target count ++ take k (run cs source len)
  there_down = run-split moved_down target (target + count) count k (count + k) refl refl ∙ (λ j. first_down j ++ last_down j)

  pub IsRun-kept_down : IsRun moved_down source (len - k)
  IsRun-kept_down = IsRun-long moved_down source (len - k) (ap length kept_down ∙ grind (arith, length-drop, length-run cs source len filled)) (omega (arith, length-moved_down, room.0, within.0))

  pub IsRun-there_down : IsRun moved_down target (count + k)
  IsRun-there_down = IsRun-long moved_down target (count + k) (ap length there_down ∙ grind (arith, length-append, length-take, within.1, length-run cs source len filled, length-run cs target count filled_there))
      (omega (arith, length-moved_down, room.1))

  pub keeps_down : Keeps cs moved_down leaf to
  keeps_down = record {
    count = length-moved_down;
    same = λ l n ne nf le. off-moved_down (l * 64) n (elim (leaves-apart l n leaf source (source + 64) ne le (omega arith) (omega arith)) [
      | inl b ↦ inl b
      | inr b ↦ inr (omega (arith, b, within.0))
    ])
        ∙ run-moved-off cs source (target + count) k (l * 64) n (omega (arith, room.0, within.0, within.1)) (omega (arith, room.1)) (elim (leaves-apart l n leaf source (source + 64) ne le (omega arith) (omega arith)) [
          | inl b ↦ inl b
          | inr b ↦ inr (omega (arith, b, within.0, within.1))
        ]) (elim (leaves-apart l n to target (target + count + k) nf le (omega arith) (omega arith)) [
          | inl b ↦ inl (omega (arith, b))
          | inr b ↦ inr b
        ]);
  }

pub ruleset in_leaf = (tail, long-shifted, length-inserted, run-inserted, IsRun-inserted, keeps-inserted, filled-at, read-at, long-taken, rest, length-removed, run-removed, IsRun-removed, keeps-removed)

pub ruleset up = (length-opened, IsRun-last, kept_up, there_up, IsRun-kept_up, IsRun-there_up, keeps_up)

pub ruleset down = (part_first, length-appended, IsRun-rest, kept_down, there_down, IsRun-kept_down, IsRun-there_down, keeps_down)
