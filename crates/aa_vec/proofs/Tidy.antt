-- How many of the places from an index on hold values, after what calls of a block do to them.
--     few_at_end      what is after the items, when elements are put there or taken, or the block grows or shrinks
use Rattle.aa_vec.proofs.Common.{AreEmpty, Block, Bool, Err, HasTail, Inside, IsFilled, IsRun, IsWhole, List, None, Ok, Option, ReserveResult, Reserves, Result, Some, TryReserveError, [], ap, arith, cases_lt, cond, count_by, count_by-le-length, count_from, cut-long, cut_to, drop, drop-drop, drop-set-add, drop-set-lt, drop-with, drop_at, false, first-filled, get_or, get_or-drop, get_or-set_at, if◌then◌else◌, inl, inr, is_some, length, length-drop, length-replicate, length-set, length-take, length-take-le, length-with_run, list_all, map, moved, nat_tests, none-at, none-fresh, none-unallocated, places, refill, refl, replicate, rules, slice_set, subst, suc, sum_by-append, sum_by-cons, sum_by-take-drop, sym, take, true, true≢false, usize_max, view_of, with_places, with_run, zero, zero-add, ℕ, ◌++◌, ◌+◌, ◌-◌, ◌<◌, ◌==◌, ◌∙◌, ◌∷◌, ◌≡◌, ◌≤◌}
use Rattle.aa_raw.proofs.Calls.{with_room}
unfoldable use Rattle.aa_raw.specs.Places.{zst_places}
use Rattle.aa_vec.proofs.Gaps.{IsRun-of_drop, full, restored, there, within, IsFront-restored}
use Rattle.std.proofs.lemmas.List.Folds.{sum_by-replicate}

module _ {X : Type 0} where
  abbrev some_in : List (Option X) → ℕ
  some_in cs = count_by is_some cs

  in_both : (ds es : List (Option X)) → some_in (ds ++ es) ≡ some_in ds + some_in es
  in_both ds es = sum_by-append (λ c. cond (is_some c) 1 0) ds es

  one_more : (x : X) (cs : List (Option X)) → some_in (Some x ∷ cs) ≡ 1 + some_in cs
  one_more x cs = sum_by-cons (λ c. cond (is_some c) 1 0) (Some x) cs

  in_parts : (n : ℕ) (cs : List (Option X)) → some_in (take n cs) + some_in (drop n cs) ≡ some_in cs
  in_parts n cs = sum_by-take-drop (λ c. cond (is_some c) 1 0) cs n

  all_in : (n : ℕ) (cs : List (Option X)) → n ≤ length cs → list_all is_some (take n cs) ≡ true
      → some_in (take n cs) ≡ n
  all_in zero cs h e = refl
  all_in (suc n) [] h e = absurd (omega (arith, h))
  all_in (suc n) (None ∷ cs) h e = absurd (true≢false (sym e))
  all_in (suc n) (Some x ∷ cs) h e =
      omega (arith, one_more x (take n cs), all_in n cs (omega (arith, h)) e)

  -- no more than there are where each place that was empty still is
  in_fewer : (ds es : List (Option X))
      → ((i : ℕ) → get_or es i None ≡ None → get_or ds i None ≡ None) → some_in ds ≤ some_in es
  in_fewer [] es h = omega arith
  in_fewer (None ∷ ds) [] h = in_fewer ds [] (λ i e. h (suc i) refl)
  in_fewer (None ∷ ds) (None ∷ es) h = in_fewer ds es (λ i e. h (suc i) e)
  in_fewer (None ∷ ds) (Some y ∷ es) h =
      let less : some_in (None ∷ ds) ≤ some_in es = in_fewer ds es (λ i e. h (suc i) e) in
      omega (arith, less, one_more y es)
  in_fewer (Some x ∷ ds) [] h = let bad = h 0 refl in cc
  in_fewer (Some x ∷ ds) (None ∷ es) h = let bad = h 0 refl in cc
  in_fewer (Some x ∷ ds) (Some y ∷ es) h =
      omega (arith, in_fewer ds es (λ i e. h (suc i) e), one_more x ds, one_more y es)

  -- a run emptied
  abbrev emptied : List (Option X) → (at n : ℕ) → List (Option X)
  emptied cs at n = take at cs ++ (replicate n None ++ drop (at + n) cs)

  in_emptied : (cs : List (Option X)) (at n : ℕ)
      → some_in (emptied cs at n) + some_in (take n (drop at cs)) ≡ some_in cs
  in_emptied cs at n =
      grind (
        arith,
        in_parts at cs,
        in_parts n (drop at cs),
        in_both,
        sum_by-replicate (λ (c : Option X). cond (is_some c) 1 0) n None,
        drop-drop n at cs,
      )

  abbrev None_at : List (Option X) → ℕ → Type 0
  None_at cs i = get_or cs i None ≡ None

  emptied-none : (ds : List (Option X)) (at n i : ℕ) → (i < at → None_at ds i)
      → (at + n ≤ i → None_at ds i) → None_at (emptied ds at n) i
  emptied-none ds at n i h g = grind (arith, places, cases_lt i at, cases_lt i (at + n), h, g)

  emptied-same : (ds : List (Option X)) (at n i : ℕ) → None_at (emptied ds at n) i
      → (i < at → None_at ds i) × (at + n ≤ i → None_at ds i)
  emptied-same ds at n i e =
      (λ h. grind (arith, places, e), λ h. grind (arith, places, cases_lt i (length ds), e))

  -- of the places from two indices on, where n values in a run are taken, and m places at `to` may
  -- be filled
  count-after : (ds cs : List (Option X)) (k l at n to m s a t b : ℕ) → count_from cs l + s ≤ a
      → some_in (take n (drop at cs)) ≡ n → l ≤ at → t + m + a ≤ s + n + b
      → ((i : ℕ) → k ≤ i → (to ≤ i → i < to + m → None_at ds i) → (l ≤ i → i < at → None_at cs i)
      → (l ≤ i → at + n ≤ i → None_at cs i) → None_at ds i) → count_from ds k + t ≤ b
  unfolding count_from
  count-after ds cs k l at n to m s a t b few full below more h =
      let es : List (Option X) = emptied cs 0 l in let fs : List (Option X) = emptied ds 0 k in
      let same : drop at es ≡ drop at cs = grind (
        arith,
        drop-drop (at - l) l es,
        drop-drop (at - l) l cs,
        drop_at (replicate l None) (drop (0 + l) cs) l (length-replicate l None),
      ) in
      let less : some_in (emptied fs to m) ≤ some_in (emptied es at n) = in_fewer (emptied fs to m)
      (emptied es at n) (λ i e.
      let was = emptied-same es at n i e in
      let from : l ≤ i → None_at es i
      → None_at cs i = λ c d. (emptied-same cs 0 l i d).1 (omega (arith, c)) in
      let is : (to ≤ i → i < to + m → None_at ds i)
      → None_at fs i = λ u. emptied-none ds 0 k i (λ b. absurd (omega (arith, b)))
      (λ g. h i (omega (arith, g)) u (λ c d. from c (was.0 d)) (λ c d. from c (was.1 d))) in
      emptied-none fs to m i (λ b. is (λ c d. absurd (omega (arith, b, c))))
      (λ b. is (λ c d. absurd (omega (arith, b, d))))) in
      omega (
        arith,
        few,
        more,
        less,
        full,
        ap (λ xs. some_in (take n xs)) same,
        in_emptied es at n,
        in_emptied fs to m,
        in_emptied ds 0 k,
        in_parts k ds,
        in_emptied cs 0 l,
        in_parts l cs,
        count_by-le-length (λ c. is_some c) (take m (drop to fs)),
        length-take m (drop to fs),
      )

  -- and of which none is taken, and each that was empty still is
  count-kept : (ds cs : List (Option X)) (k l s a : ℕ) → count_from cs l + s ≤ a
      → ((i : ℕ) → k ≤ i → (l ≤ i → None_at cs i) → None_at ds i) → count_from ds k + s ≤ a
  count-kept ds cs k l s a few h = count-after ds cs k l l 0 0 0 s a s a few refl (omega arith)
      (omega arith) (λ i g u c d. h i g (λ e. d e (omega (arith, e))))

  module _ (cs : List (Option X)) (n s a : ℕ) (few : count_from cs n + s ≤ a) where
    pub few-put : (c : Option X) → count_from (slice_set cs n c) (n + 1) + s ≤ a
    few-put c = count-kept (slice_set cs n c) cs (n + 1) n s a few
        (λ i h g. grind (arith, places, g))

    pub few-put_all : (k : ℕ) (ys : List (Option X)) → n + k ≤ length cs → length ys ≡ k
        → count_from (with_run cs n k ys) (n + k) + s ≤ a
    unfolding with_run
    few-put_all k ys within long = count-kept (with_run cs n k ys) cs (n + k) n s a few
        (λ i h g. grind (arith, places, within, long, g))

    pub few-taken : (k : ℕ) → k + 1 ≡ n → n ≤ length cs → count_from (slice_set cs k None) k + s ≤ a
    few-taken k e within = count-kept (slice_set cs k None) cs k n s a few
        (λ i h g. grind (arith, places, cases_lt k i, get_or-set_at cs i k None None, e, within, g))

    pub few-set : (i : ℕ) (c : Option X) → i < n → count_from (slice_set cs i c) n + s ≤ a
    few-set i c h = count-kept (slice_set cs i c) cs n n s a few
        (λ j b g. grind (arith, places, h, b, g))

    pub few-refilled : (ys : List (Option X)) → n ≤ length cs → length ys ≡ n
        → count_from (with_run cs 0 n ys) n + s ≤ a
    unfolding with_run
    few-refilled ys within long = count-kept (with_run cs 0 n ys) cs n n s a few
        (λ i h g. grind (arith, places, within, long, g))

    -- the last elements emptied
    pub few-dropped : (k : ℕ) → n ≤ length cs
        → count_from (with_run cs k (n - k) (replicate (n - k) None)) k + s ≤ a
    unfolding with_run
    few-dropped k within =
        count-kept (with_run cs k (n - k) (replicate (n - k) None)) cs k n s a few
        (λ i h g. grind (arith, places, cases_lt i n, within, g))

    -- an element taken or put among the others, which are moved
    pub few-removed : (i m k : ℕ) → k + 1 ≡ n → i + 1 + m ≡ n → n ≤ length cs
        → count_from (moved (slice_set cs i None) (i + 1) i m) k + s ≤ a
    unfolding moved with_run
    few-removed i m k e all within =
        count-kept (moved (slice_set cs i None) (i + 1) i m) cs k n s a few
        (λ j h g. grind (
          arith,
          places,
          cases_lt k j,
          cases_lt 0 m,
          get_or-set_at cs i j None None,
          e,
          all,
          within,
          g,
        ))

    pub few-swapped : (i k : ℕ) → k + 1 ≡ n → i < k → n ≤ length cs
        → count_from (moved (slice_set cs i None) k i 1) k + s ≤ a
    unfolding moved with_run
    few-swapped i k e less within = count-kept (moved (slice_set cs i None) k i 1) cs k n s a few
        (λ j h g. grind (arith, places, cases_lt k j, e, less, within, g))

    pub few-inserted : (i m : ℕ) (c : Option X) → i + m ≡ n → n < length cs
        → count_from (slice_set (moved cs i (i + 1) m) i c) (n + 1) + s ≤ a
    unfolding moved with_run
    few-inserted i m c all within = count-kept (slice_set (moved cs i (i + 1) m) i c) cs
        (n + 1) n s a few (λ j h g. grind (arith, places, all, within, g))

    few-regrown : (k : ℕ) → n ≤ length cs → count_from (take n cs ++ replicate k None) n + s ≤ a
    few-regrown k within = count-kept (take n cs ++ replicate k None) cs n n s a few
        (λ i h g. grind (arith, places, cases_lt i (n + k), within))

  -- a new block has none, nor a boxed slice after its elements
  pub few-none : (cs : List (Option X)) (n s a : ℕ) → AreEmpty (drop n cs) → s ≡ 0
      → count_from cs n + s ≤ a
  unfolding count_from
  few-none cs n s a none e =
      omega (arith, in_fewer (drop n cs) [] (λ i h. none-at (drop n cs) i none), e)

  -- at most each place holds a value
  pub few-all : (cs : List (Option X)) (n s a : ℕ) → s ≡ 0 → length cs ≤ a → count_from cs n + s ≤ a
  unfolding count_from
  few-all cs n s a e h =
      omega (arith, count_by-le-length (λ c. is_some c) (drop n cs), length-drop n cs, e, h)

-- those of a block that reserved capacity or shrank
module _ {X A : Type 0} (size : ℕ) where
  pub few-reserve : (old : Block X A) (n k requested : ℕ) (result : Result Unit TryReserveError)
      (new : Block X A) (s a : ℕ) → ReserveResult size old n k requested result new
      → IsRun old.places 0 n → count_from old.places n + s ≤ a → count_from new.places n + s ≤ a
  few-reserve old n k requested (Ok u) new s a made r few =
      grind (
        arith,
        r.0,
        few,
        cases_lt (length old.places) (n + k),
        made.made.grows,
        made.made.fits,
        few-regrown old.places n s a few,
      )
  few-reserve old n k requested (Err x) new s a made r few = rw made.failed.0 few

  pub few-cut : (old : Block X A) (n c s a : ℕ) → IsRun old.places 0 n → count_from old.places n + s
      ≤ a → count_from (cut_to size old n c).places n + s ≤ a
  few-cut old n c s a r few = grind (arith, nat_tests, r.0, few, few-regrown old.places n s a few)

-- a vector whose block may have reserved capacity
pub IsWhole-reserved : {T A : Type 0} (v : Inside T A) (size k requested : ℕ)
    (result : Result Unit TryReserveError) (new : Block T A)
    → ReserveResult size v.block v.len k requested result new → IsWhole v
    → IsWhole (record { block = new; len = v.len; apart = v.apart; settled = v.settled })
IsWhole-reserved v size k requested result new made whole =
    record {
      filled = search (rules, with_room);
      few = few-reserve size v.block v.len k requested result new _ _ made whole.filled whole.few;
    }

pub ruleset reserved_whole = (IsWhole-reserved)

-- what is after the items
pub ruleset few_at_end = (
  few-put,
  few-put_all,
  few-taken,
  few-set,
  few-refilled,
  few-dropped,
  few-none,
  few-all,
  few-cut,
  none-fresh,
  none-unallocated,
  length-replicate,
)

module _ {X : Type 0} (cs : List (Option X)) (l s a : ℕ) (few : count_from cs l + s ≤ a) where
  -- a run over a gap after the first l
  module _ (gap n : ℕ) (within : l + gap + n ≤ length cs) (there : IsRun cs (l + gap) n) where
    held : count_by is_some (take n (drop (l + gap) cs)) ≡ n
    held = all_in n (drop (l + gap) cs) (omega (arith, within, length-drop (l + gap) cs)) there.1

    -- with other places instead
    pub few-left : (es : List (Option X)) → length es ≡ n
        → count_from (with_run cs (l + gap) n es) l + s ≤ a
    unfolding with_run
    few-left es long = count-after (with_run cs (l + gap) n es) cs l l (l + gap) n
        (l + gap) n s a s a few held (omega arith) (omega arith)
        (λ i g u c d. grind (
          arith,
          places,
          cases_lt i (l + gap),
          cases_lt i (l + gap + n),
          long,
          within,
          u,
          c,
          d,
        ))

    -- emptied
    pub few-cleared : (t : ℕ) → t ≡ s + n
        → count_from (with_run cs (l + gap) n (replicate n None)) l + t ≤ a
    unfolding with_run
    few-cleared t e = count-after (with_run cs (l + gap) n (replicate n None)) cs l l
        (l + gap) n 0 0 s a t a few held (omega arith) (omega (arith, e))
        (λ i g u c d. grind (
          arith,
          places,
          cases_lt i (l + gap),
          cases_lt i (l + gap + n),
          within,
          c,
          d,
        ))

    -- and moved down over the gap
    pub few-lowered : (t : ℕ) → t ≡ s + n → count_from (moved cs (l + gap) l n) (l + n) + t ≤ a
    unfolding moved with_run
    few-lowered t e = count-after (moved cs (l + gap) l n) cs (l + n) l
        (l + gap) n 0 0 s a t a few held (omega arith) (omega (arith, e))
        (λ i g u c d. grind (
          arith,
          places,
          cases_lt i (l + gap),
          cases_lt i (l + gap + n),
          within,
          c,
          d,
        ))

    -- or up from the first l
    pub few-raised : gap ≡ 0 → (up : ℕ) → l + up + n ≤ length cs
        → count_from (moved cs l (l + up) n) l + s ≤ a
    unfolding moved with_run
    few-raised e up room = count-after (moved cs l (l + up) n) cs l l (l + gap) n
        (l + up) n s a s a few held (omega arith) (omega arith)
        (λ i g u c d. grind (
          arith,
          places,
          cases_lt i (l + up),
          cases_lt i (l + up + n),
          cases_lt i (l + n),
          e,
          room,
          within,
          u,
          c,
          d,
        ))

  -- an element over a gap, in whose place another is
  module _ (gap : ℕ) (there : IsRun cs (l + gap) 1) where
    pub few-taken_apart : (t : ℕ) → t ≡ s + 1 → count_from (slice_set cs (l + gap) None) l + t ≤ a
    few-taken_apart t e = count-after (slice_set cs (l + gap) None) cs l l
        (l + gap) 1 0 0 s a t a few (held gap 1 there.0 there) (omega arith) (omega (arith, e))
        (λ i g u c d. grind
        (arith, places, nat_tests, get_or-set_at cs (l + gap) i None None, there.0, c, d))

    pub few-beside : (x y : X) → 0 < l
        → count_from (slice_set (slice_set cs (l + gap) (Some y)) (l - 1) (Some x)) l + s ≤ a
    few-beside x y some =
        count-after (slice_set (slice_set cs (l + gap) (Some y)) (l - 1) (Some x)) cs l l
        (l + gap) 1 (l + gap) 1 s a s a few (held gap 1 there.0 there) (omega arith) (omega arith)
        (λ i g u c d. grind (arith, places, some, u, c, d))

  -- the last elements of the first l are set apart
  pub few-set_apart : (k b : ℕ) → k ≤ l → b ≡ a + (l - k) → count_from cs k + s ≤ b
  few-set_apart k b h e = count-after cs cs k l l 0 k (l - k) s a s b few refl (omega arith)
      (omega (arith, e)) (λ i g u c d. grind (arith, cases_lt i l, h, u, d))

-- elements after a gap, as the call that borrowed them left them
module _ {T A : Type 0} (v : Inside T A) (whole : IsWhole v) (gap n : ℕ)
    (has_tail : HasTail (view_of v) gap n) (xs ws : List T)
    (shown : take n (drop (v.len + gap) v.block.places) ≡ map Some xs) where
  pub IsWhole-restored : IsWhole
      (record {
        block = with_places v.block (restored v whole.filled gap n has_tail xs ws shown);
        len = v.len;
        apart = v.apart;
        settled = v.settled;
      })
  IsWhole-restored = record {
    filled = IsFront-restored v whole.filled gap n has_tail xs ws shown;
    few = few-left v.block.places v.len v.settled.count v.apart.count whole.few gap n
        (within v whole.filled gap n has_tail) (there v whole.filled gap n has_tail)
        (map Some (refill n xs ws)) (full v whole.filled gap n has_tail xs ws shown);
  }

-- the same of the places after the items alone, as contracts name them
module _ {X : Type 0} (cs : List (Option X)) (l gap n : ℕ)
    (has_tail : IsRun (drop gap (drop l cs)) 0 n) (fits : l + gap + n ≤ length cs) where
  there_in : IsRun cs (l + gap) n
  there_in = IsRun-of_drop cs (l + gap) n fits
      (subst (λ ds. IsRun ds 0 n) (drop-drop gap l cs) has_tail)

  pub count-lowered : count_from (drop (l + n) (moved cs (l + gap) l n)) 0 + n
      ≤ count_from (drop l cs) 0
  unfolding count_from
  count-lowered = omega (
    arith,
    few-lowered cs l 0 (count_from cs l) (omega arith) gap n fits there_in n
        (omega arith),
  )

  pub count-cleared : count_from (drop l (with_run cs (l + gap) n (replicate n None))) 0 + n
      ≤ count_from (drop l cs) 0
  unfolding count_from
  count-cleared = omega (
    arith,
    few-cleared cs l 0 (count_from cs l) (omega arith) gap n fits there_in n
        (omega arith),
  )

-- how many fewer are left after the items
pub ruleset fewer = (count-lowered, count-cleared)
