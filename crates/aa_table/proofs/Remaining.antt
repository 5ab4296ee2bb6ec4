-- The remaining items of an iterator over places, after the next slot with a key, or the last.
use Rattle.std.proofs.Common.{List, None, Option, Some, [], ap, arith, drop, get_or, get_or-drop, get_or-set_other, get_or-set_same, get_or-take, inl, inr, length, length-append, length-set, length-take, refl, slice_set, suc, sym, take, take_all, ℕ, ◌++◌, ◌+◌, ◌-◌, ◌<◌, ◌∙◌, ◌∷◌, ◌≡◌, ◌≢◌, ◌≤◌}
use Rattle.std.specs.Iterator.{MakesProgress, item_count}
use Rattle.std.proofs.lemmas.Bool.{cases_eq, cases_lt}
use Rattle.std.proofs.lemmas.List.{append-nil, get_or_past}
use Rattle.allocator_api2.specs.Places.{run, somes}
use Rattle.allocator_api2.proofs.Blocks.{run-one, run-set-above, run-set-below, run-split}
use Rattle.aa_table.specs.Remaining.{IsRemaining, remaining_in}
use Rattle.aa_table.specs.Places.{AreFree, AreHeld}
use Rattle.aa_table.specs.Slots.{tag_at}
use Rattle.aa_table.specs.Walks.{HasTaken, IsWalk}
use Rattle.aa_table.specs.declared.walk.Walk.{Walk}

module _ {X : Type 0} where
  somes-none : (cs : List (Option X)) → ((i : ℕ) → get_or cs i None ≡ None) → somes cs ≡ []
  somes-none [] h = refl
  somes-none (None ∷ cs) h = somes-none cs (λ i. h (suc i))
  somes-none (Some x ∷ cs) h = let e = h 0 in absurd cc

  -- places without anything
  run-empty : (cs : List (Option X)) (from n : ℕ) → ((i : ℕ) → from ≤ i → i < from + n → get_or cs i None ≡ None) → run cs from n ≡ []
  unfolding run
  run-empty cs from n h = somes-none (take n (drop from cs)) (λ i. elim (cases_lt i n) [
    | inl l ↦ get_or-take n (drop from cs) i None l ∙ get_or-drop from cs i None ∙ h (from + i) (omega arith) (omega (arith, l))
    | inr g ↦ get_or_past (take n (drop from cs)) i None (omega (arith, g, length-take n (drop from cs)))
  ])

  -- the first with something
  run-next : (cs : List (Option X)) (from s end : ℕ) (x : X) → from ≤ s → s < end → end ≤ length cs → ((i : ℕ) → from ≤ i → i < s → get_or cs i None ≡ None) → get_or cs s None ≡ Some x
      → run cs from (end - from) ≡ x ∷ run cs (s + 1) (end - (s + 1))
  run-next cs from s end x a b c h e =
      let before : run cs from (s - from) ≡ [] = run-empty cs from (s - from) (λ i l m. h i l (omega (arith, l, m))) in
      run-split cs from s (s - from) (end - s) (end - from) (omega arith) (omega arith) ∙ ap (λ ys. ys ++ run cs s (end - s)) before
      ∙ run-split cs s (s + 1) 1 (end - (s + 1)) (end - s) refl (omega arith) ∙ ap (λ ys. ys ++ run cs (s + 1) (end - (s + 1))) (run-one cs s x (omega arith) e)

  -- the last with something
  run-last : (cs : List (Option X)) (from s end : ℕ) (x : X) → from ≤ s → s < end → end ≤ length cs → ((i : ℕ) → s < i → i < end → get_or cs i None ≡ None) → get_or cs s None ≡ Some x
      → run cs from (end - from) ≡ run cs from (s - from) ++ x ∷ []
  run-last cs from s end x a b c h e =
      let after : run cs (s + 1) (end - (s + 1)) ≡ [] = run-empty cs (s + 1) (end - (s + 1)) (λ i l m. h i (omega (arith, l)) (omega (arith, m))) in
      run-split cs from s (s - from) (end - s) (end - from) (omega arith) (omega arith) ∙ ap (λ ys. run cs from (s - from) ++ ys) (
      run-split cs s (s + 1) 1 (end - (s + 1)) (end - s) refl (omega arith) ∙ ap (λ ys. ys ++ run cs (s + 1) (end - (s + 1))) (run-one cs s x (omega arith) e) ∙ ap (λ ys. x ∷ ys) after
      )

  no-items : (xs : List X) → length xs ≡ 0 → xs ≡ []
  no-items [] e = refl
  no-items (x ∷ xs) e = absurd (omega (arith, e))

  run-whole : (cs : List (Option X)) → run cs 0 (length cs) ≡ somes cs
  unfolding run
  run-whole cs = ap somes (take_all (length cs) cs (omega arith))

  -- past these places there is nothing
  run-all : (cs : List (Option X)) (n : ℕ) → n ≤ length cs → ((i : ℕ) → n ≤ i → get_or cs i None ≡ None) → run cs 0 n ≡ somes cs
  run-all cs n l h =
      let past : run cs n (length cs - n) ≡ [] = run-empty cs n (length cs - n) (λ i a b. h i a) in
      sym (append-nil (run cs 0 n)) ∙ ap (λ ys. run cs 0 n ++ ys) (sym past) ∙ sym (run-split cs 0 n n (length cs - n) (length cs) (omega arith) (omega arith)) ∙ run-whole cs

-- one less remains
module _ {A X : Type 0} {xs ys : List X} (x : X) (r : A) where
  pub goes-next : xs ≡ x ∷ ys → MakesProgress (λ _. Unit {0}) (item_count (λ (rest : List X). rest)) xs (Some r) ys
  goes-next e = record { on = λ h. (tt, tt, omega (arith, ap length e)); keeps = tt; rests = λ h. tt }

  pub goes-last : xs ≡ ys ++ x ∷ [] → MakesProgress (λ _. Unit {0}) (item_count (λ (rest : List X). rest)) xs (Some r) ys
  goes-last e = record { on = λ h. (tt, tt, omega (arith, ap length e, length-append ys (x ∷ []))); keeps = tt; rests = λ h. tt }

module _ {K V : Type 0} where
  -- all slots
  pub all-left : (ts : List ℕ) (cs : List (Option (K × V))) (w : Walk) → w.from ≡ 0 → length ts ≤ length cs → AreFree ts cs → remaining_in cs w.from (length ts) ≡ somes cs
  all-left ts cs w zero l free =
      let n : length ts - 0 ≡ length ts = omega arith in
      rw zero (ap (run cs 0) n ∙ run-all cs (length ts) l (λ i a. free i (get_or_past ts i 0 a)))

  pub all-are : (ts : List ℕ) (cs : List (Option (K × V))) (w : Walk) (n : ℕ) → IsWalk ts w → w.from ≡ 0 → length ts ≤ length cs → AreHeld ts cs → AreFree ts cs → n ≡ length (somes cs) → IsRemaining ts cs w (length ts) n
  all-are ts cs w n walk zero l held free count = record {
    walk = walk;
    within = omega arith;
    places = l;
    held = λ s a b. held s b;
    free = free;
    count = count ∙ ap length (sym (all-left ts cs w zero l free));
  }

  module _ {ts : List ℕ} {cs : List (Option (K × V))} {w : Walk} {end left : ℕ} (l : IsRemaining ts cs w end left) where
    -- a slot with a key remains
    pub some-left : left ≢ 0 → HasTaken ts w.from
    some-left some none = some (l.count ∙ ap length (run-empty cs w.from (end - w.from) (λ i a b. l.free i (none i a))))

    pub some-within : left ≢ 0 → (s : ℕ) → ((i : ℕ) → w.from ≤ i → i < s → tag_at ts i ≡ 0) → s < end
    some-within some s free = elim (cases_lt s end) [
      | inl h ↦ h
      | inr g ↦ absurd (some (l.count ∙ ap length (run-empty cs w.from (end - w.from) (λ i a b. l.free i (free i a (omega (arith, a, b, g)))))))
    ]

    pub nothing-left : left ≡ 0 → remaining_in cs w.from end ≡ []
    nothing-left none = no-items (remaining_in cs w.from end) (sym l.count ∙ none)

    -- the next slot with a key
    module _ (s : ℕ) (e : K × V) (low : w.from ≤ s) (high : s < end) (free : (i : ℕ) → w.from ≤ i → i < s → tag_at ts i ≡ 0) (here : get_or cs s None ≡ Some e) where
      next-left : remaining_in cs w.from end ≡ e ∷ remaining_in cs (s + 1) end
      next-left = run-next cs w.from s end e low high l.places (λ i a b. l.free i (free i a b)) here

      pub next-goes : (v : Walk) → v.from ≡ s + 1 → remaining_in cs w.from end ≡ e ∷ remaining_in cs v.from end
      next-goes v after = rw after next-left

      pub next-some : 1 ≤ left
      next-some = omega (arith, l.count, ap length next-left)

      pub next-is : (v : Walk) → IsWalk ts v → v.from ≡ s + 1 → IsRemaining ts cs v end (left - 1)
      next-is v walk after = record {
        walk = walk;
        within = l.within;
        places = l.places;
        held = λ i a b. l.held i (omega (arith, a, low, after)) b;
        free = l.free;
        count = rw after (omega (arith, l.count, ap length next-left));
      }

    -- the last one
    module _ (s : ℕ) (e : K × V) (low : w.from ≤ s) (high : s < end) (free : (i : ℕ) → s < i → i < end → tag_at ts i ≡ 0) (here : get_or cs s None ≡ Some e) where
      pub last-left : remaining_in cs w.from end ≡ remaining_in cs w.from s ++ e ∷ []
      last-left = run-last cs w.from s end e low high l.places (λ i a b. l.free i (free i a b)) here

      pub last-some : 1 ≤ left
      last-some = omega (arith, l.count, ap length last-left, length-append (remaining_in cs w.from s) (e ∷ []))

      pub last-is : IsRemaining ts cs w s (left - 1)
      last-is = record {
        walk = l.walk;
        within = omega (arith, l.within);
        places = omega (arith, l.places);
        held = λ i a b. l.held i a (omega (arith, b));
        free = l.free;
        count = omega (arith, l.count, ap length last-left, length-append (remaining_in cs w.from s) (e ∷ []));
      }

    -- no slot has a key
    pub none-left : ((i : ℕ) → w.from ≤ i → i < end → tag_at ts i ≡ 0) → remaining_in cs w.from end ≡ []
    none-left free = run-empty cs w.from (end - w.from) (λ i a b. l.free i (free i a (omega (arith, a, b))))

  -- a key was taken from a slot that no longer remains
  module _ {ts : List ℕ} {cs : List (Option (K × V))} {w : Walk} {end left : ℕ} (l : IsRemaining ts cs w end left) (s : ℕ) (apart : (i : ℕ) → w.from ≤ i → i < end → i ≢ s) where
    free-taken : (i : ℕ) → tag_at ts i ≡ 0 → get_or (slice_set cs s None) i None ≡ None
    free-taken i t = elim (cases_eq i s) [
      | inl y ↦ elim (cases_lt s (length cs)) [
        | inl b ↦ rw y (get_or-set_same cs s None None b)
        | inr b ↦ get_or_past (slice_set cs s None) i None (omega (arith, b, y, length-set cs s None))
      ]
      | inr n ↦ get_or-set_other cs s i None None n ∙ l.free i t
    ]

    taken-is : remaining_in (slice_set cs s None) w.from end ≡ remaining_in cs w.from end → IsRemaining ts (slice_set cs s None) w end left
    taken-is same = record {
      walk = l.walk;
      within = l.within;
      places = omega (arith, l.places, length-set cs s None);
      held = λ i a b t. rw (get_or-set_other cs s i None None (apart i a b)) (l.held i a b t);
      free = free-taken;
      count = l.count ∙ ap length (sym same);
    }

  module _ {ts tags : List ℕ} {cs new : List (Option (K × V))} {w : Walk} {end left : ℕ} (l : IsRemaining ts cs w end left) (s : ℕ) (e : K × V) (byte : tags ≡ ts) (after : new ≡ slice_set cs s None)
      (low : w.from ≤ s) (high : s < end) (here : get_or cs s None ≡ Some e) where
    -- the next slot with a key, and the key is taken
    module _ (free : (i : ℕ) → w.from ≤ i → i < s → tag_at tags i ≡ 0) (v : Walk) (walk : IsWalk tags v) (passed : v.from ≡ s + 1) where
      nexts : IsRemaining ts cs v end (left - 1)
      nexts = next-is l s e low high (rw byte at free) here v (rw byte at walk) passed

      below : remaining_in (slice_set cs s None) v.from end ≡ remaining_in cs v.from end
      below = run-set-below cs v.from (end - v.from) s None (omega (arith, passed))

      pub take-next : remaining_in cs w.from end ≡ e ∷ remaining_in new v.from end
      take-next = rw (after, below, passed) (next-left l s e low high (rw byte at free) here)

      pub take-next-is : IsRemaining ts new v end (left - 1)
      take-next-is = rw after (taken-is nexts s (λ i a b q. omega (arith, a, q, passed)) below)

    -- the last one
    module _ (free : (i : ℕ) → s < i → i < end → tag_at tags i ≡ 0) where
      lasts : IsRemaining ts cs w s (left - 1)
      lasts = last-is l s e low high (rw byte at free) here

      above : remaining_in (slice_set cs s None) w.from s ≡ remaining_in cs w.from s
      above = run-set-above cs w.from (s - w.from) s None (omega (arith, l.places)) (omega arith)

      pub take-last : remaining_in cs w.from end ≡ remaining_in new w.from s ++ e ∷ []
      take-last = rw (after, above) (last-left l s e low high (rw byte at free) here)

      pub take-last-is : IsRemaining ts new w s (left - 1)
      take-last-is = rw after (taken-is lasts s (λ i a b q. omega (arith, b, q)) above)

pub ruleset all_slots = (all-left, all-are)

pub ruleset from_first = (some-left, some-within, nothing-left, next-goes, next-some, next-is)

pub ruleset from_last = (last-left, last-some, last-is, none-left)
