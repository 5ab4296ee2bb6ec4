-- Items that are taken from an iterator and put into a block.
use Rattle.aa_boxed.proofs.Costs.{Doubled, Doubled-grows, Doubled-put, Doubled-start, costs_to_collect}
use Rattle.aa_boxed.proofs.Common.{AllocError, Building, CollectCost, Count, Doubling, Err, FailsAtEnd, FromIterFails, IfErr, IfOk, LacksRoom, List, LowerAtMost, None, Ok, Option, Result, Slice, Some, TryReserveError, WholeRun, Yields, Yields-more, YieldsThen, YieldsWithLower, [], amortized, ap, arith, empty_builder, finished, if◌then◌else◌, inl, length, length-append, min, min_capacity, nat_tests, new_capacity, refl, shrunk, subst, sym, total_runs, usize_max, with_growth, with_pushed, with_room, ℕ, ◌++◌, ◌+◌, ◌<◌, ◌==◌, ◌∙◌, ◌∷◌, ◌≡◌, ◌≤◌}

-- the lower bound is n at the end, and 0 before
abbrev lower_at_end : (n : ℕ) → ℕ → ℕ
lower_at_end n k = if k == 0 then n else 0

module _ {S T : Type 0} (steps : S → Option T → S → Type 0) where
  yields_at_end : (remaining : S → Count) (s : S) (xs : List T) (t : S) → Yields steps s xs t
      → (n : ℕ) → LowerAtMost remaining t n
      → YieldsWithLower steps (LowerAtMost remaining) (lower_at_end n) s xs t
  yields_at_end remaining s [] t y n h = (subst (λ z. LowerAtMost remaining z n) (sym y) h, y)
  yields_at_end remaining s (x ∷ xs) t y n h =
      (λ _. grind (arith, nat_tests), y.0, y.1, yields_at_end remaining y.0 xs t y.2 n h)

  -- all items were taken, and s is the rest of the iterator
  module _ {A : Type 0} (f : Building T A) (iter s : S) (d : YieldsThen steps iter f.items None s)
    where
      pub whole_run_of : {E : Type 0} (r : Result (Slice T A) E) (w : Slice T A) → w.items ≡ f.items
          → IfOk r (λ b. b ≡ w) → IfOk r (λ b. WholeRun steps iter (λ p. b.items ≡ p.items))
      whole_run_of (Ok b) w same e =
          let W : List T → Type 0 = λ ys. WholeRun steps iter (λ p. ys ≡ p.items) in
          subst W (sym (ap (λ y. y.items) e ∙ same))
          (total_runs steps iter (Unit {0}) (λ xs. f.items ≡ xs) (f.items, λ _. (s, d), refl) tt)
      whole_run_of (Err error) w same e = tt

      -- at the end, the allocation of a block of exactly their number failed
      pub fails_at_end : (remaining : S → Count) (size : ℕ) (Q : TryReserveError → Type 0)
          → ((e : TryReserveError) → FailsAtEnd steps (LowerAtMost remaining) size iter e s → Q e)
          → (r : Result (Slice T A) TryReserveError)
          → IfErr r (λ e. (0 < length f.items) × (0 < size)
          × (e.kind ≡ AllocError (length f.items))) → IfErr r Q
      fails_at_end remaining size Q q (Ok b) e = tt
      fails_at_end remaining size Q q (Err error) e =
          q error (record {
            taken = f.items;
            lower = lower_at_end 0;
            last = d.0;
            yields = yields_at_end remaining iter f.items d.0 d.1 0 (λ _. omega arith);
            outcome = (d.2, e.0, e.1, e.2);
          })

  module _ {A : Type 0} (left : S → ℕ) (size : ℕ) (iter : S) (alloc : A) where
    -- what was taken from iter, which is now s, was put into f
    pub record Coming (s : S) (f : Building T A) : Type 0 where
      pub came : Yields steps iter f.items s
      pub grows : f.growth ≡ Doubling
      pub over : f.alloc ≡ alloc
      pub zst : size ≡ 0 → usize_max ≤ f.capacity
      pub cost : Doubled size f.capacity (length f.items) (left iter) f.grown
      pub fewer : length f.items + left s ≤ left iter

    module _ (s : S) (f : Building T A) (p : Coming s f) where
      pub Coming-ends : (u : S) → steps s None u → YieldsThen steps iter f.items None u
      Coming-ends u h = (s, p.came, h)

      -- what the boxed slice has cost
      pub Coming-costs : {E : Type 0} (r : Result (Slice T A) E)
          → IfOk r (λ b. b ≡ finished (shrunk size f))
          → IfOk r (λ b. CollectCost size (length b.items) (left iter) b.grown)
      Coming-costs (Ok b) e =
          rw e (costs_to_collect size f.capacity (length f.items) (left iter) f.grown p.cost
          (omega (arith, p.fewer)))
      Coming-costs (Err error) e = tt

      -- one more item was taken
      module _ (x : T) (t : S) (step : steps s (Some x) t) (on : left t < left s) where
        longer : length (f.items ++ x ∷ []) ≡ length f.items + 1
        longer = length-append f.items (x ∷ [])

        -- and put into `w`, which has the items of `f`
        Coming-put : (w new : Building T A) → w.items ≡ f.items → w.growth ≡ f.growth → w.alloc
            ≡ f.alloc → f.capacity ≤ w.capacity
            → Doubled size w.capacity (length f.items + 1) (left iter) w.grown → new
            ≡ with_pushed w x → Coming t new
        Coming-put w new items growth over more cost e =
            let all : w.items ++ x ∷ [] ≡ f.items ++ x ∷ [] = ap (λ xs. xs ++ x ∷ []) items in
            subst (λ b. Coming t b) (sym e) (record {
              came = subst (λ xs. Yields steps iter xs t) (sym all)
                  (Yields-more steps iter f.items s x t p.came step);
              grows = growth ∙ p.grows;
              over = over ∙ p.over;
              zst = λ z. omega (arith, p.zst z, more);
              cost = subst (λ n. Doubled size w.capacity n (left iter) w.grown)
                  (sym (ap length all ∙ longer)) cost;
              fewer = omega (arith, p.fewer, on, longer, ap length all);
            })

        -- there was a place for it
        pub Coming-there : (w new : Building T A) → w ≡ f → new ≡ with_pushed w x → Coming t new
        Coming-there w new same e =
            Coming-put f new refl refl refl (omega arith)
            (Doubled-put size f.capacity (length f.items) (left iter) f.grown p.cost)
            (e ∙ ap (λ b. with_pushed b x) same)

        -- or the full block grew for it and for as many as may follow
        pub Coming-grown : length f.items ≡ f.capacity → (yields k : ℕ) → yields ≤ left t → k
            ≡ min (yields + 1) usize_max → (f.capacity < length f.items + k → 0 < size)
            → (w new : Building T A) → w ≡ with_room size f k → new ≡ with_pushed w x → Coming t new
        Coming-grown full yields k few asked sized w new is e =
            let n = length f.items in
            let c = amortized f.growth f.capacity (n + k) (min_capacity size) in
            let more : 0 < k = omega (arith, asked) in
            let room : (with_room size f k)
            ≡ record f { capacity = c; grown = with_growth f.grown n f.capacity c } =
            grind (arith, nat_tests, full, more) in
            let cost = Doubled-grows size f.capacity n (left iter) f.grown p.cost k full
            (sized (omega (arith, full, more))) more (omega (arith, asked, few, on, p.fewer)) in
            Coming-put (record f { capacity = c; grown = with_growth f.grown n f.capacity c }) new
            refl refl refl (rw p.grows (omega arith))
            (rw p.grows cost)
            (e ∙ ap (λ b. with_pushed b x) (is ∙ room))

        -- or reserving capacity for it failed
        module _ (full : length f.items ≡ f.capacity) where
          many : size ≡ 0 → usize_max ≤ length f.items
          many z = omega (arith, p.zst z, full)

          pub Coming-fails : (remaining : S → Count) (yields : ℕ) → LowerAtMost remaining t yields
              → (k : ℕ) → k ≡ min (yields + 1) usize_max → (e : TryReserveError)
              → LacksRoom size f.capacity (length f.items) k
              (amortized f.growth f.capacity (length f.items + k) (min_capacity size)) e
              → FromIterFails steps (LowerAtMost remaining) size iter e t
          Coming-fails remaining yields tells k asked e lacks = inl (record {
            taken = f.items ++ x ∷ [];
            lower = lower_at_end yields;
            last = t;
            yields = yields_at_end remaining iter (f.items ++ x ∷ []) t
                (Yields-more steps iter f.items s x t p.came step) yields tells;
            outcome = (refl, f.items, x, refl, many, rw (sym full, p.grows, asked) at lacks);
          })
