-- A vector to which items of an iterator are appended.
use Rattle.aa_vec.proofs.Common.{◌≡◌, ℕ, zero, suc, ◌+◌, ◌-◌, ◌<◌, ◌≤◌, List, [], ◌∷◌, ◌++◌, length, Option, Some, None, Ok, append_assoc, refl, sym, ap, ◌∙◌, subst, arith, length-append, min, map, Yields, Drains, append-nil, TryReserveError, usize_max, Vector, len, HasRoom, LacksRoom, Writes, Placed, FillsGap, GrowsInSteps, YieldsWithLower, Takes, Extends, ExtendResult, YieldsCopies, Result, Err, OnOk, IfErr, WholeRun, Becomes, with_room, IsNew, CollectResult, HasExtended, MatchResult, rules}
use Rattle.std.specs.Borrow.{Bor}
use Rattle.aa_vec.proofs.Outcomes.{on_ok}
use Rattle.std.proofs.iter.runs.Consumers.{total_runs}
use Rattle.aa_vec.proofs.Becoming.{GrowsTo-becomes, SameBlock-becomes, Writes-grown}
use Rattle.aa_vec.proofs.GrowthLemmas.{SameBlock-refl, MakesRoom-fits, MakesRoom-rises, GrowsInSteps-same, GrowsInSteps-more, GrowsInSteps-rises, GrowsInSteps-counted, GrowsInSteps-keeps, Extends-items, in_block}

-- the items that came, as one run
pub whole_run : {S A : Type 0} (steps : S → Option A → S → Type 0) (s : S) (P : List A → Type 0)
    → (xs : List A) × Drains steps s xs × P xs → WholeRun steps s (λ p. P p.items)
whole_run steps s P d = total_runs steps s (Unit {0}) P (d.0, λ _. d.1, d.2) tt

-- the lower bounds where one more item has come, after which the bound is n
abbrev pub bound_before : (n : ℕ) → (lower : ℕ → ℕ) → ℕ → ℕ
bound_before n lower zero = n
bound_before n lower (suc k) = lower k

module _ {S T : Type 0} (steps : S → Option T → S → Type 0) (LowerIs : S → ℕ → Type 0) where
  pub YieldsWithLower-more : (lower : ℕ → ℕ) (n : ℕ) (s : S) (xs : List T) (t : S) (x : T) (u : S)
      → YieldsWithLower steps LowerIs lower s xs t → steps t (Some x) u → LowerIs u n
      → YieldsWithLower steps LowerIs (bound_before n lower) s (xs ++ x ∷ []) u
  YieldsWithLower-more lower n s [] t x u y p h =
      (y.0, u, subst (λ k. steps k (Some x) u) (sym y.1) p, (h, refl))
  YieldsWithLower-more lower n s (z ∷ xs) t x u y p h =
      let e : suc (length xs) ≡ length (xs ++ x ∷ []) = omega (arith, length-append xs (x ∷ [])) in (
        subst (λ k. LowerIs s (bound_before n lower (suc k))) e y.0,
        y.1,
        y.2,
        YieldsWithLower-more lower n y.1 xs t x u y.3 p h,
      )

  pub Yields-with_lower : (lower : ℕ → ℕ) (s : S) (xs : List T) (t : S)
      → YieldsWithLower steps LowerIs lower s xs t → Yields steps s xs t
  Yields-with_lower lower s [] t y = y.1
  Yields-with_lower lower s (x ∷ xs) t y = (y.1, y.2, Yields-with_lower lower y.1 xs t y.3)

  -- the same of items that followed, where each state has some bound
  bounds_on : ((s : S) → (n : ℕ) × LowerIs s n)
      → (lower : ℕ → ℕ) (s : S) (front : List T) (t : S) (xs : List T) (u : S)
      → YieldsWithLower steps LowerIs lower s front t → Yields steps t xs u
      → (next : ℕ → ℕ) × YieldsWithLower steps LowerIs next s (front ++ xs) u
      × ((k : ℕ) → lower k ≡ next (k + length xs))
  bounds_on some lower s front t [] u y z =
      let Q : List T → Type 0 = λ l. YieldsWithLower steps LowerIs lower s l u in (
        lower,
        subst Q (sym (append-nil front))
            (subst (YieldsWithLower steps LowerIs lower s front) z y),
        λ k. ap lower (omega arith),
      )
  bounds_on some lower s front t (x ∷ xs) u y z =
      let n = some z.0 in
      let r = bounds_on some (bound_before n.0 lower) s (front ++ x ∷ []) z.0 xs u
      (YieldsWithLower-more lower n.0 s front t x z.0 y z.1 n.1) z.2 in
      let Q : List T → Type 0 = λ l. YieldsWithLower steps LowerIs r.0 s l u in
      (r.0, subst Q (append_assoc front (x ∷ []) xs) r.1, λ k. r.2 (suc k) ∙ ap r.0 (omega arith))

  -- the first of the items that came
  Yields-front : (s : S) (front others : List T) (t : S) → Yields steps s (front ++ others) t
      → (u : S) × Yields steps s front u
  Yields-front s [] others t y = (s, refl)
  Yields-front s (x ∷ xs) others t y = let r = Yields-front y.0 xs others t y.2 in
      (r.0, (y.0, y.1, r.1))

  module _ {A : Type 0} (size : ℕ) (iter : S) (alloc : A) (new : Vector T A)
      (made : IsNew size 0 alloc new) (after : S) where
    -- a new vector that was extended, or whose extension failed
    pub CollectResult-made : (v : Vector T A)
        → ExtendResult steps LowerIs size iter new after (Ok tt) v
        → CollectResult steps LowerIs size iter alloc after (Ok v)
    CollectResult-made v e =
        let t = e.appended in let keeps = GrowsInSteps-keeps _ _ _ t.outcome.1.in_steps in
        let all = rw made.items at e.items in
        record {
          items = subst (Drains steps iter) (sym all.2) all.1;
          runs = rw made.items at e.runs;
          made = record {
            taken = t.taken;
            lower = t.lower;
            last = t.last;
            yields = t.yields;
            outcome = (t.outcome.0, new, made, t.outcome.1);
          };
          growth = keeps.0 ∙ made.growth;
          alloc = keeps.1 ∙ made.alloc;
          written = omega (
            arith,
            e.written.0,
            e.written.1,
            made.written,
            made.runs,
            ap length made.items,
          );
          error = tt;
        }

    pub CollectResult-fails : (error : TryReserveError) (stop : Vector T A)
        → ExtendResult steps LowerIs size iter new after (Err error) stop
        → CollectResult steps LowerIs size iter alloc after (Err error)
    CollectResult-fails error stop e =
        let t = e.error in
        record {
          items = tt;
          runs = tt;
          made = tt;
          growth = tt;
          alloc = tt;
          written = tt;
          error = record {
            taken = t.taken;
            lower = t.lower;
            last = t.last;
            yields = t.yields;
            outcome = (t.outcome.0, new, stop, made, t.outcome.1, t.outcome.2);
          };
        }

  module _ {A : Type 0} (size : ℕ) (iter : S) (old : Vector T A) where
    -- an extension, by its two outcomes
    pub ExtendResult-left : (after : S) (r : Result Unit TryReserveError) (new : Vector T A)
        → OnOk r (Takes steps LowerIs iter
        (λ lower xs last. steps last None after × Extends size lower old old.items xs (Ok tt) new))
        → IfErr r (λ e. Takes steps LowerIs iter
        (λ lower xs last. (last ≡ after)
        × (stop : Extends size lower old old.items xs (Err e) new) × (length stop.others ≡ 1)))
        → Writes old (len new - len old) (len new - len old) new
        → ExtendResult steps LowerIs size iter old after r new
    ExtendResult-left after r new room failed writes =
        let ran = on_ok r room
        (λ e. (
          e.taken,
          (
            after,
            (e.last, Yields-with_lower e.lower iter e.taken e.last e.yields, e.outcome.0),
          ),
          Extends-items e.outcome.1,
        )) in
        record {
          items = ran;
          runs = on_ok r ran (whole_run steps iter (λ xs. new.items ≡ old.items ++ xs));
          appended = room;
          written = (writes.written, writes.runs);
          error = failed;
        }

    -- the block of an extension, and the items that it appended
    Extends-has : (lower : ℕ → ℕ) (taken xs : List T) (r : Result Unit TryReserveError)
        (new : Vector T A) → Extends size lower old old.items taken r new → new.items
        ≡ old.items ++ xs
        → (new.written ≡ old.written + (len new - len old))
        × (new.runs ≡ old.runs + (len new - len old)) → HasExtended old xs new
    Extends-has lower taken xs r new x e w =
        grind (arith, GrowsInSteps-keeps, length-append, GrowsInSteps-rises)

    -- an extension in the words of the trait `Extend`
    pub Extends-ran : (after : S) (r : Result Unit TryReserveError) (new : Vector T A)
        → ExtendResult steps LowerIs size iter old after r new
        → (xs : List T) × HasExtended old xs new
        × MatchResult r (λ _. Drains steps iter xs) (λ _. (t : S) × Yields steps iter xs t)
    Extends-ran after (Ok u) new e =
        let t = e.appended in let all = e.items in
        (all.0, Extends-has t.lower t.taken all.0 (Ok tt) new t.outcome.1 all.2 e.written, all.1)
    Extends-ran after (Err f) new e =
        let t = e.error in let x = t.outcome.1 in (
          x.front,
          Extends-has t.lower t.taken x.front (Err f) new x x.items e.written,
          Yields-front iter x.front x.others t.last
              (subst (λ l. Yields steps iter l t.last) x.begins
              (Yields-with_lower t.lower iter t.taken t.last t.yields)),
        )

    -- of what came from iter, which is now s, `front` was placed, and the vector is v
    pub record Placing (s : S) (v : Vector T A) : Type 0 where
      pub front : List T
      pub lower : ℕ → ℕ
      pub yields : YieldsWithLower steps LowerIs lower iter front s
      pub within : len old ≤ old.capacity
      pub in_steps : GrowsInSteps size lower (len old + length front) old v
      pub items : v.items ≡ old.items ++ front
      pub fits : len v ≤ v.capacity
      pub writes : Writes old (length front) (length front) v

    pub Placing-start : (n : ℕ) × LowerIs iter n → len old ≤ old.capacity → Placing iter old
    Placing-start first h =
        let yields : YieldsWithLower steps LowerIs (λ _. first.0) iter [] iter = (first.1, refl) in
        let in_steps : GrowsInSteps size (λ _. first.0) (len old + 0) old old = in_block
        (SameBlock-refl old) in
        search (rules, arith, yields, in_steps, sym (append-nil old.items))

    module _ (s : S) (v : Vector T A) (p : Placing s v) where
      count : len v ≡ len old + length p.front
      count = ap length p.items ∙ length-append old.items p.front

      -- no item is to come
      pub Placing-end : (u : S) → steps s None u
          → ExtendResult steps LowerIs size iter old u (Ok tt) v
      Placing-end u h =
          let all : Extends size p.lower old old.items p.front (Ok tt) v = grind
          (arith, append-nil, count) in
          ExtendResult-left u (Ok tt) v
          (record {
            taken = p.front;
            lower = p.lower;
            last = s;
            yields = p.yields;
            outcome = (h, all);
          }) tt (omega (arith, p.writes.written, p.writes.runs, count))

      -- items came that found free places
      pub Placing-filled : ((s : S) → (n : ℕ) × LowerIs s n) → (left : ℕ) (t : S) (new : Vector T A)
          → Placed steps s v (v.capacity - len v) 0 left t new → Placing t new
      Placing-filled some left t new q =
          let xs : List T = q.comes.added in
          let r = bounds_on some p.lower iter p.front s xs t p.yields q.comes.yields in
          let front : List T = p.front ++ xs in
          let longer : length front ≡ length p.front + length xs = length-append p.front xs in
          let e : new.items ≡ old.items ++ front = ap (λ u. u.items) q.becomes
          ∙ ap (λ ys. ys ++ xs) p.items ∙ append_assoc old.items p.front xs in
          let steps : GrowsInSteps size r.0 (len old + length front) old new =
          GrowsInSteps-same size r.0 (len old + length front)
          (GrowsInSteps-counted size p.lower r.0 (len old + length p.front) (length xs)
          (len old + length front) (SameBlock-refl old) (omega (arith, longer))
          (λ k _. r.2 k) p.in_steps) (SameBlock-becomes _ _ _ _ _ q.becomes) in
          grind (arith, r.1, steps, e, longer, count, q.comes.count, ap (λ u. u.capacity) q.becomes)

      -- until no place was left
      pub Placing-full : ((s : S) → (n : ℕ) × LowerIs s n) → (left : ℕ) (t : S) (new : Vector T A)
          → left ≡ 0 → FillsGap steps s v (v.capacity - len v) 0 left t new
          → Placing t new × (len new ≡ new.capacity) × (len new ≡ v.capacity)
      Placing-full some left t new e f =
          let q = f.placed in
          let long : len new ≡ v.capacity = omega (
            arith,
            e,
            ap len q.becomes,
            length-append v.items q.comes.added,
            q.comes.count,
            p.fits,
          ) in (
            rw (f.stops.full e) (Placing-filled some left f.last new q),
            long
                ∙ sym (ap (λ u. u.capacity) q.becomes),
            long,
          )

      -- v is full, and one more item x came, after which the bound is n
      module _ (full : len v ≡ v.capacity) (x : T) (t : S) (step : steps s (Some x) t) (n : ℕ)
          (tells : LowerIs t n) where
        abbrev next_front : List T
        next_front = p.front ++ x ∷ []

        abbrev next_lower : ℕ → ℕ
        next_lower = bound_before n p.lower

        longer : length next_front ≡ length p.front + 1
        longer = length-append p.front (x ∷ [])

        grown_in_steps : GrowsInSteps size next_lower (len old + length next_front) old v
        grown_in_steps = GrowsInSteps-counted size p.lower next_lower (len old + length p.front) 1
            (len old + length next_front) (SameBlock-refl old) (omega (arith, longer))
            (λ k _. ap next_lower {x = suc k} (omega arith)) p.in_steps

        -- it is placed in w, which v has grown to
        pub Placing-grown : (k : ℕ) → k ≡ min (n + 1) usize_max → (w new : Vector T A)
            → Becomes (with_room size v (len v) k) v.items 0 0 w
            → Becomes w (w.items ++ x ∷ []) 1 1 new → Placing t new
        Placing-grown k e w new made put =
            grind (
              arith,
              GrowsTo-becomes,
              Writes-grown,
              MakesRoom-fits,
              MakesRoom-rises,
              GrowsInSteps-more,
              grown_in_steps,
              append_assoc,
              YieldsWithLower-more,
              GrowsInSteps-same,
              SameBlock-becomes,
              length-append,
            )

        -- or the growth for it failed, where more may have come from the start on than were placed
        pub Placing-fails : (k : ℕ) → k ≡ min (n + 1) usize_max → (error : TryReserveError)
            → LacksRoom size v k error → ExtendResult steps LowerIs size iter old t (Err error) v
        Placing-fails k e error lacks =
            let begins : next_front ≡ p.front ++ (x ∷ []) = refl in
            let stop : Extends size next_lower old old.items next_front (Err error) v = grind
            (arith, begins, grown_in_steps, full, count) in
            ExtendResult-left t (Err error) v tt
            (record {
              taken = next_front;
              lower = next_lower;
              last = t;
              yields = YieldsWithLower-more p.lower n iter p.front s x t p.yields step tells;
              outcome = (refl, stop, refl);
            })
            (omega (arith, p.writes.written, p.writes.runs, count))

        -- which says that not all had room that may have come from the start on, if there were more
        -- than were placed
        pub Placing-misfits : (all : ℕ) → len v < len old + all → ¬ (HasRoom old all)
        Placing-misfits all more h =
            omega (
              arith,
              h,
              full,
              more,
              GrowsInSteps-rises size p.lower (len old + length p.front) p.in_steps,
            )

module _ {S T : Type 0} (steps : S → Option (Bor T) → S → Type 0) where
  -- the references that were yielded
  Yields-read : (s : S) (xs : List T) (t : S) → Yields (YieldsCopies steps) s xs t
      → (rs : List (Bor T)) × Yields steps s rs t × (xs ≡ map (λ r. r.now) rs)
  Yields-read s [] t y = ([], y, refl)
  Yields-read s (x ∷ xs) t y =
      let others = Yields-read y.0 xs t y.2 in (
        y.1.0 ∷ others.0,
        (y.0, y.1.1, others.1),
        ap (λ z. z ∷ xs) y.1.2
            ∙ ap (λ zs. y.1.0.now ∷ zs) others.2,
      )

  pub Drains-read : (s : S) (xs ys : List T) → (zs : List T) × Drains (YieldsCopies steps) s zs
      × (ys ≡ xs ++ zs) → (rs : List (Bor T)) × Drains steps s rs × (ys ≡ xs ++ map (λ r. r.now) rs)
  Drains-read s xs ys d = grind (arith, Yields-read)

  -- an extension by copies, in the words of the trait `Extend`
  pub Extends-read : {A : Type 0} (LowerIs : S → ℕ → Type 0) (size : ℕ) (iter : S)
      (old : Vector T A) (after : S) (r : Result Unit TryReserveError) (new : Vector T A)
      → ExtendResult (YieldsCopies steps) LowerIs size iter old after r new
      → (rs : List (Bor T)) × HasExtended old (map (λ x. x.now) rs) new
      × MatchResult r (λ _. Drains steps iter rs) (λ _. (t : S) × Yields steps iter rs t)
  Extends-read LowerIs size iter old after (Ok u) new e =
      let ran = Extends-ran (YieldsCopies steps) LowerIs size iter old after (Ok u) new e in
      let d : Drains (YieldsCopies steps) iter ran.0 = ran.2 in
      let y = Yields-read iter ran.0 d.1.0 d.1.1 in
      (y.0, subst (λ xs. HasExtended old xs new) y.2 ran.1, (d.0, (d.1.0, y.1, d.1.2)))
  Extends-read LowerIs size iter old after (Err f) new e =
      let ran = Extends-ran (YieldsCopies steps) LowerIs size iter old after (Err f) new e in
      let d : (t : S) × Yields (YieldsCopies steps) iter ran.0 t = ran.2 in
      let y = Yields-read iter ran.0 d.0 d.1 in
      (y.0, subst (λ xs. HasExtended old xs new) y.2 ran.1, (d.0, y.1))
