-- A gap before the tail of a vector: how it is made, and how items are put into it.
use Rattle.aa_vec.proofs.Common.{◌≡◌, ℕ, ◌+◌, ◌-◌, ◌<◌, ◌≤◌, List, [], ◌∷◌, ◌++◌, length, drop, Option, Some, None, refl, sym, ap, ◌∙◌, subst, arith, length-append, length-take, if◌then◌else◌, ◌==◌, Yields, append-nil, drop-drop, with_written, IsRun, run, moved, length-moved, length-run, IsRun-long, IsRun-same, run-moved, run-moved-below, Vector, len, Becomes, with_room, view_of, IsFront, HasTail, SetsTail, ClosesGap, Placed, FillsGap, FillsAndCloses, Inside, OpensGap, nat_tests, YieldsForGap, vector_in}
use Rattle.aa_vec.proofs.Becoming.{Becomes-more, Becomes-refl, GrowsTo-becomes}
use Rattle.aa_vec.proofs.GrowthLemmas.{MakesRoom-has}
use Rattle.aa_vec.proofs.TailLemmas.{still_tail, still_are}
use Rattle.aa_vec.proofs.Gaps.{run-of_drop, IsRun-to_drop, there}

-- items that were returned after others
module _ {S T : Type 0} (steps : S → Option T → S → Type 0) where
  pub Yields-join : (s : S) (xs : List T) (t : S) (ys : List T) (u : S) → Yields steps s xs t
      → Yields steps t ys u → Yields steps s (xs ++ ys) u
  Yields-join s [] t ys u y z = subst (λ k. Yields steps k ys u) (sym y) z
  Yields-join s (x ∷ xs) t ys u y z = (y.0, y.1, Yields-join y.0 xs t ys u y.2 z)

  module _ {A : Type 0} (s : S) (old : Vector T A) (gap n : ℕ) where
    pub Placed-start : HasTail old gap n → Placed steps s old gap n gap s old
    Placed-start has_tail =
        let comes : YieldsForGap steps s gap gap s =
        record { added = []; yields = refl; count = omega arith } in
        record {
          comes = comes;
          becomes = rw (append-nil old.items) (Becomes-refl old);
          has_tail = has_tail;
          elements = refl;
        }

    module _ (left : ℕ) (t : S) (v : Vector T A) (p : Placed steps s old gap n left t v) where
      -- one more was returned
      pub Placed-put : 0 < left → (x : T) (u : S) → steps t (Some x) u → (w : Vector T A)
          → Becomes v (v.items ++ x ∷ []) 1 1 w → w.spare ≡ drop 1 v.spare
          → Placed steps s old gap n (left - 1) u w
      Placed-put h x u step w put spare =
          let added : List T = p.comes.added in
          let longer : length (added ++ x ∷ []) ≡ length added + 1 = length-append added (x ∷ []) in
          let same : drop (left - 1) w.spare ≡ drop left v.spare = ap (drop (left - 1)) spare
          ∙ drop-drop (left - 1) 1 v.spare ∙ ap (λ i. drop i v.spare) (omega (arith, h)) in
          record {
            comes = record {
              added = added ++ x ∷ [];
              yields = Yields-join s added t (x ∷ []) u p.comes.yields (u, step, refl);
              count = omega (arith, longer, p.comes.count, h);
            };
            becomes = Becomes-more old v w added (x ∷ []) _ _ 1 1 _ _ p.becomes put (sym longer)
                (sym longer);
            has_tail = still_tail v w left (left - 1) n p.has_tail
                (omega (
                  arith,
                  p.has_tail.0,
                  ap len put,
                  length-append v.items (x ∷ []),
                  ap (λ u. u.capacity) put,
                  h,
                )) same;
            elements = still_are v w left (left - 1) n same ∙ p.elements;
          }

      -- no item remains
      pub Placed-ended : 0 < left → (u : S) → steps t None u → FillsGap steps s old gap n left u v
      Placed-ended h u step =
          record {
            last = t;
            placed = p;
            stops = record { full = λ e. absurd (omega (arith, h, e)); ended = λ _. step };
          }

    -- a gap that was filled is closed
    pub FillsAndCloses-gap : (left : ℕ) (t : S) (v w : Vector T A)
        → FillsGap steps s old gap n left t v → ClosesGap v left n w
        → FillsAndCloses steps s old gap n left t w
    FillsAndCloses-gap left t v w f c =
        let p = f.placed in
        record {
          last = f.last;
          comes = p.comes;
          stops = f.stops;
          becomes =
              rw (← p.elements)
              (Becomes-more old v w p.comes.added _ _ _ _ _ _ _ p.becomes c.becomes refl refl);
        }

-- the places of a block whose tail was moved up
module _ {T A : Type 0} (v : Inside T A) (front : IsFront v) (gap n : ℕ)
    (has_tail : HasTail (view_of v) 0 n) (room : len (view_of v) + gap + n ≤ length v.block.places)
  where
    pub fits : v.len + gap + n ≤ length v.block.places
    fits = grind (arith, length-run)

    pub run_there : IsRun v.block.places v.len n
    run_there = let P : ℕ → Type 0 = λ i. IsRun v.block.places i n in
        subst P (omega arith) (there v front 0 n has_tail)

    abbrev pub raised : List (Option T)
    raised = moved v.block.places v.len (v.len + gap) n

    long : length raised ≡ length v.block.places
    long = length-moved v.block.places v.len (v.len + gap) n run_there.0 fits

    same-front : run raised 0 v.len ≡ run v.block.places 0 v.len
    same-front = run-moved-below v.block.places v.len (v.len + gap) n 0 v.len run_there.0 fits
        (omega arith) (omega arith)

    same-elements : run raised (v.len + gap) n ≡ run v.block.places v.len n
    same-elements = run-moved v.block.places v.len (v.len + gap) n run_there fits

    pub IsFront-raised : IsRun raised 0 v.len
    IsFront-raised = IsRun-same v.block.places raised 0 v.len long same-front front

    pub OpensGap-view : OpensGap (view_of v) gap n
        (vector_in (with_written v.block raised (if v.len == v.len + gap then 0 else n)) v.len)
    OpensGap-view = grind (
      arith,
      nat_tests,
      drop-drop,
      IsRun-long,
      same-elements,
      length-run,
      run_there,
      long,
      fits,
      same-front,
      run-of_drop,
      IsRun-to_drop,
    )

-- capacity is reserved, the last n items are set apart as the tail, and moved up
module _ {T A : Type 0} (size : ℕ) (old w x : Vector T A) (gap n : ℕ) (few : n ≤ len old)
    (g : Becomes (with_room size old (len old) gap) old.items 0 0 w) (k : ℕ) (e : k ≡ len w)
    (sets : SetsTail w (k - n) x) where
  pub widen_room : len x + gap + n ≤ x.capacity
  widen_room = grind (arith, MakesRoom-has, GrowsTo-becomes, length-take)

-- a gap, as it is opened and filled
pub ruleset gaps = (Placed-ended, widen_room)
