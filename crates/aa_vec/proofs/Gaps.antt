-- The tail of a vector, and the gap before it, as the places of its block.
use Rattle.aa_vec.proofs.Common.{Block, HasTail, Inside, IsFilled, IsFront, IsRun, IsRun-long, IsRun-part, IsRun-set-above, IsRun-with-below, LeavesInTail, List, None, Option, Some, Vector, [], ap, arith, cut-long, drop, drop-append-le, drop-drop, drop-map, drop-set, drop-set-add, drop-set-lt, drop-take, drop-with, drop_at, first-filled, get_or, if◌then◌else◌, len, length, length-append, length-drop, length-map, length-moved, length-replicate, length-run, length-set, length-take, length-take-le, length-with_run, length_refill, map, moved, moved_one, nat_tests, refill, refl, replicate, run, run-drop, run-filled, run-is, run-moved, run-moved-below, run-one, run-push, run-set-above, run-split, run-take, run-with-below, slice_set, subst, sym, tail_items, take, take-append-drop, take_at, vector_in, view_of, with_moved, with_places, with_run, with_written, ℕ, ◌++◌, ◌+◌, ◌-◌, ◌<◌, ◌==◌, ◌∙◌, ◌∷◌, ◌≡◌, ◌≤◌}

-- if the places above two places are the same, so are the places as far above them
pub further : {Y : Type 0} (ds es : List Y) (a b c d : ℕ) → a ≤ c → c + b ≡ d + a → drop a ds
    ≡ drop b es → drop c ds ≡ drop d es
further ds es a b c d h h' e = grind (arith, drop-drop (c - a) a ds, drop-drop (c - a) b es)

module _ {X : Type 0} where
  -- a run of places, and the same one of the places from one on
  pub run-of_drop : (cs : List (Option X)) (a n : ℕ) → run (drop a cs) 0 n ≡ run cs a n
  unfolding run
  run-of_drop cs a n = refl

  pub IsRun-of_drop : (cs : List (Option X)) (a n : ℕ) → a + n ≤ length cs → IsRun (drop a cs) 0 n
      → IsRun cs a n
  IsRun-of_drop cs a n h r = (h, r.1)

  pub IsRun-to_drop : (cs : List (Option X)) (a n : ℕ) → IsRun cs a n → IsRun (drop a cs) 0 n
  IsRun-to_drop cs a n r = (omega (arith, length-drop a cs, r.0), r.1)

  -- the last of a run, as the places from there on
  pub run-back : (cs : List (Option X)) (a n : ℕ) → IsRun cs 0 n → a ≤ n → drop a (run cs 0 n)
      ≡ run (drop a cs) 0 (n - a)
  run-back cs a n r h = run-drop cs 0 a a n (n - a) (omega arith) (omega (arith, h)) r
      ∙ sym (run-of_drop cs a (n - a))

  pub IsRun-back : (cs : List (Option X)) (a n : ℕ) → IsRun cs 0 n → a ≤ n
      → IsRun (drop a cs) 0 (n - a)
  IsRun-back cs a n r h =
      IsRun-to_drop cs a (n - a) (IsRun-part cs 0 n a (n - a) (omega arith) (omega (arith, h)) r)

  pub IsRun-front : (cs : List (Option X)) (a n : ℕ) → IsRun cs 0 n → a ≤ n → IsRun cs 0 a
  IsRun-front cs a n r h = IsRun-part cs 0 n 0 a (omega arith) (omega (arith, h)) r

  pub drop-set_apart : (cs : List (Option X)) (a n : ℕ) → IsRun cs 0 n → a ≤ n → drop a cs
      ≡ map Some (drop a (run cs 0 n)) ++ drop n cs
  drop-set_apart cs a n r h =
      let some : X → Option X = λ x. Some x in let all : List X = run cs 0 n in
      cc (
        take-append-drop n cs,
        run-filled cs 0 n r,
        drop-append-le a (map some all) (drop n cs)
            (omega (arith, h, length-map all some, length-run cs 0 n r)),
        drop-map some a all,
      )

  -- the places above a run that was moved down are unchanged
  pub drop-moved : (cs : List (Option X)) (from to n : ℕ) → to ≤ from → from + n ≤ length cs
      → drop (from + n) (moved cs from to n) ≡ drop (from + n) cs
  unfolding moved with_run
  drop-moved cs from to n h l =
      let none = with_run cs from n (replicate n None) in
      let room : to + n
      ≤ length none = omega
      (arith, length-with_run cs from n (replicate n None) l (length-replicate n None)) in
      further (moved cs from to n) none (to + n) (to + n) (from + n) (from + n) (omega arith) refl
      (drop-with none to n (take n (drop from cs)) room (cut-long cs from n l))
      ∙ drop-with cs from n (replicate n None) l (length-replicate n None)

-- a move over a gap writes nothing where there is no gap
pub over_gap : (l gap n : ℕ) → (if l + gap == l then 0 else n) ≡ (if gap == 0 then 0 else n)
over_gap l gap n = grind arith

-- a value that was taken and put was moved
pub moved-by_one : {X A : Type 0} (b : Block X A) (l gap : ℕ) {mid new : Block X A} {x : X}
    → 0 < gap → l + gap < length b.places → get_or b.places (l + gap) None ≡ Some x → mid
    ≡ with_places b (slice_set b.places (l + gap) None) → new
    ≡ with_written mid (slice_set mid.places l (Some x)) 1 → new ≡ with_moved b (l + gap) l 1
moved-by_one b l gap some within is taken put = grind (arith, nat_tests, moved_one, taken, put, is)

-- places after a run was moved down over a gap to the l before it
module _ {X : Type 0} (cs : List (Option X)) (l gap n : ℕ)
    (has_tail : IsRun (drop gap (drop l cs)) 0 n) (fits : l + gap + n ≤ length cs) where
  pub run-closed : run (moved cs (l + gap) l n) 0 (l + n) ≡ run cs 0 l
      ++ run (drop gap (drop l cs)) 0 n
  run-closed =
      let there : IsRun cs (l + gap) n = IsRun-of_drop cs (l + gap) n fits
      (subst (λ ds. IsRun ds 0 n) (drop-drop gap l cs) has_tail) in
      grind (
        arith,
        run-split (moved cs (l + gap) l n) 0 l l n (l + n) (omega arith) refl,
        run-moved-below cs (l + gap) l n 0 l fits (omega (arith, fits)) (omega arith)
            (omega arith),
        run-moved cs (l + gap) l n there (omega (arith, fits)),
        drop-drop gap l cs,
        run-of_drop cs (l + gap) n,
      )

  pub drop-closed : drop gap (drop (l + n) (moved cs (l + gap) l n)) ≡ drop n (drop gap (drop l cs))
  drop-closed = grind (arith, drop-drop, drop-moved cs (l + gap) l n (omega arith) fits)

  pub IsRun-closed : IsRun cs 0 l → IsRun (moved cs (l + gap) l n) 0 (l + n)
  IsRun-closed front =
      IsRun-long (moved cs (l + gap) l n) 0 (l + n)
      (omega (
        arith,
        ap length run-closed,
        length-append {A = X},
        length-run cs 0 l front,
        length-run (drop gap (drop l cs)) 0 n has_tail,
      ))
      (omega (arith, fits, length-moved cs (l + gap) l n fits (omega (arith, fits))))

-- other places instead of a run, over a gap after the first l
pub drop-laid : {X : Type 0} (cs es : List (Option X)) (l gap n : ℕ) → l + gap + n ≤ length cs
    → drop gap (drop l (with_run cs (l + gap) n es)) ≡ es ++ drop n (drop gap (drop l cs))
unfolding with_run
drop-laid cs es l gap n h =
    grind (
      arith,
      drop-drop,
      drop_at (take (l + gap) cs) (es ++ drop (l + gap + n) cs) (l + gap)
          (length-take-le (l + gap) cs (omega (arith, h))),
    )

-- and below them the same places
pub take-laid : {X : Type 0} (cs es : List (Option X)) (l gap n : ℕ) → l + gap + n ≤ length cs
    → take gap (drop l (with_run cs (l + gap) n es)) ≡ take gap (drop l cs)
unfolding with_run
take-laid cs es l gap n h =
    let long = length-take-le (l + gap) cs (omega (arith, h)) in
    let few = length-take-le gap (drop l cs) (omega (arith, h, length-drop l cs)) in
    grind (
      arith,
      drop-append-le l (take (l + gap) cs) (es ++ drop (l + gap + n) cs)
          (omega (arith, long)),
      drop-take l gap cs,
      take_at (take gap (drop l cs)) (es ++ drop (l + gap + n) cs) gap few,
    )

pub IsRun-cleared : {X : Type 0} (cs : List (Option X)) (l gap n : ℕ) → IsRun cs 0 l → l + gap + n
    ≤ length cs → IsRun (with_run cs (l + gap) n (replicate n None)) 0 l
IsRun-cleared cs l gap n r h = IsRun-with-below cs (l + gap) n (replicate n None) 0 l h
    (length-replicate n None) (omega arith) r

-- the tail of the view of a vector
pub seen : {T A : Type 0} (v : Inside T A) (w : Vector T A) → view_of v ≡ w → (gap n : ℕ)
    → HasTail w gap n → HasTail (view_of v) gap n
seen v w is gap n has_tail = subst (λ u. HasTail u gap n) (sym is) has_tail

module _ {T A : Type 0} (v : Inside T A) (front : IsFront v) where
  module _ (gap n : ℕ) (has_tail : HasTail (view_of v) gap n) where
    pub within : v.len + gap + n ≤ length v.block.places
    within = omega (arith, has_tail.0, length-run v.block.places 0 v.len front)

    -- the elements of the tail are a run of the block
    pub there : IsRun v.block.places (v.len + gap) n
    there =
        IsRun-of_drop v.block.places (v.len + gap) n within
        (subst (λ ds. IsRun ds 0 n) (drop-drop gap v.len v.block.places) has_tail.1)

    pub elements : tail_items (view_of v) gap n ≡ run v.block.places (v.len + gap) n
    elements = ap (λ ds. run ds 0 n) (drop-drop gap v.len v.block.places)
        ∙ run-of_drop v.block.places (v.len + gap) n

  -- one of them is taken
  module _ (gap : ℕ) (has_tail : HasTail (view_of v) gap 1) where
    pub filled : IsFilled v.block.places (v.len + gap)
    filled = first-filled v.block.places (v.len + gap) 1 (there gap 1 has_tail) (omega arith)

    pub taken-value : (x : T) → get_or v.block.places (v.len + gap) None ≡ Some x
        → tail_items (view_of v) gap 1 ≡ x ∷ []
    taken-value x e = elements gap 1 has_tail
        ∙ run-one v.block.places (v.len + gap) x (omega (arith, within gap 1 has_tail)) e

-- the last item, and an element after the gap
module _ {T A : Type 0} (v : Inside T A) (front : IsFront v) (some : 0 < v.len) (gap : ℕ)
    (has_tail : HasTail (view_of v) gap 1) where
  abbrev pub before : List T
  before = run v.block.places 0 (v.len - 1)

  pub last-filled : IsFilled v.block.places (v.len - 1)
  last-filled = first-filled v.block.places (v.len - 1) 1
      (IsRun-part v.block.places 0 v.len (v.len - 1) 1 (omega arith) (omega arith) front)
      (omega arith)

  pub last-item : (l : T) → get_or v.block.places (v.len - 1) None ≡ Some l → (view_of v).items
      ≡ before ++ l ∷ []
  last-item l e =
      run-split v.block.places 0 (v.len - 1) (v.len - 1) 1 v.len (omega arith) (omega arith)
      ∙ ap (λ xs. before ++ xs)
      (run-one v.block.places (v.len - 1) l (omega (arith, front.0)) e)

  -- both written anew
  module _ (m y : T) where
    abbrev pub rewritten : List (Option T)
    rewritten = slice_set (slice_set v.block.places (v.len + gap) (Some y)) (v.len - 1) (Some m)

    inside : v.len + gap < length v.block.places
    inside = omega (arith, within v front gap 1 has_tail)

    pub run-rewritten : run rewritten 0 v.len ≡ before ++ m ∷ []
    run-rewritten =
        run-push (slice_set v.block.places (v.len + gap) (Some y)) 0 (v.len - 1) m (v.len - 1) v.len
        (omega arith) (omega arith)
        (omega (arith, inside, length-set v.block.places (v.len + gap) (Some y)))
        ∙ ap (λ xs. xs ++ m ∷ [])
        (run-set-above v.block.places 0 (v.len - 1) (v.len + gap) (Some y) inside (omega arith))

    pub drop-rewritten : drop gap (drop v.len rewritten)
        ≡ Some y ∷ drop 1 (drop gap (drop v.len v.block.places))
    drop-rewritten =
        let b = v.block.places in
        cc (
          drop-drop gap v.len rewritten,
          drop-set-lt (v.len + gap) (slice_set b (v.len + gap) (Some y)) (v.len - 1) (Some m)
              (omega arith),
          drop-set b (v.len + gap) (Some y) inside,
          drop-drop 1 (v.len + gap) b,
          drop-drop gap v.len b,
        )

-- the n elements after the gap, as the call that borrowed them left them
module _ {T A : Type 0} (v : Inside T A) (front : IsFront v) (gap n : ℕ)
    (has_tail : HasTail (view_of v) gap n) (xs ws : List T)
    (shown : take n (drop (v.len + gap) v.block.places) ≡ map Some xs) where
  -- what was borrowed
  pub borrowed-is : tail_items (view_of v) gap n ≡ xs
  borrowed-is = elements v front gap n has_tail ∙ run-is v.block.places (v.len + gap) n xs shown

  count-borrowed : n ≡ length xs
  count-borrowed = sym (length-run v.block.places (v.len + gap) n (there v front gap n has_tail))
      ∙ ap length (run-is v.block.places (v.len + gap) n xs shown)

  abbrev pub restored : List (Option T)
  restored = with_run v.block.places (v.len + gap) n (map Some (refill n xs ws))

  pub full : length (map (λ (x : T). Some x) (refill n xs ws)) ≡ n
  full = length-map (refill n xs ws) (λ (x : T). Some x)
      ∙ sym (length_refill n xs ws count-borrowed)

  pub IsFront-restored : IsRun restored 0 v.len
  IsFront-restored = IsRun-with-below v.block.places (v.len + gap) n
      (map Some (refill n xs ws)) 0 v.len (within v front gap n has_tail) full (omega arith) front

  -- as many were left as were borrowed
  pub refilled : length ws ≡ length xs → refill n xs ws ≡ ws
  refilled e = take_at ws (drop (length ws) xs) n (omega (arith, e, count-borrowed))

  pub LeavesInTail-view : LeavesInTail (view_of v) gap n (refill n xs ws)
      (vector_in (with_places v.block restored) v.len)
  LeavesInTail-view =
      let room : v.len + gap + n ≤ length v.block.places = within v front gap n has_tail in
      record {
        same = λ i. record
            (view_of v) {
              items = run-with-below v.block.places (v.len + gap) n
                  (map Some (refill n xs ws)) 0 v.len room (omega arith) i;
              capacity =
                  length-with_run v.block.places (v.len + gap) n (map Some (refill n xs ws)) room full i;
              spare = drop v.len restored;
            };
        below = take-laid v.block.places (map Some (refill n xs ws)) v.len gap n room;
        spare = drop-laid v.block.places (map Some (refill n xs ws)) v.len gap n room;
      }

-- places after the items, as those of the block
pub ruleset spare = (run-of_drop, IsRun-to_drop, drop-moved, over_gap, drop-drop, drop-set-lt)

-- a gap that was closed
pub ruleset closed =
    (run-closed, drop-closed, IsRun-closed, over_gap, length-moved, length-run, drop-drop)

-- elements that were set apart as the tail
pub ruleset set_apart = (
  drop-set_apart,
  length-drop,
  length-take,
  run-back,
  IsRun-back,
  IsRun-front,
  run-take,
  length-run,
)

-- an element that was taken
pub ruleset emptied = (
  run-one,
  run-set-above,
  length-set,
  drop-set-add,
  drop-drop,
  first-filled,
  run-of_drop,
  length-run,
  IsRun-set-above,
)

-- elements that are borrowed
pub ruleset borrowed = (run-is, drop-drop, run-of_drop, length-run)

-- elements that were dropped
pub ruleset cleared = (
  drop-laid,
  drop-drop,
  run-with-below,
  IsRun-cleared,
  length-with_run,
  length-replicate,
  length-run,
)

-- an element after the gap for which a closure is called with the last item
pub ruleset beside = (seen, filled, last-filled, length-run)
