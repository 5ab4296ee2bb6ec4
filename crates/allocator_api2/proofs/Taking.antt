-- Items taken out of a drain, one after the other, and appended to another vector.
use Rattle.allocator_api2.proofs.Common.{Bool, Closes, Drained, HasRoom, Holds, Holds-more, KeepsRest, List, SameBlock, SameBlock-becomes, SameBlock-refl, SameBlock-trans, Some, TakesBack, TakesFront, TakesRange, Vector, [], ap, append-nil, append_assoc, arith, drain_remaining, drain_tail, drain_vec, drained_of, drains_first, drains_last, drop, drop-drop, drop_all, drop_at, ends_at, false, len, length, length-append, length-drop, length-reverse, length-take, nat_tests, refl, reverse, reverse-append, slice_range, sym, take, take-append-drop, take-take, take_all, take_at, true, ℕ, ◌++◌, ◌+◌, ◌-◌, ◌<◌, ◌∙◌, ◌∷◌, ◌≡◌, ◌≤◌}
use Rattle.aa_vec.specs.declared.vec.drain.Drain.{Drain}
use Rattle.std.proofs.Math.Seq.{take-add}
use Rattle.aa_vec.proofs.DrainLemmas.{keeps-same, keeps-then}

module _ {T A : Type 0} (d : Drain T A) (side : Vector T A) where
  abbrev all : List T
  all = drain_remaining d

  pub TakesFront-none : TakesFront d side 0 d side
  TakesFront-none =
      record {
        keeps = keeps-same d;
        rest = refl;
        front = omega arith;
        back = refl;
        holds = record { items = sym (append-nil side.items); block = SameBlock-refl side };
      }

  pub TakesFront-more : (k : ℕ) (e f : Drain T A) (s t : Vector T A) (x : T)
      → TakesFront d side k e s → drains_first e (Some x) f → Holds s (s.items ++ x ∷ []) t
      → TakesFront d side (k + 1) f t
  TakesFront-more k e f s t x h n p =
      let here : drop k all ≡ x ∷ drain_remaining f = sym h.rest ∙ n.1.0 in
      let more : take (k + 1) all ≡ take k all ++ x ∷ [] = take-add k 1 all
      ∙ ap (λ l. take k all ++ take 1 l) here in
      let held : Holds side (side.items ++ take (k + 1) all) t = rw more
      (Holds-more side s t (take k all) (x ∷ []) h.holds p) in
      grind (arith, keeps-then d e f h.keeps n.0, here, drop-drop 1 k all, held)

  -- and there is spare capacity for one more
  pub TakesFront-room : (k n : ℕ) (e : Drain T A) (s : Vector T A) → TakesFront d side k e s → k < n
      → HasRoom side n → HasRoom s 1
  TakesFront-room k n e s h less room =
      omega (
        arith,
        ap length h.holds.items,
        length-append side.items (take k all),
        length-take k all,
        h.holds.block.capacity,
        room,
        less,
      )

  pub TakesBack-none : TakesBack d side 0 d side
  TakesBack-none = grind (arith, keeps-same d, take_all, drop_all, append-nil, SameBlock-refl)

  -- the last of those that are left is taken
  last_taken : (k : ℕ) (xs : List T) (x : T) → k < length all → take (length all - k) all
      ≡ xs ++ x ∷ []
      → (xs ≡ take (length all - (k + 1)) all)
      × (drop (length all - (k + 1)) all ≡ x ∷ drop (length all - k) all)
  last_taken k xs x less here =
      let a : ℕ = length all - k in
      grind (
        arith,
        take-append-drop a all,
        length-append xs (x ∷ []),
        length-take a all,
        take-take,
        take_at,
        drop_at,
        append_assoc,
      )

  pub TakesBack-more : (k : ℕ) (e f : Drain T A) (s t : Vector T A) (x : T) → k < length all
      → TakesBack d side k e s → drains_last e (Some x) f → Holds s (s.items ++ x ∷ []) t
      → TakesBack d side (k + 1) f t
  TakesBack-more k e f s t x less h n p =
      let a : ℕ = length all - k in let b : ℕ = length all - (k + 1) in
      let parts = last_taken k (drain_remaining f) x less (sym h.rest ∙ n.1.0) in
      let turned : reverse (drop b all) ≡ reverse (drop a all) ++ x ∷ [] = ap reverse parts.1
      ∙ reverse-append (x ∷ []) (drop a all) in
      let held : Holds side (side.items ++ reverse (drop b all)) t = rw turned
      (Holds-more side s t (reverse (drop a all)) (x ∷ []) h.holds p) in
      search (arith, keeps-then d e f h.keeps n.0, parts.0, n.1.1 ∙ h.front, n.1.2, h.back, held)

  pub TakesBack-room : (k n : ℕ) (e : Drain T A) (s : Vector T A) → TakesBack d side k e s → k < n
      → HasRoom side n → HasRoom s 1
  TakesBack-room k n e s h less room =
      grind (arith, h.holds, length-append, length-reverse, length-drop)

-- what a loop over a drain needs
pub ruleset takes = (TakesFront-none, TakesFront-room, TakesBack-none, TakesBack-room)

-- a range is taken out of `old`, f and b of it from either end appended to `side`, and then it is
-- closed
module _ {T A : Type 0} (old side : Vector T A) (start end f b : ℕ) (ordered : start ≤ end)
    (within : end ≤ len old) (few : f + b ≤ end - start)
    (d0 d1 d2 : Drain T A) (s1 s2 : Vector T A) (drains : TakesRange old start end d0)
    (fronts : TakesFront d0 side f d1 s1) (backs : TakesBack d1 s1 b d2 s2) where
  count_middle : length (slice_range old.items start end) ≡ end - start
  count_middle = omega (
    arith,
    length-take (end - start) (drop start old.items),
    length-drop start old.items,
    ordered,
    within,
  )

  rest_back : drain_remaining d2 ≡ slice_range (slice_range old.items start end) f (end - start - b)
  rest_back = grind (arith, fronts.rest, drains.rest, count_middle, backs.rest, length-drop)

  side_gave : Holds side (side.items ++ drained_of old.items (ends_at start end f b)) s2
  side_gave =
      let all_moved = Holds-more side s1 s2 _ _ fronts.holds backs.holds in
      grind (arith, all_moved, fronts.rest, drains.rest, count_middle, length-drop, drop-drop)

  -- what is before the range and after it is kept
  stays : ((drain_vec d2).items ≡ take start old.items) × (drain_tail d2 ≡ drop end old.items)
      × SameBlock old (drain_vec d2) × ((drain_vec d2).written ≡ old.written)
  stays = grind (arith, keeps-then, drains.becomes, drains.tail, SameBlock-trans, SameBlock-becomes)

  pub Drained-dropped : {k : Bool} (w : Vector T A) → Closes d2 w → k ≡ false
      → Drained old side (ends_at start end f b) k w s2
  Drained-dropped w c is =
      grind (
        arith,
        stays,
        side_gave,
        nat_tests,
        length-drop end old.items,
        SameBlock-trans,
        SameBlock-becomes,
      )

  pub Drained-kept : {k : Bool} (w : Vector T A) → KeepsRest d2 w → k ≡ true
      → Drained old side (ends_at start end f b) k w s2
  Drained-kept w c is =
      grind (
        arith,
        stays,
        side_gave,
        rest_back,
        count_middle,
        nat_tests,
        length-drop,
        length-take,
        SameBlock-trans,
        SameBlock-becomes,
      )
