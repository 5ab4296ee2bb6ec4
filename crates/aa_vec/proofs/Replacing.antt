-- Items inserted before the last ones of a vector, with capacity reserved for the lower bound, and
-- then for the others.
use Rattle.aa_vec.proofs.Common.{◌≡◌, ℕ, ◌+◌, ◌-◌, ◌<◌, ◌≤◌, List, [], ◌∷◌, ◌++◌, length, take, drop, Option, Some, None, append_assoc, refl, sym, ap, ◌∙◌, subst, arith, inl, inr, length-append, length-drop, length-take, Result, Ok, Err, IfErr, OnOk, Count, Yields, count_of, take-append-drop, take_at, drop_at, nat_tests, TryReserveError, Vector, len, Becomes, with_room, LacksRoom, run_count, moved_over, ClosesGap, tail_items, tail_moves, WidensGap, FillsAndCloses, Collects, PutsAll, Puts, PutsFront, PutsRest, LacksRest, PutsWithin}
use Rattle.aa_vec.proofs.Closed.{moved_none, moved_some, moved_most, one_run}
use Rattle.aa_vec.proofs.Becoming.{Becomes-at, SameBlock-becomes}
use Rattle.aa_vec.proofs.GrowthLemmas.{MakesRoom, MakesRoom-same, with_room-fits, SameBlock-refl}
use Rattle.aa_vec.proofs.TailLemmas.{still_are, still_tail}
use Rattle.aa_vec.proofs.Filling.{Yields-join}
use Rattle.aa_vec.proofs.ExtendLemmas.{Yields-with_lower}
use Rattle.aa_vec.proofs.Gathered.{LacksOthers-same}
use Rattle.aa_vec.proofs.HintLemmas.{bound_next, tell_between}

-- ys inserted before the last n of a list whose last parts are known
pub put_between : {X : Type 0} (head mid tail ys zs : List X) (n : ℕ) → zs ≡ head ++ (mid ++ tail)
    → length tail ≡ n → take (length zs - n) zs ++ (ys ++ drop (length zs - n) zs)
    ≡ head ++ ((mid ++ ys) ++ tail)
put_between {X} head mid tail ys zs n e l =
    let halves : zs ≡ (head ++ mid) ++ tail = e ∙ sym (append_assoc head mid tail) in
    let cut : length (head ++ mid)
    ≡ length zs - n = omega (arith, ap length halves, length-append (head ++ mid) tail, l) in
    rw (
      ← cut,
      halves,
      take_at (head ++ mid) tail (length (head ++ mid)) refl,
      drop_at (head ++ mid) tail (length (head ++ mid)) refl,
    ) (simp append_assoc)

-- how often the tail is moved where n items fill the gap and m more come
pub moves_beyond : (gap h n m : ℕ) → n ≡ gap + m → tail_moves gap h n ≡ tail_moves 0 h m
moves_beyond gap h n m e = grind (arith, nat_tests)

module _ {S T A : Type 0} (steps : S → Option T → S → Type 0) (LowerIs : S → ℕ → Type 0)
    (remaining : S → Count) (size : ℕ) (s : S) (old : Vector T A) where
  -- the reservation for the lower bound failed
  pub Puts-none : {fails : Type 0} → (k : ℕ) × LowerIs s k → (bound n : ℕ) (error : TryReserveError)
      → LacksRoom size old bound error → Puts steps LowerIs fails size s old bound n remaining
      (Err error) old s
  Puts-none first bound n error lacks =
      let failed : PutsFront steps LowerIs _ size s old bound n error old s =
      record {
        front = [];
        others = [];
        lower = λ _. first.0;
        last = s;
        yields = (first.1, refl);
        stops = inl refl;
        items = sym (take-append-drop (len old - n) old.items);
        why = inl (refl, SameBlock-refl old, lacks);
      } in
      record {
        all = tt;
        writes = omega arith;
        error = failed;
        few = λ room. absurd (omega (arith, room, lacks.full));
      }

  -- a run, collected in a vector, was inserted before the last n items, after which nothing was
  -- moved
  pub PutsRest-gathered : (n : ℕ) (first : T) (more : Vector T A) (u : S)
      → Collects steps LowerIs s first more u → (k : ℕ) → k ≡ len more
      → (v w x : Vector T A) → WidensGap size old k n v
      → Becomes v (v.items ++ more.items) (len more) (run_count (len more)) w → w.spare
      ≡ drop (len more) v.spare → ClosesGap w 0 n x
      → PutsRest steps size s old n first x u
  PutsRest-gathered n first more u h k e v w x widened filled spare closes =
      grind (arith, nat_tests, Yields-with_lower, Becomes-at, append_assoc, still_are, moved_some)

  -- the reservation for them failed
  pub LacksRest-room : {fails : Type 0} (first : T) (more : Vector T A) (u : S)
      → Collects steps LowerIs s first more u → (k : ℕ) → k ≡ len more → (error : TryReserveError)
      → LacksRoom size old k error
      → LacksRest steps LowerIs fails size s old first error u
  LacksRest-room first more u g k e error lacks =
      record {
        taken = g.taken;
        lower = g.lower;
        last = g.last;
        yields = g.yields;
        outcome = (
          inr g.outcome.0,
          inr (
            (u, g.outcome.0),
            subst (λ j. LacksRoom size old j error)
                (e ∙ ap length g.outcome.1) lacks,
          ),
        );
      }

  -- capacity was reserved for the lower bound, and `comes.added` was inserted
  module _ (bound n : ℕ) (few : n ≤ len old) (y : Vector T A) (wid : WidensGap size old bound n y)
      (left : ℕ) (t : S) (z : Vector T A) (f : FillsAndCloses steps s y bound n left t z) where
    abbrev head : List T
    head = take (len old - n) old.items

    abbrev tail : List T
    tail = drop (len old - n) old.items

    abbrev came : List T
    came = f.comes.added

    z_becomes : Becomes (with_room size old (len old) bound) (head ++ (came ++ tail))
        (moved_over bound n + (length came + moved_over left n))
        (run_count (moved_over bound n) + (length came + run_count (moved_over left n))) z
    z_becomes = Becomes-at (with_room size old (len old) bound) _ _ _ y wid.becomes _ _ _ z
        f.becomes _ _ _ (ap (λ u. u.items ++ (came ++ tail_items y bound n)) wid.becomes
        ∙ ap (λ ys. head ++ (came ++ ys)) wid.elements) refl refl

    z_items : z.items ≡ head ++ (came ++ tail)
    z_items = ap (λ u. u.items) z_becomes

    tail_count : length tail ≡ n
    tail_count = length-drop (len old - n) old.items ∙ omega (arith, few)

    z_len : len z ≡ len old + length came
    z_len = grind (arith, z_items, length-append, tail_count, length-take)

    z_room : MakesRoom size old (len old) bound z
    z_room = SameBlock-becomes _ _ _ _ _ z_becomes

    z_written : z.written ≡ old.written + (moved_over bound n + (length came + moved_over left n))
    z_written = ap (λ u. u.written) z_becomes

    within : (len old ≤ len z) × PutsWithin old (len old) n z
    within = omega (
      arith,
      z_len,
      z_written,
      ap (λ u. u.runs) z_becomes,
      moved_most bound n,
      moved_most left n,
      one_run (moved_over bound n),
      one_run (moved_over left n),
    )

    -- no further item remains
    pub Puts-within : {fails : Type 0} (end : S) → steps f.last None end
        → Puts steps LowerIs fails size s old bound n remaining (Ok tt) z end
    Puts-within end ended =
        grind (arith, nat_tests, MakesRoom-same, z_room, with_room-fits, z_items, z_written, within)

    -- further items are returned
    module _ (full : left ≡ 0) (first : T) (u : S) (step : steps t (Some first) u) where
      bound_came : length came ≡ bound
      bound_came = omega (arith, f.comes.count, full)

      -- and were inserted after those
      module _ (new : Vector T A) (after : S) (r : PutsRest steps size u z n first new after) where
        abbrev others : List T
        others = r.added

        new_items : new.items ≡ head ++ ((came ++ others) ++ tail)
        new_items = ap (λ u. u.items) r.becomes
            ∙ put_between head came tail others z.items n z_items tail_count

        all_put : PutsAll steps size s old bound n new after
        all_put = grind (
          arith,
          nat_tests,
          z_len,
          bound_came,
          length-append,
          Yields-join,
          new_items,
          z_written,
          moved_none,
        )

        rest_within : (len old ≤ len new) × PutsWithin old (len old) n new
        rest_within = grind (
          arith,
          nat_tests,
          new_items,
          length-append,
          z_len,
          tail_count,
          z_written,
          z_becomes,
          moved_most,
          moved_none,
          one_run,
          length-take,
        )

      pub Puts-rest : (P : A → Type 0) → ((k : S) → (m : ℕ) × LowerIs k m)
          → (result : Result Unit TryReserveError) (new : Vector T A) (after : S)
          → OnOk result (PutsRest steps size u z n first new after)
          → IfErr result (λ e. LacksRest steps LowerIs (P z.alloc) size u z first e after
          × (new ≡ z)) → bound < count_of (remaining s)
          → Puts steps LowerIs (P old.alloc) size s old bound n remaining result new after
      Puts-rest P tell (Ok x) new after r _ more =
          record {
            all = all_put new after r;
            writes = rest_within new after r;
            error = tt;
            few = tt;
          }
      Puts-rest P tell (Err e) new after _ l more =
          let others : List T = first ∷ l.0.taken in
          let h = bound_next steps LowerIs l.0.lower t first u l.0.taken l.0.last step l.0.yields
          (tell t).0 (tell t).1 in
          let g = tell_between steps LowerIs tell s came t
          (subst (Yields steps s came) (sym (f.stops.full full)) f.comes.yields) (tell t).0
          (tell t).1 h.0 others l.0.last h.3 in
          rw l.1 (record {
            all = tt;
            writes = within;
            error = record {
              front = came;
              others = others;
              lower = g.0;
              last = l.0.last;
              yields = g.3;
              stops = l.0.outcome.0;
              items = z_items;
              why = inr (
                bound_came,
                omega arith,
                z_room,
                LacksOthers-same size l.0.lower g.0 others
                    (omega arith) (λ k less. h.1 k less ∙ g.1 k less) _ _ _
                    (subst P z_room.alloc) z e l.0.outcome.1,
              );
            };
            few = λ _. more;
          })

-- a run inserted before the last items
pub ruleset runs_put = (still_tail, PutsRest-gathered, LacksRest-room)
