-- A range that was replaced by items: the lower bounds of an iterator, and what the phases left.
use Rattle.aa_vec.proofs.Common.{◌≡◌, ℕ, ◌+◌, ◌-◌, ◌*◌, ◌<◌, ◌≤◌, List, [], ◌++◌, length, Option, append_assoc, refl, sym, ap, ◌∙◌, subst, arith, inl, inr, length-append, Result, Ok, Err, Count, Yields, count_of, append-nil, TryReserveError, Vector, len, HasRoom, SameBlock, tail_moves, run_count, moved_over, tail_items, with_spare, ExtendResult, OnOk, IfErr, SplicesAll, FillsAndCloses, PutsAll, Puts, PutsWithin, Replaced, PutsFront, IsFinite, nat_tests, Becomes, rules}
use Rattle.std.specs.declared.iter.Iterator.{Ghosts}
use Rattle.aa_vec.proofs.Outcomes.{IsOk, on_ok, if_err, done_unless}
use Rattle.aa_vec.proofs.Closed.{moved_none, moved_some, moved_most, one_run}
use Rattle.aa_vec.proofs.Becoming.{SameBlock-becomes}
use Rattle.aa_vec.proofs.GrowthLemmas.{Extends-items, MakesRoomTwice, MakesRoomTwice-same, SameBlock-trans, MakesRoom-same}
use Rattle.aa_vec.proofs.ExtendLemmas.{Yields-with_lower, whole_run}
use Rattle.aa_vec.proofs.Gathered.{LacksOthers-same}
use Rattle.aa_vec.proofs.HintLemmas.{tells_each, tell_between}
use Rattle.aa_vec.proofs.SpliceByItems.{Extends-same, SplicesByAll, SplicesByFront, cut_off}
use Rattle.aa_vec.proofs.Replacing.{moves_beyond, put_between}

-- in each state there is some bound
module _ {S T A : Type 0} (g : Ghosts S T) (LowerIs : S → ℕ → Type 0)
    (tell : (s : S) → (n : ℕ) × LowerIs s n) (P : A → Type 0) (size : ℕ) (iter : S)
    (old : Vector T A) (gap : ℕ) where
  abbrev steps : S → Option T → S → Type 0
  steps = g.next_gives

  abbrev left_of : S → Count
  left_of = g.remaining

  module _ (tail : List T) (r : Result Unit TryReserveError) (new : Vector T A) where
    abbrev pub Spliced : Type 0
    Spliced = Replaced g LowerIs (P old.alloc) size iter (cut_off old gap tail) r new

    -- a splice, by its two outcomes
    spliced : OnOk r (SplicesByAll steps LowerIs size iter (cut_off old gap tail) new)
        → IfErr r (λ e. SplicesByFront steps LowerIs size iter (cut_off old gap tail)
        (P old.alloc) e new) → (count_of (left_of iter) < gap → IsOk r)
        → (((s : S) (n : ℕ) → IsFinite (left_of s) → count_of (left_of s) ≡ 0 → LowerIs s n → n ≡ 0)
        → count_of (left_of iter) ≤ gap → IsOk r)
        → (tail ≡ [] → HasRoom old (count_of (left_of iter)) → IsOk r)
        → ((h : ℕ) → ((xs : List T) (t : S) (n : ℕ) → Yields steps iter xs t → length xs ≡ gap
        → LowerIs t n → n ≡ h) → count_of (left_of iter) ≤ gap + h
        → len old + gap + length tail + h ≤ old.capacity → IsOk r)
        → PutsWithin old (len old + length tail) (length tail) new → Spliced
    spliced room failed fits_gap fits_full fits_end fits_lower writes =
        let ran = on_ok r room
        (λ a. (
          a.taken,
          (
            a.outcome.0.0,
            (
              a.last,
              Yields-with_lower steps LowerIs a.lower iter a.taken a.last a.yields,
              a.outcome.0.1,
            ),
          ),
          a.outcome.1.items,
        )) in
        search (
          rules,
          ran,
          on_ok r ran (whole_run steps iter (λ xs. new.items ≡ old.items ++ (xs ++ tail))),
        )

  -- the elements of the range were dropped
  module _ (places : List (Option T)) where
    abbrev w : Vector T A
    w = with_spare old places

    block : SameBlock old w
    block = record { capacity = refl; growth = refl; grown = refl; alloc = refl }

    -- nothing is after the range, and the vector was extended
    pub Spliced-extended : (after : S) (r : Result Unit TryReserveError) (new : Vector T A)
        → len old + gap ≤ old.capacity → (HasRoom w (count_of (left_of iter)) → IsOk r)
        → ExtendResult steps LowerIs size iter w after r new → Spliced [] r new
    Spliced-extended after r new fits enough e =
        let z = e.written in
        let items : (xs : List T) → new.items ≡ old.items ++ xs → new.items
        ≡ old.items ++ (xs ++ []) = λ xs is. is
        ∙ ap (λ ys. old.items ++ ys) (sym (append-nil xs)) in
        spliced [] r new
        (on_ok r e.appended (λ t.
        let all : SplicesAll size t.lower (cut_off old gap []) t.taken new = grind
        (arith, Extends-items, append-nil, Extends-same block (Ok tt) t.outcome.1) in
        record {
          taken = t.taken;
          lower = t.lower;
          last = t.last;
          yields = t.yields;
          outcome = (
            (after, t.outcome.0),
            all,
            omega (
              arith,
              z.0,
              ap length (Extends-items t.outcome.1),
              length-append old.items t.taken,
            ),
          );
        }))
        (if_err r e.error
        (λ error t. record {
          taken = t.taken;
          lower = t.lower;
          last = t.last;
          yields = t.yields;
          outcome = inl (refl, Extends-same block (Err error) t.outcome.1);
        }))
        (λ few. enough (omega (arith, few, fits))) (λ _ few. enough (omega (arith, few, fits)))
        (λ _ room. enough room) (λ h _ few room. enough (omega (arith, few, room)))
        (omega (arith, z.0, z.1))

    -- some elements are after the range, and what came filled it, or a part of it
    module _ (tail : List T) (n : ℕ) (kept : tail_items w gap n ≡ tail)
        (tail_count : length tail ≡ n) (some : 0 < n) (left : ℕ) (t : S) (x : Vector T A)
        (f : FillsAndCloses steps iter w gap n left t x) where
      abbrev came : List T
      came = f.comes.added

      x_becomes : Becomes old (old.items ++ (came ++ tail)) (length came + moved_over left n)
          (length came + run_count (moved_over left n)) x
      x_becomes = rw (← kept) f.becomes

      x_items : x.items ≡ old.items ++ (came ++ tail)
      x_items = ap (λ u. u.items) x_becomes

      x_block : SameBlock old x
      x_block = SameBlock-becomes _ _ _ _ _ x_becomes

      x_len : len x ≡ len old + length came + n
      x_len = ap length x_items ∙ length-append old.items (came ++ tail)
          ∙ omega (arith, length-append came tail, tail_count)

      pub filled_len : n ≤ len x
      filled_len = omega (arith, x_len)

      pub Spliced-ended : 0 < left → Spliced tail (Ok tt) x
      Spliced-ended h =
          let few : length came < gap = omega (arith, f.comes.count, h) in
          let b = tells_each steps LowerIs tell iter came f.last f.comes.yields in
          let all : SplicesAll size b.0 (cut_off old gap tail) came x = grind
          (arith, x_items, x_block, tail_count, few, some) in
          let written : x.written
          ≡ old.written + (length came + tail_moves gap (b.0 (length came - gap))
          (length came) * length tail) =
          grind (
            arith,
            nat_tests,
            ap (λ u. u.written) x_becomes,
            tail_count,
            moved_some left n h,
          ) in
          spliced tail (Ok tt) x
          (record {
            taken = came;
            lower = b.0;
            last = f.last;
            yields = b.1;
            outcome = ((t, f.stops.ended h), all, written);
          }) tt (λ _. refl) (λ _ _. refl) (λ _ _. refl)
          (λ _ _ _ _. refl)
          (omega (
            arith,
            ap (λ u. u.written) x_becomes,
            ap (λ u. u.runs) x_becomes,
            x_len,
            tail_count,
            moved_most left n,
            one_run (moved_over left n),
          ))

      -- the gap is full, the lower bound is read then, and the others were put after
      module _ (full : left ≡ 0) (bound : ℕ) (tells : LowerIs t bound) where
        gap_came : length came ≡ gap
        gap_came = omega (arith, f.comes.count, full)

        yields : Yields steps iter came t
        yields = subst (Yields steps iter came) (sym (f.stops.full full)) f.comes.yields

        whole : len x ≡ len old + gap + length tail
        whole = omega (arith, x_len, gap_came, tail_count)

        more_spliced : (new : Vector T A) (after : S) → PutsAll steps size t x bound n new after
            → SplicesByAll steps LowerIs size iter (cut_off old gap tail) new
        more_spliced new after p =
            let all : List T = came ++ p.added in
            let e = tells_each steps LowerIs tell t p.added p.last p.yields in
            let r = tell_between steps LowerIs tell iter came t yields bound tells e.0 p.added
            p.last e.1 in
            let longer : length all
            ≡ gap + length p.added = omega (arith, length-append came p.added, gap_came) in
            let bound_is : r.0 (length all - gap) ≡ bound = ap r.0 (omega (arith, longer)) ∙ r.2 in
            let m : MakesRoomTwice size old (len x) bound (length p.added - bound) new =
            MakesRoomTwice-same size (len x) bound (length p.added - bound) x_block p.room in
            let items : new.items ≡ old.items ++ (all ++ tail) = p.items
            ∙ put_between old.items came tail p.added x.items n x_items tail_count in
            let whole_put : SplicesAll size r.0 (cut_off old gap tail) all new = grind
            (arith, items, m, bound_is, whole, tail_count, some, longer) in
            let written : new.written
            ≡ old.written + (length all + tail_moves gap (r.0 (length all - gap))
            (length all) * length tail) =
            grind (
              arith,
              nat_tests,
              p.written,
              x_becomes,
              moved_none,
              longer,
              gap_came,
              bound_is,
              tail_count,
              moves_beyond,
            ) in
            record {
              taken = all;
              lower = r.0;
              last = p.last;
              yields = r.3;
              outcome = ((after, p.ends), whole_put, written);
            }

        more_refused : (error : TryReserveError) (new : Vector T A) (after : S)
            → PutsFront steps LowerIs (P x.alloc) size t x bound n error new after
            → SplicesByFront steps LowerIs size iter (cut_off old gap tail) (P old.alloc) error new
        more_refused error new after p =
            let put : List T = p.front ++ p.others in
            let r = tell_between steps LowerIs tell iter came t yields bound tells p.lower put
            p.last p.yields in
            let bound_is : r.0 (length (came ++ put) - gap)
            ≡ bound = ap r.0 (omega (arith, length-append came put, gap_came)) ∙ r.2 in
            let count : length (came ++ p.front)
            ≡ gap + length p.front = omega (arith, length-append came p.front, gap_came) in
            record {
              taken = came ++ put;
              lower = r.0;
              last = p.last;
              yields = r.3;
              outcome = inr (
                omega (arith, tail_count, some),
                record {
                  front = came ++ p.front;
                  others = p.others;
                  begins = sym (append_assoc came p.front p.others);
                  items = p.items ∙ put_between old.items came tail p.front x.items n x_items
                      tail_count;
                  why = elim p.why [
                    | inl h ↦ inl (
                      omega (arith, count, h.0, length-append p.front p.others),
                      SameBlock-trans x_block h.1,
                      rw bound_is h.2,
                    )
                    | inr h ↦
                        inr (
                          omega (arith, count, h.0, bound_is),
                          rw (bound_is, ← whole) (MakesRoom-same size (len x) bound x_block h.2),
                          h.1,
                          LacksOthers-same size p.lower r.0 p.others h.1
                              (λ k l. r.1 k (omega (arith, l, length-append p.front p.others))) _ _
                              _ (subst P x_block.alloc) new error h.3,
                        )
                  ];
                },
              );
            }

        pub Spliced-more : (after : S) (r : Result Unit TryReserveError) (new : Vector T A)
            → Puts steps LowerIs (P x.alloc) size t x bound n left_of r new after
            → IsFinite (left_of t) → gap + count_of (left_of t) ≤ count_of (left_of iter)
            → Spliced tail r new
        Spliced-more after r new p ends goes =
            let z = p.writes in
            spliced tail r new (on_ok r p.all (more_spliced new after))
            (if_err r p.error (λ e front. more_refused e new after front))
            (λ few. absurd (omega (arith, few, goes)))
            (λ tells_none few.
            grind (
              arith,
              p.few,
              tells_none t bound ends (omega (arith, few, goes)) tells,
              IsOk,
            ))
            (λ e _. absurd (omega (arith, ap length e, tail_count, some)))
            (λ h once few room.
            let is : bound ≡ h = once came t bound yields gap_came tells in
            done_unless r (if_err r p.few
            (λ e less. absurd
            (omega (
              arith,
              less (omega (arith, is, room, whole, x_block.capacity)),
              is,
              few,
              goes,
            )))))
            (omega (
              arith,
              z.1.written,
              z.1.runs,
              z.0,
              ap (λ u. u.written) x_becomes,
              ap (λ u. u.runs) x_becomes,
              x_len,
              tail_count,
              moved_none left n full,
              ap run_count (moved_none left n full),
            ))
