-- What calls that take elements out of a range leave, one after the other.
use Rattle.aa_vec.proofs.Common.{Becomes, Bool, Call, CalledInOrder, EndsTrue, ExtractBy, ExtractIf, Extracted, Extracts, ExtractsAlong, IsCallableInOrder, List, MakesProgress, MayCallInOrder, None, Option, Some, Yields, [], add_assoc, ap, append-nil, append_assoc, arith, at_most, drop, drop-drop, extract_count, extract_kept, extract_remaining, extract_vec, filter, filter-append, inl, inr, kept, length, length-append, length-drop, length-map, length-take, map, map-append, moved_over, passed_over, refl, run_count, subst, suc, sym, take, true, ℕ, ◌++◌, ◌+◌, ◌-◌, ◌<◌, ◌∙◌, ◌∷◌, ◌≡◌, ◌≤◌}
use lib.Seq.{take-add}
use Rattle.std.proofs.lemmas.List.Filters.{length-filter_both}
use Rattle.aa_vec.proofs.Becoming.{Becomes-refl}
use Rattle.aa_vec.proofs.Closed.{few_runs, moved_most}

chosen-append : {T : Type 0} (p : Call T → Bool) (calls more : List (Call T))
    → map (λ t. t.left) (filter p (calls ++ more)) ≡ map (λ t. t.left) (filter p calls)
    ++ map (λ t. t.left) (filter p more)
chosen-append p calls more = ap (map (λ t. t.left)) (filter-append p calls more)
    ∙ map-append (λ t. t.left) (filter p calls) (filter p more)

-- of the tested elements some are kept, and the others were removed
pub asked_parts : {T : Type 0} (calls : List (Call T)) → length calls
    ≡ length (passed_over calls) + length (kept calls)
asked_parts calls = grind (arith, length-filter_both, length-map)

module _ {F T : Type 0} (Calls : F → T → Bool → F → T → Type 0) where
  -- as many were tested as there are calls
  pub asked_count : (f g : F) (xs : List T) (calls : List (Call T))
      → CalledInOrder Calls f xs calls g → length calls ≡ length xs
  asked_count f g [] [] a = refl
  asked_count f g (x ∷ xs) (y ∷ calls) a = ap suc (asked_count a.0 g xs calls a.2)
  asked_count f g xs calls a = absurd a

  -- and the closure may be called for the others
  may_after : (Takes : F → T → Type 0) (f g : F) (xs : List T) (calls : List (Call T))
      → MayCallInOrder Calls Takes f xs → CalledInOrder Calls f (take (length calls) xs) calls g
      → MayCallInOrder Calls Takes g (drop (length calls) xs)
  may_after Takes f g [] [] may a = tt
  may_after Takes f g [] (y ∷ calls) may a = absurd a
  may_after Takes f g (x ∷ xs) [] may a = subst (λ s. MayCallInOrder Calls Takes s (x ∷ xs))
      (sym a) may
  may_after Takes f g (x ∷ xs) (y ∷ calls) may a =
      may_after Takes a.0 g xs calls (may.1 y.result a.0 y.left a.1) a.2

  asked-append : (f h g : F) (xs ys : List T) (calls more : List (Call T))
      → CalledInOrder Calls f xs calls h → CalledInOrder Calls h ys more g
      → CalledInOrder Calls f (xs ++ ys) (calls ++ more) g
  asked-append f h g [] ys [] more a b = subst (λ s. CalledInOrder Calls s ys more g) a b
  asked-append f h g (x ∷ xs) ys (y ∷ calls) more a b =
      (a.0, a.1, asked-append a.0 h g xs ys calls more a.2 b)
  asked-append f h g xs ys calls more a b = absurd a

  module _ {A : Type 0} where
    -- nothing was tested
    pub Extracted-none : (f : F) (s : ExtractBy T A) → Extracted Calls f s [] f s
    Extracted-none f s = record {
      calls = [];
      called = refl;
      items = refl;
      kept = sym (append-nil (extract_kept s));
      rest = refl;
      lender = refl;
      tail = refl;
      count = omega arith;
      moved = 0;
      runs = 0;
      few = omega arith;
      becomes = Becomes-refl s.vec.now;
    }

    -- and none was tested after the last removed one
    abbrev pub ExtractedTo : F → ExtractBy T A → List T → F → ExtractBy T A → Type 0
    ExtractedTo f s xs g t = (e : Extracted Calls f s xs g t) × EndsTrue e.calls

    pub ExtractedTo-none : (f : F) (s : ExtractBy T A) → ExtractedTo f s [] f s
    unfolding Extracted-none
    ExtractedTo-none f s = (Extracted-none f s, inl refl)

    -- and then one call tested some
    module _ (f h g : F) (s t w : ExtractBy T A) (xs : List T) (now : Extracted Calls f s xs h t)
      where
        module _ (r : Option T) (next : Extracts Calls h t r g w) (taken : List T)
            (items : kept next.calls ≡ taken) where
          abbrev all : List (Call T)
          all = now.calls ++ next.calls

          pub Extracted-then : Extracted Calls f s (xs ++ taken) g w
          Extracted-then =
              let moved : ℕ = moved_over (extract_count t) (length (passed_over next.calls)) in
              let called : CalledInOrder Calls f (take (length all) (extract_remaining s)) all g =
              rw (
                length-append now.calls next.calls,
                take-add (length now.calls) (length next.calls)
                    (extract_remaining s),
                ← now.rest,
              )
              (asked-append f h g (take (length now.calls) (extract_remaining s))
              (take (length next.calls) (extract_remaining t)) now.calls next.calls now.called
              next.called) in
              let becomes : Becomes s.vec.now s.vec.now.items (now.moved + moved)
              (now.runs + run_count moved) w.vec.now =
              rw (← add_assoc s.vec.now.written, ← add_assoc s.vec.now.runs)
              (rw now.becomes at next.becomes) in
              grind (
                arith,
                called,
                becomes,
                chosen-append,
                append_assoc,
                drop-drop,
                length-append,
                moved_most,
              )

        -- an element was taken out
        pub Extracted-more : (x : T) → Extracts Calls h t (Some x) g w
            → ExtractedTo f s (xs ++ x ∷ []) g w
        unfolding Extracted-then
        Extracted-more x next = (
          Extracted-then (Some x) next (x ∷ []) next.cases.0,
          elim next.cases.1 [
            | inl none ↦ absurd
                (omega (arith, ap length next.cases.0, ap (λ l. length (kept l)) none))
            | inr last ↦ inr (
              now.calls ++ last.0,
              last.1,
              ap (λ l. now.calls ++ l) last.2
                  ∙ sym (append_assoc now.calls last.0 (record { result = true; left = last.1 } ∷ [])),
            )
          ],
        )

        -- none was left
        pub Extracted-end : Extracts Calls h t None g w → Extracted Calls f s xs g w
        Extracted-end next = subst (λ l. Extracted Calls f s l g w) (append-nil xs)
            (Extracted-then None next [] next.cases.0)

    -- after a call that removed one, the closure may be called for the others, and they are fewer
    module _ (f g : F) (s t : ExtractBy T A) (x : T) (next : Extracts Calls f s (Some x) g t) where
      pub extracts_fewer : length (extract_remaining t) < length (extract_remaining s)
      extracts_fewer = grind (arith, asked_parts, asked_count, length-take, length-drop)

      pub extracts_may : (Takes : F → T → Type 0)
          → IsCallableInOrder Calls Takes f (extract_remaining s)
          → IsCallableInOrder Calls Takes g (extract_remaining t)
      extracts_may Takes may =
          record {
            along = subst (MayCallInOrder Calls Takes g) (sym next.rest)
                (may_after Takes f g (extract_remaining s) next.calls may.along next.called);
          }

    abbrev Steps : ExtractIf T F A → Option T → ExtractIf T F A → Type 0
    Steps u r t = Extracts Calls u.f u.by r t.f t.by

    -- the same along the calls of `next`
    along : (s t : ExtractIf T F A) (taken xs : List T) (later : ExtractIf T F A)
        → ExtractedTo s.f s.by taken t.f t.by → Yields Steps t xs later
        → ExtractedTo s.f s.by (taken ++ xs) later.f later.by
    along s t taken [] later now y = subst (λ u. ExtractedTo s.f s.by (taken ++ []) u.f u.by) y
        (subst (λ l. ExtractedTo s.f s.by l t.f t.by) (sym (append-nil taken)) now)
    along s t taken (x ∷ xs) later now y =
        rw (← append_assoc taken (x ∷ []) xs)
        (along s y.0 (taken ++ x ∷ []) xs later
        (Extracted-more s.f t.f y.0.f s.by t.by y.0.by taken now.0 x y.1) y.2)

    runs_along : (s : ExtractIf T F A) (xs : List T) (later : ExtractIf T F A)
        → Yields Steps s xs later → (extract_vec later.by).runs + (extract_count s.by - 1)
        ≤ (extract_vec s.by).runs + (extract_count later.by - 1)
    runs_along s [] later y =
        subst (λ u. (extract_vec u.by).runs + (extract_count s.by - 1)
        ≤ (extract_vec s.by).runs + (extract_count u.by - 1)) y (omega arith)
    runs_along s (x ∷ xs) later y =
        omega (
          arith,
          runs_along y.0 xs later y.2,
          ap (λ v. v.runs) y.1.becomes,
          few_runs (extract_count s.by) (length (passed_over y.1.calls)),
          y.1.count,
          ap length y.1.cases.0,
        )

    pub extracts_along : (s : ExtractIf T F A) → ExtractsAlong Calls s
    extracts_along s =
        record {
          along = λ xs later y. let e = along s s [] xs later (ExtractedTo-none s.f s.by) y
              in (e.0, e.1, runs_along s xs later y);
        }

    -- a call comes nearer to the end
    pub extracts_progress : (Takes : F → T → Type 0) (s t : ExtractIf T F A) (r : Option T)
        → Extracts Calls s.f s.by r t.f t.by
        → IsCallableInOrder Calls Takes s.f (extract_remaining s.by)
        → MakesProgress (λ u. IsCallableInOrder Calls Takes u.f (extract_remaining u.by))
        (λ u. at_most (length (extract_remaining u.by))) s r t
    extracts_progress Takes s t None e may = record { on = λ f. tt; keeps = tt; rests = λ f. tt }
    extracts_progress Takes s t (Some x) e may =
        let on = extracts_may s.f t.f s.by t.by x e Takes may in
        record {
          on = λ f. (on, tt, extracts_fewer s.f t.f s.by t.by x e);
          keeps = on;
          rests = λ f. tt;
        }
