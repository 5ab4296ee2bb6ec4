-- Elements that a closure takes out of a range.
use Rattle.aa_vec.proofs.Common.{◌≡◌, ℕ, zero, suc, ◌+◌, ◌-◌, ◌<◌, ◌≤◌, Bool, true, false, List, [], ◌∷◌, ◌++◌, length, map, take, drop, Option, Some, None, refl, sym, ap, ◌∙◌, subst, arith, inr, append_assoc, length-append, length-drop, slice_set, MatchOption, drop-append-le, drop-drop, drop-map, drop-set-lt, drop_all, drop_at, length-map, length-take-le, take_at, HasTail, SetsTail, ClosesGap, tail_items, with_spare, Call, CalledInOrder, EndsTrue, kept, passed_over, KeepsWhen, CallsUntil, CallsOnTail, Picks, Vector, len, CallsAndShifts}
use Rattle.aa_vec.proofs.Becoming.{Becomes-holds}
use Rattle.aa_vec.proofs.ExtractRuns.{asked_parts}
use Rattle.aa_vec.proofs.TailLemmas.{still_tail, still_are}
use Rattle.aa_vec.proofs.Retaining.{Told, May, turn-asked}
use Rattle.aa_vec.proofs.Stages.{Turn}
use Rattle.aa_vec.proofs.Tails.{count, first_are, first_tail, moved_items, others_are, others_tail, parts}

module _ {F T : Type 0} (Calls : F → T → Bool → F → T → Type 0) where
  module _ {A : Type 0} {f : F} {old : Vector T A} {gap n k : ℕ} {g : F} {new : Vector T A}
      (asked : CallsOnTail Calls f old gap n k g new) (has_tail : HasTail old gap n) where
    turn : Turn (Told Calls) (May Calls (λ s x. Unit {0})) f old gap n k g new asked.left
    turn = turn-asked Calls (λ s x. Unit {0}) f old gap n has_tail k g new asked

    -- the kept elements
    pub asked_first : HasTail new gap k
    asked_first = first_tail new gap n turn.has_tail k turn.within

    pub asked_down : {i : ℕ} {down : Vector T A} → k ≡ i → ClosesGap new gap i down
        → CallsAndShifts Calls f old gap n i g down
    asked_down {i} e closes =
        record {
          left = new;
          calls = subst (λ i. CallsOnTail Calls f old gap n i g new) e asked;
          closes = closes;
        }

module _ {F T : Type 0} (Keeps : F → T → Bool → F → T → Type 0) where
  abbrev Calls : F → T → Bool → F → T → Type 0
  Calls = KeepsWhen false Keeps

  -- the calls of one `next`: the elements that are kept, and the one that was removed, if there was
  -- one
  record CallsTo (f : F) (xs : List T) (stay : ℕ) (left : List T) (g : F) : Type 0 where
    pub calls : List (Call T)
    pub called : CalledInOrder Keeps f (take (length calls) xs) calls g
    pub items : kept calls ≡ take 1 (drop stay left)
    pub stays : passed_over calls ≡ take stay left
    pub few : length (passed_over calls) ≡ stay
    pub others : drop (suc stay) left ≡ drop (suc stay) xs
    pub ends : (x : T) → kept calls ≡ x ∷ [] → (front : List (Call T))
        × (calls ≡ front ++ record { result = true; left = x } ∷ [])

  calls_to : (f g : F) (xs : List T) (stay : ℕ) (left : List T) → CallsUntil Calls f xs stay g left
      → CallsTo f xs stay left g
  calls_to f g [] zero left u =
      rw u.1 (record {
        calls = [];
        called = u.0;
        items = refl;
        stays = refl;
        few = refl;
        others = refl;
        ends = λ x none. absurd (omega (arith, ap length none));
      })
  calls_to f g [] (suc stay) left u = absurd u
  calls_to f g (z ∷ xs) zero left u =
      rw u.2 (record {
        calls = record { result = true; left = u.0 } ∷ [];
        called = (g, u.1, refl);
        items = refl;
        stays = refl;
        few = refl;
        others = refl;
        ends = λ x same. ([], cc);
      })
  calls_to f g (z ∷ xs) (suc stay) left u =
      let r = calls_to u.0 g xs stay u.2 u.4 in
      let first : Call T = record { result = false; left = u.1 } in
      rw u.5 (record {
        calls = first ∷ r.calls;
        called = (u.0, u.3, r.called);
        items = r.items;
        stays = ap (λ l. u.1 ∷ l) r.stays;
        few = omega (arith, r.few);
        others = r.others;
        ends = λ x same. let e = r.ends x same in (first ∷ e.0, ap (λ l. first ∷ l) e.1);
      })

module _ {T A : Type 0} {old joined : Vector T A} {low : ℕ} (front end : ℕ)
    (ordered : (low ≤ front) × (front ≤ end)) (before : HasTail old 0 low)
    (has_tail : HasTail old front (end - front)) (joins : ClosesGap old 0 low joined) where
  abbrev gap : ℕ
  gap = front - low

  abbrev n : ℕ
  n = end - front

  apart : drop gap joined.spare ≡ drop front old.spare
  apart = ap (drop gap) joins.spare ∙ drop-drop gap low old.spare
      ∙ ap (λ i. drop i old.spare) (omega (arith, ordered.0))

  -- the first are items, and the closure may be called for the next
  pub joined_stand : HasTail joined (front - low) (end - front)
  joined_stand = grind (
    arith,
    length-append old.items (tail_items old 0 low),
    count old 0 low before,
    still_tail,
    apart,
  )

  module _ {F : Type 0} (Keeps : F → T → Bool → F → T → Type 0) {f g : F} {stay : ℕ}
      {down : Vector T A}
      (keeps : CallsAndShifts (KeepsWhen false Keeps) f joined (front - low)
      (end - front) stay g down) where
    abbrev left : List T
    left = keeps.calls.left

    calls : CallsTo Keeps f (tail_items old front n) stay left g
    calls = calls_to Keeps f g (tail_items old front n) stay left
        (rw (← still_are old joined front gap n apart) keeps.calls.until)

    turned : Turn (Told (KeepsWhen false Keeps)) (May (KeepsWhen false Keeps) (λ s x. Unit {0})) f
        joined gap n stay g keeps.left left
    turned = turn-asked (KeepsWhen false Keeps) (λ s x. Unit {0}) f joined gap n joined_stand stay g
        keeps.left keeps.calls

    long : length left ≡ n
    long = sym (ap length turned.are) ∙ count keeps.left gap n turned.has_tail

    pub next_stand : HasTail down gap (n - stay)
    next_stand = others_tail keeps.left gap n turned.has_tail stay turned.within down keeps.closes

    -- what is after the kept elements, and after those that were there
    others_in : (xs : List T) → length xs ≡ n → (k : ℕ) → k ≤ n
        → drop k (map Some xs ++ drop n (drop front old.spare)) ≡ map Some (drop k xs)
        ++ drop n (drop front old.spare)
    others_in xs e k h = let some : T → Option T = λ x. Some x in
        drop-append-le k (map some xs) (drop n (drop front old.spare))
        (omega (arith, h, e, length-map xs some))
        ∙ ap (λ ds. ds ++ drop n (drop front old.spare)) (drop-map some k xs)

    -- the kept elements are the last items
    module _ (w : Vector T A) (places : List (Option T)) (differs : w ≡ with_spare down places)
      where
        abbrev stays : List T
        stays = tail_items old 0 low ++ take stay left

        items : w.items ≡ old.items ++ stays
        items = grind (arith, moved_items, turned, append_assoc)

        back_long : length stays ≡ low + stay
        back_long = omega (
          arith,
          length-append (tail_items old 0 low) (take stay left),
          count old 0 low before,
          length-take-le stay left (omega (arith, turned.within, long)),
        )

        -- and the items are set back
        module _ (new : Vector T A) (set : SetsTail w (len old) new) where
          set_count : len w - len old ≡ low + stay
          set_count = grind (arith, back_long, length-drop, items, drop_at)

          picked : (j next : ℕ) (item : Option T) → next ≡ front + (stay + j) → stay + j ≤ n
              → length (kept calls.calls) ≡ j → drop (stay + j) left
              ≡ drop (stay + j) (tail_items old front n) → drop (gap + j) w.spare
              ≡ drop (gap + j) down.spare
              → MatchOption item ((kept calls.calls ≡ []) × (next ≡ end))
              (λ x. (kept calls.calls ≡ x ∷ []) × EndsTrue calls.calls)
              → Picks Keeps f old low front end stay next item g new
          picked j next item e fits many same beyond cases =
              grind (
                arith,
                asked_parts calls.calls,
                drop-drop (gap + j) (low + stay) new.spare,
                drop-drop j gap down.spare,
                others_in left long (stay + j) fits,
                parts old front n has_tail,
                drop-drop (stay + j) front old.spare,
                calls,
                asked_parts,
                Becomes-holds,
                items,
                take_at,
                set_count,
                drop-drop,
                drop_at,
                length-map,
                back_long,
                apart,
                others_in,
                long,
                count,
                parts,
              )

    -- the next one is in the place after the gap
    next_place : (m : ℕ) → m ≡ len old → len down + gap ≡ m + (front + stay)
    next_place m e =
        omega (
          arith,
          e,
          ordered.0,
          ap length (items down down.spare refl),
          length-append old.items (stays down down.spare refl),
          back_long down down.spare refl,
        )

    pub next_gap : (m : ℕ) → m ≡ len old → m + (front + stay) - len down ≡ gap
    next_gap m e = omega (arith, next_place m e)

    pub next_asked : (m : ℕ) → m ≡ len old → stay < n → (len down ≤ m + (front + stay))
        × HasTail down (m + (front + stay) - len down) 1
    next_asked m e less = (
      omega (arith, next_place m e),
      rw (next_gap m e) (first_tail down gap (n - stay) next_stand 1 (omega (arith, less))),
    )

    -- none remains to be tested
    pub Picks-none : n ≤ stay → {new : Vector T A} → SetsTail down (len old) new
        → Picks Keeps f old low front end stay end None g new
    Picks-none all {new} set =
        let e : stay ≡ n = omega (arith, all, turned.within) in
        let none : kept calls.calls ≡ [] = calls.items
        ∙ ap (take 1) (drop_all stay left (omega (arith, long, e))) in
        let same : drop (stay + 0) left ≡ drop (stay + 0) (tail_items old front n) = drop_all
        (stay + 0) left (omega (arith, long, e))
        ∙ sym (drop_all (stay + 0) (tail_items old front n)
        (omega (arith, count old front n has_tail, e))) in
        picked down down.spare refl new set 0 end None (omega (arith, e, ordered))
        (omega (arith, e)) (omega (arith, ap length none)) same refl (none, refl)

    -- the next one was taken out
    pub Picks-taken : stay < n → {x : T} {w : Vector T A} → tail_items down (front - low) 1 ≡ x ∷ []
        → w ≡ with_spare down (slice_set down.spare (front - low) None) → {new : Vector T A}
        → SetsTail w (len old) new
        → Picks Keeps f old low front end stay (front + stay + 1) (Some x) g new
    Picks-taken less {x} {w} value taken {new} set =
        let one : kept calls.calls ≡ x ∷ [] = calls.items
        ∙ ap (take 1) (ap (drop stay) (sym turned.are)
        ∙ sym (others_are keeps.left gap n turned.has_tail stay turned.within down
        keeps.closes)) ∙ sym (first_are down gap (n - stay) next_stand 1 (omega (arith, less)))
        ∙ value in
        let one_more : suc stay ≡ stay + 1 = omega arith in let last = calls.ends x one in
        picked w (slice_set down.spare gap None) taken new set 1 (front + stay + 1) (Some x)
        (omega arith) (omega (arith, less)) (omega (arith, ap length one))
        (subst (λ i. drop i left ≡ drop i (tail_items old front n)) one_more calls.others)
        (ap (λ v. drop (gap + 1) v.spare) taken
        ∙ drop-set-lt (gap + 1) down.spare gap None (omega arith))
        (one, inr (last.0, x, last.1))
