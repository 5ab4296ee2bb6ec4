-- What a step of the list machine does to main: it keeps its block, has grown once, or grew any
-- number of times while it was full.
use Rattle.allocator_api2.proofs.Common.{AddsOrRemoves, Append, Becomes, Bool, Calls, Clear, Command, Dedup, Done, Drain, Ends, Err, Extend, Extends, ExtractIf, FailsWith, GrowsInSteps, GrowsTo-becomes, Holds, Holds-becomes, InRange, Insert, Item, List, MakesRoom, MakesRoom-has, MakesRoom-rises, MakesRoom-unchanged, None, Ok, Option, Pop, Push, Range, Refused, Remove, Replies, Reply, Result, Retain, SameBlock, SameBlock-refl, State, Step, Succeeds, SwapRemove, Truncate, TryReserveError, TryReserveErrorKind, Vector, Within, [], added_by, ap, arith, asked_count, asked_parts, asks, block_of, drop, ends_of, grown_room, grows, hint_of, inl, inr, len, length, length-append, length-drop, length-set, length-take, lower_bound_of, max, min, refl, remaining_of, rules, slice_index_or, slice_set, subst, suc, sym, take, unchanged, ℕ, ◌+◌, ◌-◌, ◌<◌, ◌∙◌, ◌∷◌, ◌≡◌, ◌≤◌}
use Rattle.aa_vec.specs.Vector.{with_room}
use Rattle.std.proofs.lemmas.Bool.{cases_lt}
use Rattle.allocator_api2.proofs.ExtractParts.{length-taken_out}

length-remaining_of : {T : Type 0} (xs : List T) (ends : Ends) (keep : Bool) → ends.start ≤ ends.end
    → ends.end ≤ length xs → length (remaining_of xs ends keep) ≤ length xs
length-remaining_of xs ends keep h l = grind (arith, length-append, length-take, length-drop)

module _ {T A : Type 0} (size : ℕ) where
  -- old grew any number of times while it had not places for `needed`, and is new; without a hint,
  -- it requested no more than is needed
  pub data Moves (hint : Option ℕ) (needed : ℕ) : Vector T A → Vector T A → Type 0 where
    kept : {old new : Vector T A} → SameBlock old new → Moves hint needed old new
    grown : {old mid new : Vector T A} (n more : ℕ) → n ≤ old.capacity → old.capacity < n + more
        → old.capacity < needed → (hint ≡ None → n + more ≤ needed) → MakesRoom size old n more mid
        → Moves hint needed mid new → Moves hint needed old new

  -- main grew so, and has k elements more at most; what it needed, or what it has places for, it
  -- has now
  pub record Change (hint : Option ℕ) (old : Vector T A) (k : ℕ) (new : Vector T A) : Type 0 where
    pub needed : ℕ
    pub moves : len old ≤ old.capacity → Moves hint needed old new
    pub longest : len new ≤ len old + k
    pub fits : len old ≤ old.capacity → len new ≤ new.capacity
    pub full : min needed new.capacity ≤ len new

  holds : {hint : Option ℕ} (old : Vector T A) (k : ℕ) (xs : List T) (new : Vector T A)
      → length xs ≤ min (len old + k) (max (len old) old.capacity) → Holds old xs new
      → Change hint old k new
  holds old k xs new h b =
      record {
        needed = len new;
        moves = λ w. kept b.block;
        longest = omega (arith, ap length b.items);
        fits = λ w. omega (arith, ap length b.items, b.block.capacity);
        full = omega arith;
      }

  -- the same of an equation
  becomes : {hint : Option ℕ} (old : Vector T A) (k : ℕ) (xs : List T) (n j : ℕ) (new : Vector T A)
      → length xs ≤ min (len old + k) (max (len old) old.capacity) → Becomes old xs n j new
      → Change hint old k new
  becomes old k xs n j new h e = holds old k xs new h (Holds-becomes old xs n j new e)

  grows_by : {hint : Option ℕ} (old : Vector T A) (k : ℕ) (xs : List T) (n j : ℕ) (new : Vector T A)
      → length xs ≡ len old + k → Becomes (with_room size old (len old) k) xs n j new
      → Change hint old k new
  grows_by {hint} old k xs n j new h e =
      let g = GrowsTo-becomes old xs n j new size k e in let n : ℕ = len old in
      let l : len new ≡ n + k = ap length g.items ∙ h in
      let moves : n ≤ old.capacity → Moves hint (n + k) old new = λ w.
      elim (cases_lt old.capacity (n + k)) [
        | inr le ↦ kept (MakesRoom-unchanged size n k old new g.room (omega (arith, le)))
        | inl lt ↦ grown n k w lt lt (λ none. omega arith) g.room (kept (SameBlock-refl new))
      ] in
      record {
        needed = n + k;
        moves = moves;
        longest = omega (arith, l);
        fits =
            λ w. omega (
              arith,
              l,
              w,
              MakesRoom-has size n k old new g.room,
              MakesRoom-rises size n k old new g.room,
            );
        full = omega (arith, l);
      }

  grown_in_steps : (hint : Option ℕ) (needed : ℕ) {u v : Vector T A}
      → GrowsInSteps size (lower_bound_of hint) needed u v → Moves hint needed u v
  grown_in_steps hint needed {u} {v} (unchanged b) = kept (block_of u v b)
  grown_in_steps hint needed (grows {old = u} h r) =
      grown u.capacity (asks size (lower_bound_of hint) needed u) (omega arith) (omega arith) h
      (λ none. subst (λ x. u.capacity + asks size (lower_bound_of x) needed u ≤ needed)
      (sym none) (omega (arith, h))) (grown_room size (lower_bound_of hint) needed u)
      (grown_in_steps hint needed r)

  -- all were put there, or the places that there are were filled
  ends : (lower : ℕ → ℕ) (old : Vector T A) (added : List T) (r : Result Unit TryReserveError)
      (new : Vector T A) → Extends size lower old old.items added r new
      → min (len old + length added) new.capacity ≤ len new
  ends lower old added (Ok x) new e = grind (arith, length-append, e.items, e.begins, e.all)
  ends lower old added (Err x) new e =
      omega (arith, ap length e.items ∙ length-append old.items e.front, e.error.1)

  extends : (hint : Option ℕ) (old : Vector T A) (added : List T) (r : Result Unit TryReserveError)
      (new : Vector T A) → Extends size (lower_bound_of hint) old old.items added r new
      → Change hint old (len new - len old) new
  extends hint old added r new e =
      let l = ap length e.items ∙ length-append old.items e.front in
      record {
        needed = len old + length added;
        moves = λ w. grown_in_steps hint _ e.in_steps;
        longest = omega arith;
        fits = λ w. omega (arith, l, e.fits);
        full = ends (lower_bound_of hint) old added r new e;
      }

  same : {hint : Option ℕ} (old new : Vector T A) → new ≡ old → Change hint old 0 new
  same old new e =
      rw e (holds old 0 old.items old (omega arith)
      (record { items = refl; block = SameBlock-refl old }))

  -- what a command that succeeded has made of main
  change_done : (main side : Vector T A) (command : Command T A) (reply : Reply T)
      (main' side' : Vector T A) → AddsOrRemoves command → InRange main command
      → Succeeds size main side command reply main' side'
      → Change (hint_of command) main (added_by main side command reply main') main'
  change_done main side (Push x) Done main' side' a r m =
      grows_by main 1 _ 1 1 main' (length-append main.items (x ∷ [])) m.0
  change_done main side (Within x) Done main' side' a r m =
      becomes main 1 _ 1 1 main' (omega (arith, m.0.0, length-append main.items (x ∷ []))) m.0.1
  change_done main side Pop (Item y) main' side' a r m =
      becomes main 0 main'.items 0 0 main'
      (omega (arith, ap length m.0.0, length-append main'.items (y ∷ []))) m.0.1
  change_done main side (Insert i x) Done main' side' a r m =
      grows_by main 1 _ _ _ main'
      (omega (
        arith,
        r,
        length-append (take i main.items) (x ∷ drop i main.items),
        length-take i main.items,
        length-drop i main.items,
      )) m.0
  change_done main side (Remove i) (Item y) main' side' a r m =
      becomes main 0 _ _ _ main'
      (omega (
        arith,
        length-append (take i main.items) (drop (suc i) main.items),
        length-take i main.items,
        length-drop (suc i) main.items,
      )) m.0.1
  change_done main side (SwapRemove i) (Item y) main' side' a r m =
      becomes main 0 _ _ _ main'
      (omega (
        arith,
        length-take (len main - 1)
            (slice_set main.items i (slice_index_or main.items (len main - 1) y)),
        length-set main.items i (slice_index_or main.items (len main - 1) y),
      )) m.0.1
  change_done main side (Truncate n) Done main' side' a r m =
      becomes main 0 _ 0 0 main' (omega (arith, length-take n main.items)) m.0
  change_done main side Clear Done main' side' a r m = becomes main 0 _ 0 0 main' (omega arith) m.0
  change_done main side Append Done main' side' a r m =
      grows_by main (len side) _ _ _ main' (length-append main.items side.items) m.0
  change_done main side (Extend items hint) Done main' side' a r m =
      extends hint main items.items (Ok tt) main' m.0
  change_done main side (Drain start end front back keep) Done main' side' a r m =
      holds main 0 _ main'
      (omega (
        arith,
        length-remaining_of main.items (ends_of start end front back) keep r.0
            r.1,
      )) m.0
  change_done main side command reply main' side' a r m = search (rules, same)

  -- what one that failed has left of it
  change_failed : (sure : Type 0) (main side : Vector T A) (command : Command T A)
      (kind : TryReserveErrorKind) (main' : Vector T A) → AddsOrRemoves command
      → FailsWith size sure main side command (record { kind = kind }) main'
      → Change (hint_of command) main (added_by main side command (Refused kind) main') main'
  change_failed sure main side (Extend items hint) kind main' a s =
      extends hint main items.items (Err (record { kind = kind })) main' s
  change_failed sure main side command kind main' a s = search (rules, same)

  -- and one whose range is out of bounds
  change_range : (main side : Vector T A) (command : Command T A) (main' : Vector T A)
      → AddsOrRemoves command → main' ≡ main
      → Change (hint_of command) main (added_by main side command Range main') main'
  change_range main side (Extend items hint) main' a e =
      let none : len main' - len main ≡ 0 = omega (arith, ap len e) in rw none (same main main' e)
  change_range main side command main' a e = same main main' e

  change_lists : (sure : Type 0) (main side : Vector T A) (command : Command T A) (reply : Reply T)
      (main' side' : Vector T A) → AddsOrRemoves command
      → Replies size sure main side command reply main' side'
      → Change (hint_of command) main (added_by main side command reply main') main'
  change_lists sure main side command Range main' side' a s =
      change_range main side command main' a s.1
  change_lists sure main side command (Refused kind) main' side' a s =
      change_failed sure main side command kind main' a s.2
  change_lists sure main side command reply main' side' a s =
      change_done main side command reply main' side' a s.0 s.1

  module _ {K S : Type 0} (calls : Calls T A K S) where
    pub change_of : (old : State T A K S) (command : Command T A) (results : List Bool)
        (reply : Reply T) (new : State T A K S) → AddsOrRemoves command
        → Step size calls old command results reply new
        → Change (hint_of command) old.main (added_by old.main old.side command reply new.main)
        new.main
    change_of old Retain results reply new a s =
        let r = s.retains in
        holds old.main 0 _ new.main
        (omega (
          arith,
          asked_parts r.calls,
          asked_count calls.keeps old.keep new.keep old.main.items r.calls r.called,
        ))
        (Holds-becomes _ _ _ _ _ r.becomes)
    change_of old Dedup results reply new a s =
        let r = s.removes in
        holds old.main 0 _ new.main (omega (arith, r.fewer, ap (λ v. length v.items) r.becomes))
        (Holds-becomes _ _ _ _ _ r.becomes)
    change_of old (ExtractIf start end count) results Done new a s =
        let t = s.takes in
        holds old.main 0 _ new.main
        (omega (
          arith,
          length-taken_out calls.keeps size old start end count new s.in_range.0
              s.in_range.1 t,
        )) t.leaves
    change_of old command results reply new a s = search (rules, a, s, change_lists)
