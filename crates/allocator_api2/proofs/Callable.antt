-- Closures that may be called as a run calls them: in states that remain good, and with any
-- arguments.
use Rattle.allocator_api2.proofs.Common.{Bool, Call, CalledInOrder, Calls, ChainsFrom, Command, Dedup, Deduplicated, Done, ExtractIf, IsCallableOnRuns, List, MayCall, MayCallInOrder, MayChainFrom, MayDeduplicate, MayRun, Reply, Retain, State, Step, [], false, length, rules, slice_range, subst, sym, take, true, ℕ, ⊤, ◌∷◌}

module _ {T A K S : Type 0} (size : ℕ) (calls : Calls T A K S) where
  -- closures whose good states take every element, and lead to good states alone
  module _ (good_keep : K → Type 0) (good_same : S → Type 0)
      (keep_takes : (k : K) (x : T) → good_keep k → calls.keep_callable k x)
      (keep_stays : (k next : K) (x y : T) (answer : Bool) → good_keep k
      → calls.keeps k x answer next y → good_keep next)
      (same_takes : (s : S) (x y : T) → good_same s → calls.same_callable s x y)
      (same_stays : (s next : S) (x y x' y' : T) (answer : Bool) → good_same s
      → calls.repeats s x y answer next x' y' → good_same next) where
    may_ask : (k : K) (xs : List T) → good_keep k
        → MayCallInOrder calls.keeps calls.keep_callable k xs
    may_ask k [] good = tt
    may_ask k (x ∷ xs) good = (
      keep_takes k x good,
      λ answer next y called.
          may_ask next xs (keep_stays k next x y answer good called),
    )

    may_chain : (s : S) (l : T) (xs : List T) → good_same s
        → MayChainFrom calls.repeats calls.same_callable s l xs
    may_chain s l [] good = tt
    may_chain s l (x ∷ xs) good = (
      same_takes s x l good,
      λ next y k called. may_chain next k xs (same_stays s next x l y k true good called),
      λ next y k called. may_chain next y xs (same_stays s next x l y k false good called),
    )

    may_deduplicate : (s : S) (xs : List T) → good_same s
        → MayDeduplicate calls.repeats calls.same_callable s xs
    may_deduplicate s [] good = tt
    may_deduplicate s (x ∷ xs) good = may_chain s x xs good

    may_call : (s : State T A K S) (command : Command T A) → good_keep s.keep → good_same s.same
        → MayCall size calls s command
    may_call s Retain k r = record { along = may_ask s.keep s.main.items k }
    may_call s Dedup k r = record { along = may_deduplicate s.same s.main.items r }
    may_call s (ExtractIf start end count) k r =
        record { along = may_ask s.keep (slice_range s.main.items start end) k }
    may_call s _ k r = tt

    asked_stays : (k g : K) (xs : List T) (asked : List (Call T)) → good_keep k
        → CalledInOrder calls.keeps k xs asked g → good_keep g
    asked_stays k g [] [] good e = subst good_keep (sym e) good
    asked_stays k g (x ∷ xs) (y ∷ ys) good e =
        asked_stays e.0 g xs ys (keep_stays k e.0 x y.left y.result good e.1) e.2
    asked_stays k g xs ys good e = absurd e

    chained_stays : (s t : S) (l : T) (xs ys : List T) (results : List Bool) → good_same s
        → ChainsFrom calls.repeats s l xs results t ys → good_same t
    chained_stays s t l [] ys [] good e = subst good_same (sym e.0) good
    chained_stays s t l (x ∷ xs) ys (true ∷ results) good e =
        chained_stays e.0 t e.2 xs ys results (same_stays s e.0 x l e.1 e.2 true good e.3) e.4
    chained_stays s t l (x ∷ xs) ys (false ∷ results) good e =
        chained_stays e.0 t e.1 xs e.3 results (same_stays s e.0 x l e.1 e.2 false good e.4) e.5
    chained_stays s t l xs ys results good e = absurd e

    deduplicated_stays : (s t : S) (xs ys : List T) (results : List Bool) → good_same s
        → Deduplicated calls.repeats s xs results t ys → good_same t
    deduplicated_stays s t [] ys results good e = subst good_same (sym e.1) good
    deduplicated_stays s t (x ∷ xs) ys results good e = chained_stays s t x xs ys results good e

    step_stays : (s next : State T A K S) (command : Command T A) (results : List Bool)
        (reply : Reply T) → good_keep s.keep → good_same s.same
        → Step size calls s command results reply next → good_keep next.keep × good_same next.same
    step_stays s next Retain results reply k r step = (
      asked_stays s.keep next.keep s.main.items step.retains.calls k step.retains.called,
      subst good_same (sym step.same) r,
    )
    step_stays s next Dedup results reply k r step = (
      subst good_keep (sym step.keep) k,
      deduplicated_stays s.same next.same s.main.items step.removes.left step.removes.results r
          step.removes.called,
    )
    step_stays s next (ExtractIf start end count) results Done k r step = (
      asked_stays s.keep next.keep
          (take (length step.takes.calls) (slice_range s.main.items start end)) step.takes.calls k
          step.takes.called,
      subst good_same (sym step.same) r,
    )
    step_stays s next command results reply k r step = search (rules, step)

    may_run : (s : State T A K S) (commands : List (Command T A)) → good_keep s.keep
        → good_same s.same → MayRun size calls s commands
    may_run s [] k r = tt
    may_run s (command ∷ commands) k r = (
      may_call s command k r,
      λ results reply next step possible. let stays = step_stays s next command results reply k r
          step in may_run next commands stays.0 stays.1,
    )

    -- a run may begin where they are in such states
    pub IsCallable-invariant : (s : State T A K S) (commands : List (Command T A))
        → good_keep s.keep → good_same s.same → IsCallableOnRuns size calls s commands
    IsCallable-invariant s commands k r = record { along = λ possible. may_run s commands k r }

  -- closures that may be called with any arguments
  pub IsCallable-any : ((k : K) (x : T) → calls.keep_callable k x)
      → ((s : S) (x y : T) → calls.same_callable s x y)
      → (s : State T A K S) (commands : List (Command T A)) → IsCallableOnRuns size calls s commands
  IsCallable-any keep_any same_any s commands =
      IsCallable-invariant (λ k. ⊤) (λ r. ⊤) (λ k x good. keep_any k x)
      (λ k next x y answer good called. tt) (λ r x y good. same_any r x y)
      (λ r next x y x' y' answer good called. tt) s commands tt tt
