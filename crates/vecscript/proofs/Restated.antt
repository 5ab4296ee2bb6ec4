-- A run whose closures are described in other words: if those say what each call does, they say it of the run.
use Rattle.vecscript.proofs.Common.{ℕ, Bool, true, false, rules, List, [], ◌∷◌, Option, IfSome, IfSome_then, Global, lines, SplitOff, ExtractIf, Reply, Command, State, Calls, Turn, IsRun, element_size, IsTranscript}
use Rattle.std.specs.Prelude.{◌≡◌}
use Rattle.std.proofs.Common.{subst}
use Rattle.aa_vec.specs.Choosing.{Call, CalledInOrder, Retains, ChainsFrom, Deduplicated, Deduplicates}
use Rattle.allocator_api2.specs.declared.runner.Command.TheVariants.{Retain, Dedup}
use Rattle.allocator_api2.specs.declared.runner.Reply.TheVariants.{Done}
use Rattle.allocator_api2.specs.Machine.{Replies as Lists, CallsNone, Step, TakesOut}
use Rattle.allocator_api2.specs.Run.{RunsTo}

module _ {K S : Type 0} (calls restated : Calls ℕ Global K S)
    (keeps : (k : K) (x : ℕ) (result : Bool) (l : K) (y : ℕ) → calls.keeps k x result l y → restated.keeps k x result l y)
    (repeats : (s : S) (x l : ℕ) (result : Bool) (r : S) (y k : ℕ) → calls.repeats s x l result r y k → restated.repeats s x l result r y k)
    (clones : (a b : Global) → calls.clones a b → restated.clones a b)
    (infallible : calls.infallible ≡ restated.infallible) where
  asked-restated : (k : K) (xs : List ℕ) (ys : List (Call ℕ)) (l : K) → CalledInOrder calls.keeps k xs ys l → CalledInOrder restated.keeps k xs ys l
  asked-restated k [] [] l a = a
  asked-restated k (x ∷ xs) (y ∷ ys) l a = (a.0, keeps k x y.result a.0 y.left a.1, asked-restated a.0 xs ys l a.2)
  asked-restated k xs ys l a = absurd a

  chained-restated : (s : S) (l : ℕ) (xs : List ℕ) (results : List Bool) (r : S) (ys : List ℕ) → ChainsFrom calls.repeats s l xs results r ys → ChainsFrom restated.repeats s l xs results r ys
  chained-restated s l [] [] r ys c = c
  chained-restated s l (x ∷ xs) (true ∷ results) r ys c = (c.0, c.1, c.2, repeats s x l true c.0 c.1 c.2 c.3, chained-restated c.0 c.2 xs results r ys c.4)
  chained-restated s l (x ∷ xs) (false ∷ results) r ys c = (c.0, c.1, c.2, c.3, repeats s x l false c.0 c.1 c.2 c.4, chained-restated c.0 c.1 xs results r c.3 c.5, c.6)
  chained-restated s l xs results r ys c = absurd c

  deduplicated-restated : (s : S) (xs : List ℕ) (results : List Bool) (r : S) (ys : List ℕ) → Deduplicated calls.repeats s xs results r ys → Deduplicated restated.repeats s xs results r ys
  deduplicated-restated s [] results r ys d = d
  deduplicated-restated s (x ∷ xs) results r ys d = chained-restated s x xs results r ys d

  none-restated : (old : State ℕ Global K S) (command : Command ℕ Global) (results : List Bool) (reply : Reply ℕ) (new : State ℕ Global K S)
      → CallsNone element_size calls old command results reply new → CallsNone element_size restated old command results reply new
  none-restated old command results reply new s =
      let lists = subst (λ (f : Global → Type 0). Lists element_size (f old.main.alloc) old.main old.side command reply new.main new.side) infallible s.lists in
      search (s, lists)

  Step-restated : (old : State ℕ Global K S) (command : Command ℕ Global) (results : List Bool) (reply : Reply ℕ) (new : State ℕ Global K S)
      → Step element_size calls old command results reply new → Step element_size restated old command results reply new
  Step-restated old (SplitOff at) results reply new s = search (none-restated old (SplitOff at) results reply new s.cut, s.tail_clone, s.head_clone, clones)
  Step-restated old Retain results reply new s =
      let kept : Retains restated.keeps old.keep old.main new.keep new.main = search (asked-restated _ _ _ _ s.retains.called) in
      record { done = s.done; side = s.side; same = s.same; retains = kept; called = s.called }
  Step-restated old Dedup results reply new s =
      let kept : Deduplicates restated.repeats old.same old.main new.same new.main = search (deduplicated-restated _ _ _ _ _ s.removes.called) in
      record { done = s.done; side = s.side; keep = s.keep; removes = kept; called = s.called }
  Step-restated old (ExtractIf start end count) results Done new s =
      let taken : TakesOut restated.keeps element_size old start end count new = search (asked-restated _ _ _ _ s.takes.called) in
      record { in_range = s.in_range; same = s.same; takes = taken; called = s.called }
  Step-restated old command results reply new s = none-restated old command results reply new s

  IsRun-restated : (old : State ℕ Global K S) (turns : List (Turn ℕ Global K S)) (new : State ℕ Global K S) → IsRun element_size calls old turns new → IsRun element_size restated old turns new
  IsRun-restated old [] new run = run
  IsRun-restated old (t ∷ ts) new run = search (rules, Step-restated, IsRun-restated t.after ts new run.2)

  RunsTo-restated : (old : State ℕ Global K S) (commands : List (Command ℕ Global)) (replies : List (Reply ℕ)) (new : State ℕ Global K S)
      → RunsTo element_size calls old commands replies new → RunsTo element_size restated old commands replies new
  RunsTo-restated old commands replies new r = search (IsRun-restated _ r.turns _ r.run)

  IsTranscript-restated : (alloc : Global) (keep : K) (same : S) (lines : List (List ℕ)) (text : List ℕ)
      → IsTranscript calls alloc keep same lines text → IsTranscript restated alloc keep same lines text
  IsTranscript-restated alloc keep same lines text a = search (RunsTo-restated _ _ _ _ a.prints.run)

  -- and of all that is printed of a known text, or of a beginning of it
  pub printed-restated : (Prints : List ℕ → Type 0) (alloc : Global) (keep : K) (same : S) (text : Option (List ℕ))
      → IfSome text (λ bytes. (result : List ℕ) × IsTranscript calls alloc keep same (lines bytes) result × Prints result)
      → IfSome text (λ bytes. (result : List ℕ) × IsTranscript restated alloc keep same (lines bytes) result × Prints result)
  printed-restated Prints alloc keep same text p =
      IfSome_then text p (λ bytes q. (q.0, IsTranscript-restated alloc keep same (lines bytes) q.0 q.1, q.2))
