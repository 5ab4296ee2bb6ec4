-- Pushes within the capacity, as the turns of a run.
use Rattle.std.proofs.Common.{◌≡◌, ℕ, List, [], ◌∷◌, drop, length, map, get_or, refl, sym, ap}
use Rattle.std.proofs.Common.{◌∙◌, arith, subst}
use Rattle.std.specs.List.{AllByRecursion}
use Rattle.std.specs.Prelude.{⊤}
use Rattle.allocator_api2.specs.Laws.{IsDone, PushesWithin, ReserveHolds}
use Rattle.allocator_api2.specs.Machine.{Replies, Calls, State, Step}
use Rattle.allocator_api2.specs.Run.{Turn, IsRun, RunsTo}
use Rattle.allocator_api2.specs.Vector.{Vector}
use Rattle.allocator_api2.specs.declared.runner.Command.{Command}
use Rattle.allocator_api2.specs.declared.runner.Command.TheVariants.{Reserve, Within}
use Rattle.allocator_api2.specs.declared.runner.Reply.{Reply}
use Rattle.allocator_api2.specs.declared.runner.Reply.TheVariants.{Done, Item, Nothing, Back}
use Rattle.allocator_api2.specs.declared.runner.Reply.TheVariants.{Refused, Range}

module _ {T A : Type 0} (size : ℕ) (sure : Type 0) (main side : Vector T A) where
  -- the reply to a push does not depend on whether the allocator can be cloned
  of_push : (x : T) (reply : Reply T) (main' side' : Vector T A)
      → Replies size sure main side (Within x) reply main' side'
      → Replies size ⊤ main side (Within x) reply main' side'
  of_push x Done main' side' r = r
  of_push x (Item y) main' side' r = r
  of_push x Nothing main' side' r = r
  of_push x (Back y) main' side' r = r
  of_push x (Refused kind) main' side' r = r
  of_push x Range main' side' r = r

  -- nor does that to a reserve which succeeds
  of_reserve : (k : ℕ) (reply : Reply T) (main' side' : Vector T A)
      → IsDone reply → Replies size sure main side (Reserve k) reply main' side'
      → Replies size ⊤ main side (Reserve k) Done main' side'
  of_reserve k Done main' side' done r = r
  of_reserve k reply main' side' done r = absurd done

module _ {T A K S : Type 0} (size : ℕ) (calls : Calls T A K S) where
  step_of : (t : Turn T A K S) (command : Command T A) → t.command ≡ command
      → Step size calls t.before t.command t.results t.reply t.after
      → Step size calls t.before command t.results t.reply t.after
  step_of t command e = subst (λ c. Step size calls t.before c t.results t.reply t.after) e

  -- turns of which each is a push within the capacity
  pushes : (xs : List T) (turns : List (Turn T A K S)) (old new : State T A K S)
      → IsRun size calls old turns new
      → map (λ t. t.command) turns ≡ map (λ x. Within x) xs
      → PushesWithin size old.main old.side xs (map (λ t. t.reply) turns)
  pushes [] [] old new run e = tt
  pushes (x ∷ xs) (t ∷ ts) old new run e =
      let step = step_of t (Within x) (ap (λ l. get_or l 0 (Within x)) e) run.1.step in
      let sure = calls.infallible t.before.main.alloc in
      let done = of_push size sure t.before.main t.before.side x t.reply t.after.main t.after.side step.lists in (
        t.after.main,
        t.after.side,
        subst (λ s. Replies size ⊤ s.main s.side (Within x) t.reply t.after.main t.after.side)
            run.0 done,
        pushes xs ts t.after new run.2 (ap (drop 1) e),
      )
  pushes [] (t ∷ ts) old new run e = omega (arith, ap length e)
  pushes (x ∷ xs) [] old new run e = omega (arith, ap length e)

  of_turns : (xs : List T) (turns : List (Turn T A K S)) (old new : State T A K S)
      → ReserveHolds T A size → IsRun size calls old turns new
      → map (λ t. t.command) turns ≡ Reserve (length xs) ∷ map (λ x. Within x) xs
      → (first : Reply T) × (others : List (Reply T))
      × (map (λ t. t.reply) turns ≡ first ∷ others) × (IsDone first → AllByRecursion IsDone others)
  of_turns xs (t ∷ ts) old new holds run e =
      let step = step_of t (Reserve (length xs)) (ap (λ l. get_or l 0 (Reserve 0)) e) run.1.step in
      let sure = calls.infallible t.before.main.alloc in
      let reserved = of_reserve size sure t.before.main t.before.side (length xs) t.reply in (
        t.reply,
        map (λ t. t.reply) ts,
        refl,
        λ done. holds (length xs) t.before.main t.before.side t.after.main t.after.side xs
            (map (λ t. t.reply) ts) (reserved t.after.main t.after.side done step.lists)
            (pushes xs ts t.after new run.2 (ap (drop 1) e)) (omega arith),
      )
  of_turns xs [] old new holds run e = absurd (omega (arith, ap length e))

module _ {T A K S : Type 0} {size : ℕ} {calls : Calls T A K S} where
  -- a run of a reserve, and of a push for each element that it reserves for: if the reserve
  -- succeeds, so do all pushes
  pub after_reserve : {old new : State T A K S} {commands : List (Command T A)} {replied : List (Reply T)}
      → RunsTo size calls old commands replied new
      → ReserveHolds T A size → (xs : List T) → commands ≡ Reserve (length xs) ∷ map (λ x. Within x) xs
      → (first : Reply T) × (others : List (Reply T))
      × (replied ≡ first ∷ others) × (IsDone first → AllByRecursion IsDone others)
  after_reserve {old} {new} r holds xs e =
      let found = of_turns size calls xs r.turns old new holds r.run (r.commands_are ∙ e) in
      (found.0, found.1, sym r.replies_are ∙ found.2, found.3)
