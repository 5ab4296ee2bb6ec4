-- What a list of commands added, where each adds at most one element.
use Rattle.allocator_api2.proofs.Common.{AddsOneAtMost, AddsOrRemoves, AllByRecursion, Append, Calls, Command, FewBlocks, FewBlocks-more, Growth, List, Reply, RunsWithin, State, Turn, Vector, [], added, added_by, ap, arith, length, length-map, map, moves_each, rules, subst, sum_by, sum_by-cons, sym, ℕ, ◌*◌, ◌+◌, ◌-◌, ◌∷◌, ◌≡◌, ◌≤◌}

pub moves_each-le : (G : Growth) (grown paid n k : ℕ) → n ≤ k → grown ≤ paid + moves_each G * n
    → grown ≤ paid + moves_each G * k
moves_each-le G grown paid n k le h = grind arith

module _ {T A : Type 0} where
  adds_or_removes : (command : Command T A) → AddsOneAtMost command → AddsOrRemoves command
  adds_or_removes Append a = absurd a
  adds_or_removes command a = search rules

  pub all_add_or_remove : (commands : List (Command T A)) → AllByRecursion AddsOneAtMost commands
      → AllByRecursion AddsOrRemoves commands
  all_add_or_remove [] a = tt
  all_add_or_remove (command ∷ commands) a =
      (adds_or_removes command a.0, all_add_or_remove commands a.1)

  one_at_most : (main side : Vector T A) (command : Command T A) (reply : Reply T)
      (main' : Vector T A) → AddsOneAtMost command → added_by main side command reply main' ≤ 1
  one_at_most main side Append reply main' a = absurd a
  one_at_most main side command reply main' a = grind (arith, a)

module _ {T A K S : Type 0} where
  -- no more was added than there were commands
  pub added-le : (turns : List (Turn T A K S))
      → AllByRecursion AddsOneAtMost (map (λ t. t.command) turns) → sum_by added turns
      ≤ length turns
  added-le [] a = omega arith
  added-le (t ∷ ts) a =
      let one = one_at_most t.before.main t.before.side t.command t.reply t.after.main a.0 in
      let rest = added-le ts a.1 in
      omega (arith, sum_by-cons added t ts)

  module _ {size : ℕ} {calls : Calls T A K S} {old new : State T A K S}
      {commands : List (Command T A)} {replies : List (Reply T)}
      (r : RunsWithin size calls old commands replies new)
      (empty : old.main.items ≡ []) (a : AllByRecursion AddsOneAtMost commands) where
    few : sum_by added r.run.turns ≤ length commands
    few = omega (
      arith,
      added-le r.run.turns (subst (AllByRecursion AddsOneAtMost) (sym r.run.commands_are) a),
      simp length-map at (ap length r.run.commands_are),
    )

    -- so from an empty vector growth moved at most twice as many elements as there were commands,
    -- or three times as many if sparing
    pub grown-le : new.main.grown.moved
        ≤ old.main.grown.moved + moves_each old.main.growth * length commands
    grown-le = moves_each-le old.main.growth _ _ (sum_by added r.run.turns) (length commands) few
        (r.growth empty (all_add_or_remove commands a))

    -- and it allocated few blocks for so many
    pub blocks-le : FewBlocks old.main.growth (new.main.grown.blocks - old.main.grown.blocks)
        (length commands)
    blocks-le = FewBlocks-more old.main.growth _ (sum_by added r.run.turns) (length commands) few
        (r.blocks empty (all_add_or_remove commands a))

  -- each command has one reply
  pub replies-count : {size : ℕ} {calls : Calls T A K S} {old new : State T A K S}
      {commands : List (Command T A)} {replies : List (Reply T)}
      → RunsWithin size calls old commands replies new → length replies ≡ length commands
  replies-count r =
      omega (
        arith,
        simp length-map at (ap length r.run.replies_are),
        simp length-map at (ap length r.run.commands_are),
      )
