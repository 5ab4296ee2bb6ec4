-- The capacity that a reserve made lasts for as many pushes.
use Rattle.allocator_api2.proofs.Common.{AllByRecursion, Done, GrowsTo-becomes, HasRoom, Holds-becomes, IsDone, List, MakesRoom-has, PushesWithin, Replies, Reply, ReserveHolds, Vector, Within, [], ap, arith, len, length, length-append, rules, ℕ, ⊤, ◌++◌, ◌+◌, ◌-◌, ◌∷◌, ◌≤◌}

module _ {T A : Type 0} (size : ℕ) where
  -- a push within the capacity succeeds, and leaves spare capacity for one fewer
  push_done : (k : ℕ) (main side : Vector T A) (x : T) (reply : Reply T) (main' side' : Vector T A)
      → HasRoom main (k + 1) → Replies size ⊤ main side (Within x) reply main' side' → IsDone reply
      × HasRoom main' k
  push_done k main side x Done main' side' h s = (
    tt,
    grind (
      arith,
      Holds-becomes main (main.items ++ x ∷ []) 1 1 main' s.1.0.1,
      length-append main.items (x ∷ []),
    ),
  )
  push_done k main side x reply main' side' h s = search rules

  all_done : (k : ℕ) (main side : Vector T A) (xs : List T) (replies : List (Reply T))
      → HasRoom main k → PushesWithin size main side xs replies → length xs ≤ k
      → AllByRecursion IsDone replies
  all_done k main side [] [] h p l = tt
  all_done k main side (x ∷ xs) (reply ∷ replies) h p l =
      let here = push_done (k - 1) main side x reply p.0 p.1 (omega (arith, h, l)) p.2 in
      (here.0, all_done (k - 1) p.0 p.1 xs replies here.1 p.3 (omega (arith, l)))
  all_done k main side xs replies h p l = absurd p

  pub reserve_holds : ReserveHolds T A size
  reserve_holds k main side main' side' xs replies s p l =
      let made = GrowsTo-becomes main main.items 0 0 main' size k s.1.0 in
      all_done k main' side' xs replies
      (omega (
        arith,
        ap length made.items,
        MakesRoom-has size (len main) k main main' made.room,
      )) p l
