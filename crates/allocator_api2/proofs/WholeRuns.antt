-- Laws over whole runs.
use Rattle.allocator_api2.proofs.Common.{AddsOrRemoves, AllByRecursion, Calls, Command, FewBlocks-none, FewPlaces-none, Growth, Growths, IsRun, List, None, State, Turn, [], add-zero, added, ap, arith, cost, greatest_length, hint_of, len, length, map, max, refl, subst, sum_by, sum_by-cons, sym, zero-add, ℕ, ◌+◌, ◌∷◌, ◌≡◌, ◌≤◌}
use Rattle.allocator_api2.proofs.Paid.{IsPaid, IsPaid-change, IsPlaced, IsPlaced-change, Pays}
use Rattle.allocator_api2.proofs.Steps.{change_of}

-- the command has no hint
abbrev pub IsUnhinted : {T A : Type 0} → Command T A → Type 0
IsUnhinted command = AddsOrRemoves command × (hint_of command ≡ None)

module _ {T A K S : Type 0} (size : ℕ) (calls : Calls T A K S) where
  pub writes_law : (old : State T A K S) (ts : List (Turn T A K S)) (new : State T A K S)
      → IsRun size calls old ts new → new.main.written ≤ old.main.written + sum_by cost ts
  writes_law old [] new r = omega (arith, ap (λ s. s.main.written) r)
  writes_law old (t ∷ ts) new r =
      omega (
        arith,
        ap (λ s. s.main.written) r.0,
        sum_by-cons cost t ts,
        writes_law t.after ts new r.2,
        r.1.writes,
      )

  -- what is added is paid for, step by step
  paid_run : (G : Growth) (paid : Growths) (n : ℕ) (old : State T A K S) (ts : List (Turn T A K S))
      (new : State T A K S) → IsRun size calls old ts new → IsPaid size G paid n old.main
      → AllByRecursion AddsOrRemoves (map (λ t. t.command) ts)
      → IsPaid size G paid (n + sum_by added ts) new.main
  paid_run G paid n old [] new r p a = rw (r, add-zero) p
  paid_run G paid n old (t ∷ ts) new r p a =
      let q : IsPaid size G paid (n + added t) t.after.main = IsPaid-change size G paid
      (hint_of t.command) n _ t.before.main t.after.main (rw r.0 p)
      (change_of size calls t.before t.command t.results t.reply t.after a.0 r.1.step) in
      let e : n + sum_by added (t ∷ ts)
      ≡ n + added t + sum_by added ts = omega (arith, sum_by-cons added t ts) in
      subst (λ k. IsPaid size G paid k new.main) (sym e)
      (paid_run G paid (n + added t) t.after ts new r.2 q a.1)

  -- from an empty vector
  pub paid_from_empty : (old : State T A K S) (ts : List (Turn T A K S)) (new : State T A K S)
      → IsRun size calls old ts new → old.main.items ≡ []
      → AllByRecursion AddsOrRemoves (map (λ t. t.command) ts)
      → Pays old.main.growth old.main.grown (sum_by added ts) new.main.growth new.main.capacity
      new.main.grown
  paid_from_empty old ts new r empty plain =
      let start : IsPaid size old.main.growth old.main.grown 0 old.main = grind
      (arith, empty, FewPlaces-none, FewBlocks-none) in
      rw zero-add at (paid_run old.main.growth old.main.grown 0 old ts new r start plain).pays

  placed_run : (G : Growth) (before most : ℕ) (old : State T A K S) (ts : List (Turn T A K S))
      (new : State T A K S) → IsRun size calls old ts new → IsPlaced size G before most old.main
      → AllByRecursion IsUnhinted (map (λ t. t.command) ts)
      → IsPlaced size G before (max most (greatest_length ts)) new.main
  placed_run G before most old [] new r p a = rw r (let e : max most 0 ≡ most = omega arith in
      rw e p)
  placed_run G before most old (t ∷ ts) new r p a =
      let q = IsPlaced-change size G before (hint_of t.command) a.0.1 most _ t.before.main
      t.after.main (rw r.0 p)
      (change_of size calls t.before t.command t.results t.reply t.after a.0.0 r.1.step) in
      let e : max most (greatest_length (t ∷ ts))
      ≡ max (max most (len t.after.main)) (greatest_length ts) = omega arith in
      subst (λ k. IsPlaced size G before k new.main) (sym e)
      (placed_run G before (max most (len t.after.main)) t.after ts new r.2 q a.1)

  pub placed_from_empty : (old : State T A K S) (ts : List (Turn T A K S)) (new : State T A K S)
      → IsRun size calls old ts new → old.main.items ≡ [] → old.main.capacity ≡ 0
      → AllByRecursion IsUnhinted (map (λ t. t.command) ts)
      → IsPlaced size old.main.growth old.main.grown.held (greatest_length ts) new.main
  placed_from_empty old ts new r empty none plain =
      let start : IsPlaced size old.main.growth old.main.grown.held 0 old.main =
      record {
        fits = omega (arith, ap length empty);
        few = record { same = refl; places = omega (arith, none); held = omega arith };
      } in
      let e : max 0 (greatest_length ts) ≡ greatest_length ts = omega arith in
      subst (λ n. IsPlaced size old.main.growth old.main.grown.held n new.main) e
      (placed_run old.main.growth old.main.grown.held 0 old ts new r start plain)
