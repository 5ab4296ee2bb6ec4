-- A run that is not at its end.
use Rattle.allocator_api2.proofs.Common.{AddsOrRemoves, AllByRecursion, Calls, Command, IsPossible, IsRun, List, PerformsStep, Reply, RunsWithin, State, Turn, [], append-nil, append_assoc, arith, greatest_length, map, map-append, max, refl, subst, sym, ℕ, ◌++◌, ◌∙◌, ◌∷◌, ◌≡◌, ◌≤◌}
use Rattle.allocator_api2.proofs.Paid.{places_for, places_for-le, places_for-sparing}
use Rattle.allocator_api2.proofs.WholeRuns.{IsUnhinted, paid_from_empty, placed_from_empty, writes_law}

module _ {T A K S : Type 0} (size : ℕ) (calls : Calls T A K S) where
  -- two runs, one after the other, are one
  pub IsRun-append : (old : State T A K S) (ts : List (Turn T A K S)) (mid : State T A K S)
      (us : List (Turn T A K S)) (new : State T A K S) → IsRun size calls old ts mid
      → IsRun size calls mid us new → IsRun size calls old (ts ++ us) new
  IsRun-append old [] mid us new r s = subst (λ m. IsRun size calls m us new) r s
  IsRun-append old (t ∷ ts) mid us new r s = (r.0, r.1, IsRun-append t.after ts mid us new r.2 s)

  -- of all commands those of `rest` remain
  pub record HasRun (old : State T A K S) (all : List (Command T A)) (before : List (Reply T))
      (rest : List (Command T A)) (replies : List (Reply T)) (now : State T A K S) : Type 0 where
    pub turns : List (Turn T A K S)
    pub run : IsRun size calls old turns now
    pub commands_are : map (λ t. t.command) turns ++ rest ≡ all
    pub replies_are : replies ≡ before ++ map (λ t. t.reply) turns
    pub began : IsPossible old.main old.side

  pub HasRun-start : (old : State T A K S) (all : List (Command T A)) (before : List (Reply T))
      → IsPossible old.main old.side → HasRun old all before all before old
  HasRun-start old all before possible = grind (arith, append-nil)

  pub HasRun-more : {old : State T A K S} {all : List (Command T A)}
      {before replies replies' : List (Reply T)} {rest : List (Command T A)}
      {now new : State T A K S} {command : Command T A} {reply : Reply T}
      → HasRun old all before (command ∷ rest) replies now
      → PerformsStep size calls now command reply new → IsPossible new.main new.side → replies'
      ≡ replies ++ reply ∷ [] → HasRun old all before rest replies' new
  HasRun-more {old = old} {before = before} {now = now} {new} {command} {reply} h s possible e =
      let t : Turn T A K S =
      record {
        before = now;
        command = command;
        results = s.results;
        reply = reply;
        after = new;
      } in
      let run = IsRun-append old h.turns now (t ∷ []) new h.run
      (refl, record { step = s.step; writes = s.writes; possible = possible }, refl) in
      grind (arith, run, h, e, map-append, append_assoc)

  -- a run with no remaining command
  pub HasRun-end : {old : State T A K S} {all : List (Command T A)}
      {before replies : List (Reply T)} {now : State T A K S} → HasRun old all before [] replies now
      → (answered : List (Reply T)) × (replies ≡ before ++ answered)
      × RunsWithin size calls old all answered now
  HasRun-end {old = old} {all = all} {now = now} h =
      let are : map (λ t. t.command) h.turns ≡ all = sym (append-nil _) ∙ h.commands_are in
      let g = old.main.growth in let most = greatest_length h.turns in
      let paid = λ (empty : old.main.items ≡ []) (plain : AllByRecursion AddsOrRemoves all).
      paid_from_empty size calls old h.turns now h.run empty
      (subst (AllByRecursion AddsOrRemoves) (sym are) plain) in
      let placed = λ (empty : old.main.items ≡ []) (none : old.main.capacity ≡ 0)
      (plain : AllByRecursion IsUnhinted all).
      (placed_from_empty size calls old h.turns now h.run empty none
      (subst (AllByRecursion IsUnhinted) (sym are) plain)).few in (
        map (λ t. t.reply) h.turns,
        h.replies_are,
        record {
          run = record {
            possible = h.began;
            turns = h.turns;
            run = h.run;
            commands_are = are;
            replies_are = refl;
          };
          growth = λ empty plain. (paid empty plain).moved;
          blocks = λ empty plain. (paid empty plain).few;
          capacity = λ empty none plain.
              omega (arith, (placed empty none plain).places, places_for-le g most);
          sparing = λ grows empty none plain.
              omega (
                arith,
                subst (λ g. now.main.capacity ≤ places_for g most) grows
                    (placed empty none plain).places,
                places_for-sparing most,
              );
          held = λ empty none plain. (placed empty none plain).held;
          writes = writes_law size calls old h.turns now h.run;
        },
      )
