-- A command that returns a reply as the machine may is a step of the machine.
use Rattle.allocator_api2.proofs.Common.{Calls, CallsNone, Command, Dedup, Deduplicates, Done, ExtractIf, Option, Performs, PerformsOnMain, PerformsStep, Replies, Reply, Retain, Retains, Splice, SplitOff, Step, TakesChosen, TakesOut, Vector, [], refl, results_of, rules, state_of, state_with_keep, ℕ, ⊤, ◌<◌, ◌≡◌}

-- the command clones no allocator, so that it does not matter whether a clone may fail
abbrev ClonesNone : {T A : Type 0} → Command T A → Type 0
ClonesNone (SplitOff at) = ⊥
ClonesNone (Splice start end items hint) = ⊥
ClonesNone command = ⊤

-- so the same replies are possible
for_any : {T A : Type 0} (f g : Type 0) (size : ℕ) (main side : Vector T A) (command : Command T A)
    (reply : Reply T) (main' side' : Vector T A) → ClonesNone command
    → Replies size f main side command reply main' side'
    → Replies size g main side command reply main' side'
for_any f g size main side (SplitOff at) reply main' side' c a = absurd c
for_any f g size main side command reply main' side' c a = search rules

module _ {T A K S : Type 0} {size : ℕ} {calls : Calls T A K S} {main side main' : Vector T A}
    {k : K} {s : S} where
  -- where the command calls no closure
  none : {side' : Vector T A} (command : Command T A) (reply : Reply T) → ClonesNone command
      → Replies size ⊤ main side command reply main' side'
      → CallsNone size calls (state_of main side k s) command [] reply (state_of main' side' k s)
  none {side' = side'} command reply c a =
      record {
        none = refl;
        keep = refl;
        same = refl;
        lists =
            for_any ⊤ (calls.infallible main.alloc) size main side command reply main' side' c a;
      }

  module _ {reply : Reply T} {stated command : Command T A} (e : stated ≡ command) where
    pub takes_both : {side' : Vector T A} → ClonesNone command
        → (CallsNone size calls (state_of main side k s) command [] reply (state_of main' side' k s)
        → Step size calls (state_of main side k s) command [] reply (state_of main' side' k s))
        → Performs size ⊤ main side command reply main' side'
        → PerformsStep size calls (state_of main side k s) stated reply
        (state_of main' side' k s)
    takes_both c calls_none t =
        rw e (record {
          results = [];
          step = calls_none (none command reply c t.replies);
          writes = t.writes;
        })

    pub takes_alone : ClonesNone command
        → (CallsNone size calls (state_of main side k s) command [] reply (state_of main' side k s)
        → Step size calls (state_of main side k s) command [] reply (state_of main' side k s))
        → PerformsOnMain size main command reply main'
        → PerformsStep size calls (state_of main side k s) stated reply
        (state_of main' side k s)
    takes_alone c calls_none t = takes_both c calls_none (t side)

  module _ {side' : Vector T A} {k' : K} (start end count : ℕ) where
    pub takes_chosen : {reply : Reply T} {stated : Command T A} → stated ≡ ExtractIf start end count
        → TakesChosen size calls.keeps (state_with_keep main side k) start end count reply
        (state_with_keep main' side' k')
        → PerformsStep size calls (state_of main side k s) stated reply (state_of main' side' k' s)
    takes_chosen {reply = Done} e t =
        let takes : TakesOut calls.keeps size (state_of main side k s) start end count
        (state_of main' side' k' s) = search (rules, t.1) in
        rw e (record {
          results = results_of t.1.calls;
          step = record { in_range = t.0; same = refl; takes = takes; called = refl };
          writes = t.2;
        })
    takes_chosen {reply} e t =
        let lists = for_any ⊤ (calls.infallible main.alloc) size main side
        (ExtractIf start end count) reply main' side' tt t.1.replies in
        rw e (record {
          results = [];
          step = record { none = refl; keep = t.0; same = refl; lists = lists };
          writes = t.1.writes;
        })

  module _ {reply : Reply T} {stated : Command T A} where
    pub takes_cut : {side' : Vector T A} {at : ℕ} → stated ≡ SplitOff at
        → Performs size (calls.infallible main.alloc) main side (SplitOff at) reply main' side'
        → (reply ≡ Done → 0 < at → calls.clones main.alloc side'.alloc)
        → (reply ≡ Done → at ≡ 0 → calls.clones main.alloc main'.alloc)
        → PerformsStep size calls (state_of main side k s) stated reply
        (state_of main' side' k s)
    takes_cut {at = at} e t tail head =
        rw e (record {
          results = [];
          step =
              record {
                cut = record { none = refl; keep = refl; same = refl; lists = t.replies };
                tail_clone = tail;
                head_clone = head;
              };
          writes = t.writes;
        })

    pub takes_spliced : {start end : ℕ} {items : Vector T A} {hint : Option ℕ} → stated
        ≡ Splice start end items hint
        → ((side : Vector T A) → Performs size (calls.infallible main.alloc) main side
        (Splice start end items hint) reply main' side)
        → PerformsStep size calls (state_of main side k s) stated reply (state_of main' side k s)
    takes_spliced {start} {end} {items} {hint} e t = let d = t side in
        rw e (record {
          results = [];
          step = record { none = refl; keep = refl; same = refl; lists = d.replies };
          writes = d.writes;
        })

    pub takes_kept : {k' : K} → stated ≡ Retain → reply ≡ Done → Retains calls.keeps k main k' main'
        → PerformsStep size calls (state_of main side k s) stated reply (state_of main' side k' s)
    takes_kept e done r =
        rw (e, done) (record {
          results = results_of r.calls;
          step = record { done = refl; side = refl; same = refl; retains = r; called = refl };
          writes = search rules;
        })

    pub takes_fewer : {s' : S} → stated ≡ Dedup → reply ≡ Done
        → Deduplicates calls.repeats s main s' main'
        → PerformsStep size calls (state_of main side k s) stated reply (state_of main' side k s')
    takes_fewer e done r =
        rw (e, done) (record {
          results = r.results;
          step = record { done = refl; side = refl; keep = refl; removes = r; called = refl };
          writes = search rules;
        })

-- every command
pub ruleset replied =
    (takes_alone, takes_both, takes_chosen, takes_cut, takes_spliced, takes_kept, takes_fewer)
