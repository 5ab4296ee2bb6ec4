-- A script of which some pieces were run, one after the other.
use Rattle.vecscript.proofs.Common.{◌≡◌, ℕ, List, [], ◌∷◌, ◌++◌, length, refl, ap, arith, rules, Global, lines, append_assoc, append-nil, map-append, Vector, State, Calls, state_of, AreAfterBlank, IsTranscript, codes, command_lines, element_size, growth_in}
use Rattle.std.proofs.lemmas.Grind.{flat_map-append}
use Rattle.aa_vec.specs.Copies.{IsMade}
use Rattle.allocator_api2.specs.declared.raw_vec.Growth.{Growth}
use Rattle.allocator_api2.proofs.Runs.{IsRun-append}
use Rattle.vecscript.proofs.Read.{HasNoBad-append, Mean-append}
use Rattle.vecscript.proofs.Sparing.{HasNoBad-blank, Mean-blank}
use Rattle.allocator_api2.specs.Run.{RunsTo}
use Rattle.vecscript.specs.Print.{line_of, list_text, reply_text, replies_text}
use Rattle.vecscript.specs.Runs.{RunsLines}

module _ {K S : Type 0} (calls : Calls ℕ Global K S) where
  -- of these lines those before the rest are blank, or were run
  pub record HasRun (old : State ℕ Global K S) (all : List (List ℕ)) (rest transcript : List ℕ) (now : State ℕ Global K S) : Type 0 where
    pub before : List (List ℕ)
    pub place : all ≡ before ++ lines rest
    pub run : RunsLines calls old before [] transcript now

  -- no line was run
  pub HasRun-start : (growth : Growth) (main side : Vector ℕ Global) (keep : K) (same : S) (count : ℕ) (text : List ℕ) (all : List (List ℕ))
      → AreAfterBlank count (lines text) all → IsMade element_size 0 growth [] 0 main → IsMade element_size 0 growth [] 0 side
      → HasRun (state_of main side keep same) all text [] (state_of main side keep same)
  HasRun-start growth main side keep same count text all after main_new side_new =
      let run : RunsTo element_size calls (state_of main side keep same) [] [] (state_of main side keep same) =
      record { possible = omega (arith, ap length main_new.items, ap length side_new.items); turns = []; run = refl; commands_are = refl; replies_are = refl } in
      search (rules, after.3, HasNoBad-blank after.0 after.1, Mean-blank after.0 after.1, run)

  -- a piece more was run
  pub HasRun-next : (old : State ℕ Global K S) (all : List (List ℕ)) (rest transcript : List ℕ) (now : State ℕ Global K S)
      → HasRun old all rest transcript now → (piece : List (List ℕ)) (others transcript' : List ℕ) (new : State ℕ Global K S) → RunsLines calls now piece transcript transcript' new
      → lines rest ≡ piece ++ lines others → HasRun old all others transcript' new
  HasRun-next old all rest transcript now had piece others transcript' new more cut =
      let h = had.run in let r = h.run in let s = more.run in
      let place : all ≡ (had.before ++ piece) ++ lines others = rw (append_assoc, ← cut) had.place in
      let run : RunsTo element_size calls old (h.commands ++ more.commands) (h.replies ++ more.replies) new = record {
        possible = r.possible;
        turns = r.turns ++ s.turns;
        run = IsRun-append element_size calls old r.turns now s.turns new r.run s.run;
        commands_are = rw (map-append, r.commands_are, s.commands_are) refl;
        replies_are = rw (map-append, r.replies_are, s.replies_are) refl;
      } in
      let shown : transcript' ≡ replies_text (h.replies ++ more.replies) = rw (flat_map-append (λ reply. line_of (reply_text reply)) h.replies more.replies, more.shown, h.shown) refl in
      search (place, HasNoBad-append had.before piece h.good more.good, Mean-append had.before piece h.commands more.commands h.meant more.meant, run, shown)

  -- none is left
  pub HasRun-end : (old : State ℕ Global K S) (all : List (List ℕ)) (rest transcript : List ℕ) (now : State ℕ Global K S)
      → HasRun old all rest transcript now → length rest ≡ 0 → RunsLines calls old all [] transcript now
  HasRun-end old all [] transcript now had last = rw (had.place, append-nil had.before) had.run
  HasRun-end old all (x ∷ xs) transcript now had last = absurd (omega arith)

  -- and then their replies are printed with the two lists
  pub HasRun-prints : (alloc : Global) (keep : K) (same : S) (ls : List (List ℕ)) (main side : Vector ℕ Global) (now : State ℕ Global K S) (rest transcript text : List ℕ)
      → IsMade element_size 0 (growth_in ls) [] 0 main × (main.alloc ≡ alloc) → IsMade element_size 0 (growth_in ls) [] 0 side × (side.alloc ≡ alloc)
      → HasRun (state_of main side keep same) (command_lines ls) rest transcript now → length rest ≡ 0
      → text ≡ transcript ++ (line_of (list_text (codes "main") now.main.capacity now.main.items) ++ line_of (list_text (codes "side") now.side.capacity now.side.items))
      → IsTranscript calls alloc keep same ls text
  HasRun-prints alloc keep same ls main side now rest transcript text main_new side_new had last is =
      let run = HasRun-end _ _ rest transcript now had last in search (run.meant, main_new, side_new, run.run, rw run.shown at is)
