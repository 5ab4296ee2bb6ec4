-- A command that is made of the words after its name.
use Rattle.vecscript.proofs.Common.{Command, Err, Fault, Global, List, Ok, ReadsAs, Result, refl, subst, sym, ℕ, ◌≡◌}
use Rattle.std.specs.Prelude.{MatchResult}

-- r is read as P says, m is r with its value made into a command, and the words after the name say that command
pub ReadsAs-named : (Say : List ℕ → List (List ℕ) → Command ℕ Global → Type 0) {X : Type 0} (number : ℕ) (P : X → Type 0) (rest : List (List ℕ)) (word name : List ℕ) (r : Result X Fault) (m : Result (Command ℕ Global) Fault)
    → word ≡ name → (make : X → Command ℕ Global) → Say name rest ≡ (λ y. (x : X) × P x × (y ≡ make x))
    → ReadsAs number P r → MatchResult r (λ x. m ≡ Ok (make x)) (λ fault. m ≡ Err fault) → ReadsAs number (Say word rest) m
ReadsAs-named Say {X} number P rest word name r m is make says read mapped =
    rw is (let Reads : (Command ℕ Global → Type 0) → Type 0 = λ Q. ReadsAs number Q m in subst Reads (sym says) (made r read mapped))
  where
    made : (r : Result X Fault) → ReadsAs number P r → MatchResult r (λ x. m ≡ Ok (make x)) (λ fault. m ≡ Err fault)
        → ReadsAs number (λ y. (x : X) × P x × (y ≡ make x)) m
    made (Ok x) read mapped = rw mapped (x, read, refl)
    made (Err fault) read mapped = rw mapped (read.0, λ y q. read.1 q.0 q.1)
