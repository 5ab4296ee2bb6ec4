-- A closure that is called once for each new place.
use Rattle.aa_vec.proofs.Common.{append-nil, ◌≡◌, ℕ, ◌+◌, ◌-◌, ◌<◌, List, [], ◌∷◌, ◌++◌, length, refl, ap, ◌∙◌, arith, length-append, Result, Ok, Err, OnOk, FoldsTo, MayCallTimes, Vector, AppendsResults, Becomes, rules}
use Rattle.std.proofs.lemmas.Fn.{FoldsTo-push}
use Rattle.aa_vec.proofs.Becoming.{Becomes-more, Becomes-refl}
use Rattle.aa_vec.proofs.CopiesLemmas.{room-there}

module _ {T A F : Type 0} (takes : F → Type 0) (step : F → T → F → Type 0) where
  -- f was called k times of `total`, and is g; its results are after the items of old
  pub record Turns (old : Vector T A) (total : ℕ) (f : F) (k : ℕ) (now : Vector T A)
      (g : F) : Type 0 where
    pub results : List T
    pub calls : FoldsTo step f results g
    pub count : length results ≡ k
    pub becomes : Becomes old (old.items ++ results) k k now
    pub more : MayCallTimes takes step (total - k) g

  pub Turns-none : (old : Vector T A) (total : ℕ) (f : F) → MayCallTimes takes step total f
      → Turns old total f 0 old f
  Turns-none old total f more = grind (arith, append-nil, Becomes-refl)

  module _ (old : Vector T A) (total : ℕ) (f : F) (k : ℕ) (now : Vector T A) (g : F)
      (t : Turns old total f k now g) where
    pub Turns-next : k < total → (y : T) (e : F) (new : Vector T A) → step g y e
        → Becomes now (now.items ++ y ∷ []) 1 1 new → Turns old total f (k + 1) new e
    Turns-next h y e new s q =
        search (
          rules,
          t.results ++ y ∷ [],
          FoldsTo-push step f t.results g y e t.calls s,
          length-append t.results (y ∷ []) ∙ ap (λ n. n + 1) t.count,
          Becomes-more old now new t.results (y ∷ []) k k 1 1 (k + 1) (k + 1) t.becomes q refl refl,
        )

-- with a closure whose last state is not named
pub AppendsResults-some_last : {T A F E : Type 0} (step : F → T → F → Type 0) (r : Result Unit E)
    (n m k : ℕ) (old new : Vector T A) (f g : F)
    → OnOk r (m < n → AppendsResults step old k f g new)
    → OnOk r (m < n → (last : F) × AppendsResults step old k f last new)
AppendsResults-some_last step (Ok u) n m k old new f g fills = λ l. (g, fills l)
AppendsResults-some_last step (Err e) n m k old new f g fills = tt

pub ruleset turns = (Turns-none, Turns-next, AppendsResults-some_last, room-there)
