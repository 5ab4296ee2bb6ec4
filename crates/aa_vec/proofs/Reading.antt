-- The lower bounds of an iterator that another one reads.
use Rattle.aa_vec.proofs.Common.{◌≡◌, ℕ, List, [], ◌∷◌, Option, Some, Result, Ok, Err, IfErr, sym, ap, ◌∙◌, subst, YieldsWithLower, Takes, rules}

-- each call of the one is one of the other, in the state that it holds, under a name that is
-- unchanged
module _ {S T U N : Type 0} (steps : S → Option T → S → Type 0) (seen : U → Option T → U → Type 0)
    (LowerIs : S → ℕ → Type 0) (Told : U → ℕ → Type 0) (held : S → U) (name : S → N)
    (step : (s : S) (r : Option T) (t : S) → steps s r t → (name t ≡ name s)
    × seen (held s) r (held t)) (tell : (s : S) (n : ℕ) → LowerIs s n → Told (held s) n) where
  read : (lower : ℕ → ℕ) (s : S) (xs : List T) (t : S) → YieldsWithLower steps LowerIs lower s xs t
      → (name t ≡ name s) × YieldsWithLower seen Told lower (held s) xs (held t)
  read lower s [] t y = (ap name (sym y.1), (tell s _ y.0, ap held y.1))
  read lower s (x ∷ xs) t y =
      let p = step s (Some x) y.1 y.2 in
      let others = read lower y.1 xs t y.3 in
      (others.0 ∙ p.0, (tell s _ y.0, held y.1, p.1, others.1))

  -- the other one is left as the first holds it, if that is known by the same name
  pub Takes-read : {iter : S} {W : (ℕ → ℕ) → List T → S → Type 0} {W' : (ℕ → ℕ) → List T → U
      → Type 0} → ((lower : ℕ → ℕ) (xs : List T) (s : S) → name s ≡ name iter → W lower xs s
      → W' lower xs (held s)) → Takes steps LowerIs iter W → Takes seen Told (held iter) W'
  Takes-read {iter} f t = search (rules, read)

  pub stopped_read : {E : Type 0} {iter after : S} {end : U} (F : E → (ℕ → ℕ) → List T → Type 0)
      (G : (e : E) (lower : ℕ → ℕ) (xs : List T) → F e lower xs → Type 0) (K : U → Type 0)
      (tied : name after ≡ name iter → end ≡ held after) (r : Result Unit E)
      → IfErr r (λ e. Takes steps LowerIs iter
      (λ lower xs last. (last ≡ after) × (full : F e lower xs) × G e lower xs full))
      → IfErr r (λ _. K (held after)) → IfErr r (λ _. K end)
  stopped_read F G K tied (Ok x) t h = tt
  stopped_read F G K tied (Err e) t h =
      subst K (sym (tied (ap name (sym t.outcome.0) ∙ (read t.lower _ t.taken t.last t.yields).0)))
      h
