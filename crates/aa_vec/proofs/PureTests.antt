-- Closures whose results depend on the elements alone: what they leave of a list is a function of
-- it.
use Rattle.aa_vec.proofs.Common.{◌≡◌, Bool, true, false, not, List, [], ◌∷◌, map, refl, ap, ◌∙◌, subst, arith, cond, filter, Call, CalledInOrder, ChainsFrom, Deduplicated, Deduplicates, IsPureTest, Vector, results_of, kept, kept_after_removed, dedup, dedup_from}
use Rattle.aa_vec.proofs.Closed.{counted, removed_count}

-- the call for an element whose result is that of p, and which is left as by h
abbrev pub called_as : {T : Type 0} → (T → Bool) → (T → T) → T → Call T
called_as p h x = record { result = p x; left = h x }

-- each call is so by the closure's own result, in any state that it comes to
calls-in : {F T : Type 0} (Calls : F → T → Bool → F → T → Type 0) (p : T → Bool) (h : T → T)
    (In : F → Type 0)
    → ((f : F) (x : T) (answer : Bool) (g : F) (y : T) → In f → Calls f x answer g y
    → (answer ≡ p x) × (y ≡ h x) × In g)
    → (f : F) (xs : List T) (calls : List (Call T)) (g : F) → In f
    → CalledInOrder Calls f xs calls g → calls ≡ map (called_as p h) xs
calls-in Calls p h In steady f [] [] g i a = refl
calls-in Calls p h In steady f (x ∷ xs) (y ∷ calls) g i a =
    let s = steady f x y.result a.0 y.left i a.1 in
    λ j. record { result = s.0 j; left = s.1 j }
    ∷ calls-in Calls p h In steady a.0 xs calls g s.2 a.2 j
calls-in Calls p h In steady f xs calls g i a = absurd a

pub asked-steady : {F T : Type 0} (Calls : F → T → Bool → F → T → Type 0) (p : T → Bool) (h : T → T)
    → ((f : F) (x : T) (answer : Bool) (g : F) (y : T) → Calls f x answer g y → (answer ≡ p x)
    × (y ≡ h x))
    → (f : F) (xs : List T) (calls : List (Call T)) (g : F) → CalledInOrder Calls f xs calls g
    → calls ≡ map (called_as p h) xs
asked-steady Calls p h steady f xs calls g a =
    calls-in Calls p h (λ f. Unit {0}) (λ f x answer g y i b. let s = steady f x answer g y b in
    (s.0, s.1, tt)) f xs calls g tt a

-- and by one that only reads what it holds, in the state that it has
pub asked-reading : {F T : Type 0} (Calls : F → T → Bool → F → T → Type 0) (p : T → Bool) (f : F)
    → ((x : T) (answer : Bool) (g : F) (y : T) → Calls f x answer g y → (answer ≡ p x) × (y ≡ x)
    × (g ≡ f))
    → (xs : List T) (calls : List (Call T)) (g : F) → CalledInOrder Calls f xs calls g → calls
    ≡ map (called_as p (λ x. x)) xs
asked-reading Calls p f reads xs calls g a =
    calls-in Calls p (λ x. x) (λ g. g ≡ f)
    (λ e x answer g y i b. reads x answer g y (subst (λ s. Calls s x answer g y) i b)) f xs calls g
    refl a

module _ {F T : Type 0} (Calls : F → T → T → Bool → F → T → T → Type 0) (same : T → T → Bool)
    (steady : (f : F) (x l : T) (answer : Bool) (g : F) (y k : T) → Calls f x l answer g y k
    → (answer ≡ same x l) × (y ≡ x) × (k ≡ l)) where
  -- the results of such a test, the first with l
  abbrev pub answers_from : T → List T → List Bool
  answers_from l [] = []
  answers_from l (x ∷ xs) = same x l ∷ answers_from (cond (same x l) l x) xs

  pub chained-steady : (f : F) (l : T) (xs : List T) (results : List Bool) (g : F) (ys : List T)
      → ChainsFrom Calls f l xs results g ys → (results ≡ answers_from l xs)
      × (ys ≡ dedup_from same l xs)
  chained-steady f l [] [] g ys c = (refl, c.1)
  chained-steady f l (x ∷ xs) (true ∷ results) g ys c =
      let s = steady f x l true c.0 c.1 c.2 c.3 in
      let r = chained-steady c.0 l xs results g ys
      (subst (λ k. ChainsFrom Calls c.0 k xs results g ys) s.2 c.4) in grind (arith, s, r)
  chained-steady f l (x ∷ xs) (false ∷ results) g ys c =
      let s = steady f x l false c.0 c.1 c.2 c.4 in
      let r = chained-steady c.0 x xs results g c.3
      (subst (λ y. ChainsFrom Calls c.0 y xs results g c.3) s.1 c.5) in grind (arith, s, r, c.6)
  chained-steady f l xs results g ys c = absurd c

  pub deduplicated-steady : (f : F) (xs : List T) (results : List Bool) (g : F) (ys : List T)
      → Deduplicated Calls f xs results g ys → ys ≡ dedup same xs
  deduplicated-steady f [] results g ys d = d.2
  deduplicated-steady f (x ∷ xs) results g ys d = (chained-steady f x xs results g ys d).1

pub Deduplicates_dedup : {F T A : Type 0} (Calls : F → T → T → Bool → F → T → T → Type 0)
    (same : T → T → Bool) (f : F) (old : Vector T A) (g : F) (new : Vector T A)
    → Deduplicates Calls f old g new → IsPureTest Calls same → new.items ≡ dedup same old.items
Deduplicates_dedup Calls same f old g new d steady = ap (λ v. v.items) d.becomes
    ∙ deduplicated-steady Calls same steady f old.items d.results g d.left d.called

-- those for which such a closure has that result
pub chosen-steady : {T : Type 0} (q : Bool → Bool) (p : T → Bool) (h : T → T) (xs : List T)
    → map (λ (t : Call T). t.left) (filter (λ t. q t.result) (map (called_as p h) xs))
    ≡ map h (filter (λ x. q (p x)) xs)
chosen-steady q p h [] = refl
chosen-steady q p h (x ∷ xs) = grind (arith, chosen-steady q p h xs)

pub kept-steady : {T : Type 0} (p : T → Bool) (h : T → T) (xs : List T)
    → kept (map (called_as p h) xs) ≡ map h (filter p xs)
kept-steady = chosen-steady (λ b. b)

-- and where it keeps all, none is removed
pub kept-all : {T : Type 0} (xs : List T) → (kept (map (called_as (λ x. true) (λ x. x)) xs) ≡ xs)
    × (kept_after_removed (results_of (map (called_as (λ x. true) (λ x. x)) xs)) ≡ 0)
    × (removed_count (results_of (map (called_as (λ x. true) (λ x. x)) xs)) ≡ 0)
kept-all [] = (refl, refl, refl)
kept-all (x ∷ xs) = let r = kept-all xs in (
  ap (λ l. x ∷ l) r.0,
  r.1,
  omega (arith, r.2, counted not true (results_of (map (called_as (λ x. true) (λ x. x)) xs))),
)
