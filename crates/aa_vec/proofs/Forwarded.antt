-- Closures that pass their arguments on to another: what holds of the one holds of the other.
use Rattle.aa_vec.proofs.Common.{◌≡◌, Bool, true, false, List, [], ◌∷◌, ap, sym, ◌∙◌, Call, CalledInOrder, MayCallInOrder, IsCallableInOrder, Retains, ChainsFrom, Deduplicated, MayChainFrom, IsCallableAlong, Deduplicates, Vector, arith}

-- a closure in the state q calls another, which is in the state `inner q`
module _ {Q F T : Type 0} (inner : Q → F) (Outer : Q → T → Bool → Q → T → Type 0)
    (Inner : F → T → Bool → F → T → Type 0)
    (calls : (q : Q) (x : T) (answer : Bool) (r : Q) (y : T) → Outer q x answer r y
    → Inner (inner q) x answer (inner r) y) where
  asked_on : (q : Q) (xs : List T) (results : List (Call T)) (r : Q)
      → CalledInOrder Outer q xs results r → CalledInOrder Inner (inner q) xs results (inner r)
  asked_on q [] [] r a = ap inner a
  asked_on q (x ∷ xs) (y ∷ results) r a =
      (inner a.0, calls q x y.result a.0 y.left a.1, asked_on a.0 xs results r a.2)
  asked_on q xs results r a = absurd a

  pub Retains-on : {A : Type 0} (q : Q) (old : Vector T A) (r : Q) (new : Vector T A)
      → Retains Outer q old r new → Retains Inner (inner q) old (inner r) new
  Retains-on q old r new h =
      record {
        calls = h.calls;
        called = asked_on q old.items h.calls r h.called;
        runs = h.runs;
        few = h.few;
        becomes = h.becomes;
      }

  module _ (TakesOuter : Q → T → Type 0) (TakesInner : F → T → Type 0)
      (takes : (q : Q) (x : T) → TakesInner (inner q) x → TakesOuter q x) where
    may_ask_on : (q : Q) (xs : List T) → MayCallInOrder Inner TakesInner (inner q) xs
        → MayCallInOrder Outer TakesOuter q xs
    may_ask_on q [] may = tt
    may_ask_on q (x ∷ xs) may = (
      takes q x may.0,
      λ answer r y a.
          may_ask_on r xs (may.1 answer (inner r) y (calls q x answer r y a)),
    )

    pub IsCallableInOrder-on : (q : Q) (xs : List T)
        → IsCallableInOrder Inner TakesInner (inner q) xs → IsCallableInOrder Outer TakesOuter q xs
    IsCallableInOrder-on q xs may = record { along = may_ask_on q xs may.along }

-- the same at two arguments
module _ {Q F T : Type 0} (inner : Q → F) (Outer : Q → T → T → Bool → Q → T → T → Type 0)
    (Inner : F → T → T → Bool → F → T → T → Type 0)
    (calls : (q : Q) (x l : T) (answer : Bool) (r : Q) (y k : T) → Outer q x l answer r y k
    → Inner (inner q) x l answer (inner r) y k) where
  -- the other is borrowed under a name that each call keeps
  module _ {N : Type 0} (name : Q → N) (keeps : (q : Q) (x l : T) (answer : Bool) (r : Q) (y k : T)
      → Outer q x l answer r y k → name r ≡ name q) where
    chained_on : (q : Q) (l : T) (xs : List T) (results : List Bool) (r : Q) (ys : List T)
        → ChainsFrom Outer q l xs results r ys → (name r ≡ name q)
        × ChainsFrom Inner (inner q) l xs results (inner r) ys
    chained_on q l [] [] r ys c = (ap name c.0, (ap inner c.0, c.1))
    chained_on q l (x ∷ xs) (true ∷ results) r ys c =
        let on = chained_on c.0 c.2 xs results r ys c.4 in (
          on.0 ∙ keeps q x l true c.0 c.1 c.2 c.3,
          (inner c.0, c.1, c.2, calls q x l true c.0 c.1 c.2 c.3, on.1),
        )
    chained_on q l (x ∷ xs) (false ∷ results) r ys c =
        let on = chained_on c.0 c.1 xs results r c.3 c.5 in (
          on.0 ∙ keeps q x l false c.0 c.1 c.2 c.4,
          (inner c.0, c.1, c.2, c.3, calls q x l false c.0 c.1 c.2 c.4, on.1, c.6),
        )
    chained_on q l xs results r ys c = absurd c

    deduplicated_on : (q : Q) (xs : List T) (results : List Bool) (r : Q) (ys : List T)
        → Deduplicated Outer q xs results r ys → (name r ≡ name q)
        × Deduplicated Inner (inner q) xs results (inner r) ys
    deduplicated_on q [] results r ys d = (ap name d.1, (d.0, ap inner d.1, d.2))
    deduplicated_on q (x ∷ xs) results r ys d = chained_on q x xs results r ys d

    -- x is the last value under that name
    pub Deduplicates-lent : {A : Type 0} (q : Q) (old : Vector T A) (r : Q) (new : Vector T A)
        (x : F) → Deduplicates Outer q old r new → (name q ≡ name r → x ≡ inner r)
        → Deduplicates Inner (inner q) old x new
    Deduplicates-lent q old r new x h ends =
        let on = deduplicated_on q old.items h.results r h.left h.called in
        rw (ends (sym on.0))
        (record {
          results = h.results;
          left = h.left;
          called = on.1;
          runs = h.runs;
          few = h.few;
          fewer = h.fewer;
          becomes = h.becomes;
        })

  module _ (TakesOuter : Q → T → T → Type 0) (TakesInner : F → T → T → Type 0)
      (takes : (q : Q) (x l : T) → TakesInner (inner q) x l → TakesOuter q x l) where
    may_chain_on : (q : Q) (l : T) (xs : List T) → MayChainFrom Inner TakesInner (inner q) l xs
        → MayChainFrom Outer TakesOuter q l xs
    may_chain_on q l [] may = tt
    may_chain_on q l (x ∷ xs) may = (
      takes q x l may.0,
      λ r y k a.
          may_chain_on r k xs (may.1 (inner r) y k (calls q x l true r y k a)),
      λ r y k a.
          may_chain_on r y xs (may.2 (inner r) y k (calls q x l false r y k a)),
    )

    pub IsCallableAlong-on : (q : Q) (xs : List T) → IsCallableAlong Inner TakesInner (inner q) xs
        → IsCallableAlong Outer TakesOuter q xs
    IsCallableAlong-on q xs may = grind (arith, may_chain_on)
