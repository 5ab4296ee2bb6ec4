-- Items that are kept by calls of a closure, one for each, while the ring turns once.
use Rattle.std.proofs.Common.{◌≡◌, ℕ, ◌+◌, ◌<◌, ◌≤◌, Bool, true, false, List, [], ◌∷◌, ◌++◌, length, take, drop, get_or, refl, sym, ap, ◌∙◌, subst, arith, append_assoc, length-append, length-drop}
use Rattle.std.specs.Prelude.{filter}
use Rattle.std.proofs.lemmas.List.{drop_all, drop_more, take_all, take_more}
use Rattle.allocator_api2.specs.Choosing.{Call, CalledInOrder, IsCallableInOrder, MayCallInOrder, kept}
use Rattle.aa_ring.specs.Retaining.{Retains}
use Rattle.aa_ring.specs.Ringed.{Ringed, with_written, HasRoom}

module _ {F T : Type 0} (Calls : F → T → Bool → F → T → Type 0) where
  -- one call more
  called-more : (f g h : F) (xs : List T) (calls : List (Call T)) (x : T) (c : Call T) → CalledInOrder Calls f xs calls g → Calls g x c.result h c.left → CalledInOrder Calls f (xs ++ x ∷ []) (calls ++ c ∷ []) h
  called-more f g h [] [] x c a b = (h, subst (λ s. Calls s x c.result h c.left) a b, refl)
  called-more f g h (y ∷ xs) (d ∷ calls) x c a b = (a.0, a.1, called-more a.0 g h xs calls x c a.2 b)
  called-more f g h xs calls x c a b = absurd a

  -- calls of a test that is a function of the item: those for which it is true are kept
  kept-by : (f g : F) (p : T → Bool) → ((x : T) (b : Bool) (h : F) (y : T) → Calls f x b h y → (b ≡ p x) × (y ≡ x) × (h ≡ f)) → (xs : List T) (calls : List (Call T)) → CalledInOrder Calls f xs calls g → kept calls ≡ filter p xs
  kept-by f g p tests [] [] a = refl
  kept-by f g p tests (x ∷ xs) (c ∷ calls) a =
      let t = tests x c.result a.0 c.left a.1 in
      let rest = kept-by f g p tests xs calls (subst (λ s. CalledInOrder Calls s xs calls g) t.2 a.2) in
      grind (arith, t, rest)
  kept-by f g p tests xs calls a = absurd a

-- the item of one call more is kept, or is not
kept-more : {T : Type 0} (calls : List (Call T)) (x : T) → kept (calls ++ record { result = true; left = x } ∷ []) ≡ kept calls ++ x ∷ []
kept-more [] x = refl
kept-more (c ∷ calls) x = grind (arith, kept-more calls x)

kept-same : {T : Type 0} (calls : List (Call T)) (x : T) → kept (calls ++ record { result = false; left = x } ∷ []) ≡ kept calls
kept-same [] x = refl
kept-same (c ∷ calls) x = grind (arith, kept-same calls x)

module _ {F T A : Type 0} (Calls : F → T → Bool → F → T → Type 0) (Takes : F → T → Type 0) where
  -- the closure was called for the first `i` items of `old`; those that are kept are the last ones
  -- of `new`, and it may be called for the others, which are the first
  abbrev pub TurnsTo : (f : F) (old : Ringed T A) (i : ℕ) (g : F) (new : Ringed T A) → Type 0
  TurnsTo f old i g new =
      let xs = old.items in
      ((calls : List (Call T)) × CalledInOrder Calls f (take i xs) calls g × (new ≡ with_written old (drop i xs ++ kept calls) (length (kept calls))) × (length (kept calls) ≤ i))
      × MayCallInOrder Calls Takes g (drop i xs)

  module _ (f : F) (old : Ringed T A) (i : ℕ) (g : F) (new popped : Ringed T A) (t : TurnsTo f old i g new) (x : T) (few : i < length old.items)
      (took : new.items ≡ x ∷ popped.items) (rest : popped ≡ with_written new popped.items 0) where
    abbrev xs : List T
    xs = old.items

    whole : get_or xs i x ∷ (drop (i + 1) xs ++ kept t.0.0) ≡ x ∷ popped.items
    whole = ap (λ zs. zs ++ kept t.0.0) (sym (drop_more xs i x few)) ∙ ap (λ s. s.items) (sym t.0.2) ∙ took

    same : get_or xs i x ≡ x
    same = ap (λ zs. get_or zs 0 x) whole

    left : popped.items ≡ drop (i + 1) xs ++ kept t.0.0
    left = ap (drop 1) (sym whole)

    may : MayCallInOrder Calls Takes g (x ∷ drop (i + 1) xs)
    may = subst (MayCallInOrder Calls Takes g) (drop_more xs i x few ∙ ap (λ y. y ∷ drop (i + 1) xs) same) t.1

    -- it may be called for the next one
    pub may-next : Takes g x
    may-next = may.0

    called : (b : Bool) (h : F) (y : T) → Calls g x b h y → CalledInOrder Calls f (take (i + 1) xs) (t.0.0 ++ record { result = b; left = y } ∷ []) h
    called b h y c =
        subst (λ zs. CalledInOrder Calls f zs (t.0.0 ++ record { result = b; left = y } ∷ []) h) (sym (take_more xs i x few ∙ ap (λ y. take i xs ++ y ∷ []) same))
        (called-more Calls f g h (take i xs) t.0.0 x (record { result = b; left = y }) t.0.1 c)

    popped-is : (ys : List T) (n : ℕ) → with_written popped ys n ≡ with_written old ys (length (kept t.0.0) + n)
    popped-is ys n =
        let k : ℕ = length (kept t.0.0) in
        let more : old.written + k + 0 + n ≡ old.written + (k + n) = omega arith in
        ap (λ s. with_written s ys n) (rest ∙ ap (λ s. with_written s popped.items 0) t.0.2)
        ∙ (λ j. record { items = ys; capacity = old.capacity; growth = old.growth; grown = old.grown; written = more j; alloc = old.alloc })

    -- and there is a place for it
    pub room : length old.items ≤ old.capacity → HasRoom popped 1
    room fits =
        omega (
          arith,
          fits,
          few,
          ap (λ s. s.capacity) rest,
          ap (λ s. s.capacity) t.0.2,
          ap length left,
          length-append (drop (i + 1) xs) (kept t.0.0),
          length-drop (i + 1) xs,
          t.0.3,
        )

    -- which is then passed over, or kept
    pub next-passed : (h : F) (y : T) → Calls g x false h y → TurnsTo f old (i + 1) h popped
    next-passed h y c =
        let k : ℕ = length (kept t.0.0) in let none : popped.written ≡ popped.written + 0 = omega arith in let all : k + 0 ≡ k = omega arith in (
          (
            t.0.0 ++ record { result = false; left = y } ∷ [],
            called false h y c,
            (λ j. record { items = popped.items; capacity = popped.capacity; growth = popped.growth; grown = popped.grown; written = none j; alloc = popped.alloc }) ∙ popped-is popped.items 0
                ∙ (λ j. with_written old (left j) (all j)) ∙ (λ j. with_written old (drop (i + 1) xs ++ sym (kept-same t.0.0 y) j) (length (sym (kept-same t.0.0 y) j))),
            omega (arith, t.0.3, ap length (kept-same t.0.0 y)),
          ),
          may.1 false h y c,
        )

    pub next-kept : (h : F) (y : T) (new2 : Ringed T A) → Calls g x true h y → new2 ≡ with_written popped (popped.items ++ y ∷ []) 1 → TurnsTo f old (i + 1) h new2
    next-kept h y new2 c put =
        let k : ℕ = length (kept t.0.0) in let ys = drop (i + 1) xs in
        let one : k + 1 ≡ length (kept t.0.0 ++ y ∷ []) = sym (length-append (kept t.0.0) (y ∷ [])) in (
          (
            t.0.0 ++ record { result = true; left = y } ∷ [],
            called true h y c,
            put ∙ popped-is (popped.items ++ y ∷ []) 1 ∙ (λ j. with_written old (left j ++ y ∷ []) (one j)) ∙ (λ j. with_written old (append_assoc ys (kept t.0.0) (y ∷ []) j) (length (kept t.0.0 ++ y ∷ [])))
                ∙ (λ j. with_written old (ys ++ sym (kept-more t.0.0 y) j) (length (sym (kept-more t.0.0 y) j))),
            omega (arith, t.0.3, ap length (kept-more t.0.0 y), length-append (kept t.0.0) (y ∷ [])),
          ),
          may.1 true h y c,
        )

  -- an item is left
  pub some-left : (f : F) (old : Ringed T A) (i : ℕ) (g : F) (new : Ringed T A) → TurnsTo f old i g new → i < length old.items → new.items ≡ [] → ⊥
  some-left f old i g new t few none =
      absurd (omega (arith, few, ap length none, ap (λ s. length s.items) t.0.2, length-append (drop i old.items) (kept t.0.0), length-drop i old.items))

  -- all calls were made
  pub turned : (f : F) (old : Ringed T A) (i : ℕ) (g : F) (new : Ringed T A) → TurnsTo f old i g new → length old.items ≤ i → Retains Calls f old g new
  turned f old i g new t all = record {
    calls = t.0.0;
    called = subst (λ xs. CalledInOrder Calls f xs t.0.0 g) (take_all i old.items all) t.0.1;
    put = t.0.2 ∙ ap (λ ys. with_written old (ys ++ kept t.0.0) (length (kept t.0.0))) (drop_all i old.items all);
  }

module _ {F T A : Type 0} (Calls : F → T → Bool → F → T → Type 0) where
  -- of a test that is a function of the item
  pub kept-all : (f : F) (old : Ringed T A) (g : F) (new : Ringed T A) (p : T → Bool) → ((x : T) (b : Bool) (h : F) (y : T) → Calls f x b h y → (b ≡ p x) × (y ≡ x) × (h ≡ f)) → Retains Calls f old g new
      → new.items ≡ filter p old.items
  kept-all f old g new p tests r = ap (λ s. s.items) r.put ∙ kept-by Calls f g p tests old.items r.calls r.called

-- a closure in the state q calls another, which is in the state `inner q`
module _ {Q F T : Type 0} (inner : Q → F) (Outer : Q → T → Bool → Q → T → Type 0) (Inner : F → T → Bool → F → T → Type 0)
    (calls : (q : Q) (x : T) (b : Bool) (r : Q) (y : T) → Outer q x b r y → Inner (inner q) x b (inner r) y) where
  called-on : (q : Q) (xs : List T) (results : List (Call T)) (r : Q) → CalledInOrder Outer q xs results r → CalledInOrder Inner (inner q) xs results (inner r)
  called-on q [] [] r a = ap inner a
  called-on q (x ∷ xs) (y ∷ results) r a = (inner a.0, calls q x y.result a.0 y.left a.1, called-on a.0 xs results r a.2)
  called-on q zs results r a = absurd a

  pub retains-on : {A : Type 0} (q : Q) (old : Ringed T A) (r : Q) (new : Ringed T A) → Retains Outer q old r new → Retains Inner (inner q) old (inner r) new
  retains-on q old r new h = record { calls = h.calls; called = called-on q old.items h.calls r h.called; put = h.put }

  -- and it may be called where the other may
  module _ (TakesOuter : Q → T → Type 0) (TakesInner : F → T → Type 0) (takes : (q : Q) (x : T) → TakesInner (inner q) x → TakesOuter q x) where
    may-on : (q : Q) (xs : List T) → MayCallInOrder Inner TakesInner (inner q) xs → MayCallInOrder Outer TakesOuter q xs
    may-on q [] m = tt
    may-on q (x ∷ xs) m = (takes q x m.0, λ b r y a. may-on r xs (m.1 b (inner r) y (calls q x b r y a)))

    pub callable-on : (q : Q) (xs : List T) → IsCallableInOrder Inner TakesInner (inner q) xs → IsCallableInOrder Outer TakesOuter q xs
    callable-on q xs c = record { along = may-on q xs c.along }
