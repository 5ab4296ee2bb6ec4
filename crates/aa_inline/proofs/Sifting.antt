-- Items that are kept by calls of a closure, one for each.
use Rattle.std.proofs.Common.{◌≡◌, ℕ, ◌+◌, ◌<◌, ◌≤◌, Bool, true, false, List, [], ◌∷◌, ◌++◌, length, take, drop, get_or, Some, refl, sym, ap, ◌∙◌, subst, arith, length-set, take-take}
use Rattle.std.specs.Prelude.{filter, slice_get, slice_set, MatchOption, None, Option}
use Rattle.std.proofs.lemmas.Grind.{drop_more_same}
use Rattle.std.proofs.lemmas.Option.{get_or_from_slice_get}
use Rattle.std.proofs.lemmas.List.{drop-set-lt, drop_more, same_from_push, take_all, take_more, take-set-le}
use Rattle.aa_inline.proofs.Fews.{take-push}
use Rattle.allocator_api2.specs.Choosing.{Call, CalledInOrder, IsCallableInOrder, MayCallInOrder, kept}
use Rattle.aa_inline.specs.Inlined.{Inlined}
use Rattle.aa_inline.specs.Retaining.{Retains, TestsLast}

module _ {F T : Type 0} (Calls : F → T → Bool → F → T → Type 0) where
  -- one call more
  pub called-more : (f g h : F) (xs : List T) (calls : List (Call T)) (x : T) (c : Call T) → CalledInOrder Calls f xs calls g → Calls g x c.result h c.left → CalledInOrder Calls f (xs ++ x ∷ []) (calls ++ c ∷ []) h
  called-more f g h [] [] x c a b = (h, subst (λ s. Calls s x c.result h c.left) a b, refl)
  called-more f g h (y ∷ xs) (d ∷ calls) x c a b = (a.0, a.1, called-more a.0 g h xs calls x c a.2 b)
  called-more f g h xs calls x c a b = absurd a

  -- calls of a test that is a function of the item: those for which it is true are kept
  pub kept-by : (f g : F) (p : T → Bool) → ((x : T) (b : Bool) (h : F) (y : T) → Calls f x b h y → (b ≡ p x) × (y ≡ x) × (h ≡ f)) → (xs : List T) (calls : List (Call T)) → CalledInOrder Calls f xs calls g → kept calls ≡ filter p xs
  kept-by f g p tests [] [] a = refl
  kept-by f g p tests (x ∷ xs) (c ∷ calls) a =
      let t = tests x c.result a.0 c.left a.1 in
      let rest = kept-by f g p tests xs calls (subst (λ s. CalledInOrder Calls s xs calls g) t.2 a.2) in
      grind (arith, t, rest)
  kept-by f g p tests xs calls a = absurd a

-- the item of one call more is kept, or is not
pub kept-more : {T : Type 0} (calls : List (Call T)) (x : T) → kept (calls ++ record { result = true; left = x } ∷ []) ≡ kept calls ++ x ∷ []
kept-more [] x = refl
kept-more (c ∷ calls) x = grind (arith, kept-more calls x)

pub kept-same : {T : Type 0} (calls : List (Call T)) (x : T) → kept (calls ++ record { result = false; left = x } ∷ []) ≡ kept calls
kept-same [] x = refl
kept-same (c ∷ calls) x = grind (arith, kept-same calls x)

module _ {F T : Type 0} (Calls : F → T → Bool → F → T → Type 0) (Takes : F → T → Type 0) where
  -- the closure was called for the first `i` of `xs`, and those that are kept are the first `k` of
  -- `ys`; it may be called for the others, which are in `ys` as well
  abbrev pub SiftsTo : (f : F) (xs : List T) (i k : ℕ) (g : F) (ys : List T) → Type 0
  SiftsTo f xs i k g ys =
      ((calls : List (Call T)) × CalledInOrder Calls f (take i xs) calls g × (take k ys ≡ kept calls))
      × MayCallInOrder Calls Takes g (drop i xs) × (drop i ys ≡ drop i xs) × (k ≤ i) × (length ys ≡ length xs)

  module _ (f : F) (xs : List T) (i k : ℕ) (g : F) (ys : List T) (s : SiftsTo f xs i k g ys) (x : T) (few : i < length xs) (here : slice_get ys i ≡ Some x) where
    same : get_or xs i x ≡ x
    same =
        ap (λ zs. get_or zs 0 x) (sym (drop_more xs i x few) ∙ sym s.2 ∙ drop_more ys i x (omega (arith, few, s.4))) ∙ get_or_from_slice_get ys i x x here

    may : MayCallInOrder Calls Takes g (x ∷ drop (i + 1) xs)
    may = subst (MayCallInOrder Calls Takes g) (drop_more xs i x few ∙ ap (λ y. y ∷ drop (i + 1) xs) same) s.1

    -- it may be called for the next one
    pub may-next : Takes g x
    may-next = may.0

    called : (b : Bool) (h : F) (y : T) → Calls g x b h y → CalledInOrder Calls f (take (i + 1) xs) (s.0.0 ++ record { result = b; left = y } ∷ []) h
    called b h y c =
        subst (λ zs. CalledInOrder Calls f zs (s.0.0 ++ record { result = b; left = y } ∷ []) h) (sym (take_more xs i x few ∙ ap (λ z. take i xs ++ z ∷ []) same))
        (called-more Calls f g h (take i xs) s.0.0 x (record { result = b; left = y }) s.0.1 c)

    -- which the closure leaves as `y`, and which is then passed over, or kept
    pub next-passed : (h : F) (y d : T) → Calls g x false h y → SiftsTo f xs (i + 1) k h (slice_set ys i d)
    next-passed h y d c = (
      (s.0.0 ++ record { result = false; left = y } ∷ [], called false h y c, take-set-le k ys i d s.3 ∙ s.0.2 ∙ sym (kept-same s.0.0 y)),
      may.1 false h y c,
      drop-set-lt (i + 1) ys i d (omega arith) ∙ drop_more_same ys xs i s.2,
      omega (arith, s.3),
      length-set ys i d ∙ s.4,
    )

    pub next-kept : (h : F) (y d : T) → Calls g x true h y → SiftsTo f xs (i + 1) (k + 1) h (slice_set (slice_set ys i d) k y)
    next-kept h y d c =
        let zs = slice_set ys i d in let long : length zs ≡ length xs = length-set ys i d ∙ s.4 in (
          (
            s.0.0 ++ record { result = true; left = y } ∷ [],
            called true h y c,
            take-push zs k y (omega (arith, long, few, s.3)) ∙ ap (λ ws. ws ++ y ∷ []) (take-set-le k ys i d s.3 ∙ s.0.2) ∙ sym (kept-more s.0.0 y),
          ),
          may.1 true h y c,
          drop-set-lt (i + 1) zs k y (omega (arith, s.3)) ∙ drop-set-lt (i + 1) ys i d (omega arith) ∙ drop_more_same ys xs i s.2,
          omega (arith, s.3),
          length-set zs k y ∙ long,
        )

-- a closure in the state `q` passes its calls on to another, which is in the state `inner q`
module _ {Q F T : Type 0} (inner : Q → F) (Outer : Q → T → Bool → Q → T → Type 0) (Inner : F → T → Bool → F → T → Type 0) (passes : (q : Q) (x : T) (b : Bool) (r : Q) (y : T) → Outer q x b r y → Inner (inner q) x b (inner r) y) where
  called-on : (q : Q) (xs : List T) (calls : List (Call T)) (r : Q) → CalledInOrder Outer q xs calls r → CalledInOrder Inner (inner q) xs calls (inner r)
  called-on q [] [] r a = ap inner a
  called-on q (x ∷ xs) (c ∷ calls) r a = (inner a.0, passes q x c.result a.0 c.left a.1, called-on a.0 xs calls r a.2)
  called-on q xs calls r a = absurd a

  pub retains-on : {A : Type 0} (q : Q) (old : Inlined T A) (r : Q) (new : Inlined T A) → Retains Outer q old r new → Retains Inner (inner q) old (inner r) new
  retains-on q old r new h = record { calls = h.calls; called = called-on q old.items h.calls r h.called; put = h.put }

  module _ (TakesOuter : Q → T → Type 0) (TakesInner : F → T → Type 0) (takes : (q : Q) (x : T) → TakesInner (inner q) x → TakesOuter q x) where
    may-on : (q : Q) (xs : List T) → MayCallInOrder Inner TakesInner (inner q) xs → MayCallInOrder Outer TakesOuter q xs
    may-on q [] may = tt
    may-on q (x ∷ xs) may = (takes q x may.0, λ b r y a. may-on r xs (may.1 b (inner r) y (passes q x b r y a)))

    pub callable-on : (q : Q) (xs : List T) → IsCallableInOrder Inner TakesInner (inner q) xs → IsCallableInOrder Outer TakesOuter q xs
    callable-on q xs may = record { along = may-on q xs may.along }

-- the last item
module _ {T : Type 0} (xs : List T) (i : ℕ) (x : T) (last : i + 1 ≡ length xs) (here : slice_get xs i ≡ Some x) where
  had : xs ≡ take i xs ++ x ∷ []
  had =
      sym (take_all (i + 1) xs (omega (arith, last))) ∙ take_more xs i x (omega (arith, last)) ∙ ap (λ z. take i xs ++ z ∷ []) (get_or_from_slice_get xs i x x here)

  -- a closure that may be called for it
  pub may-test : (Takes : T → Type 0) → ((others : List T) (l : T) → xs ≡ others ++ l ∷ [] → Takes l) → Takes x
  may-test Takes may = may (take i xs) x had

  module _ {F : Type 0} (Returns : F → T → Bool → T → Type 0) (f : F) (y : T) where
    abbrev zs : List T
    zs = slice_set xs i y

    has : zs ≡ take i xs ++ y ∷ []
    has = sym (take_all (i + 1) zs (omega (arith, last, length-set xs i y))) ∙ take-push xs i y (omega (arith, last))

    -- leaves it as `y`, and it is popped then
    pub popped-if : (ys : List T) (result : Option T) → Returns f x true y → MatchOption result ((zs ≡ []) × (ys ≡ [])) (λ w. zs ≡ ys ++ w ∷ []) → TestsLast Returns f xs result ys
    popped-if ys None called p = absurd (omega (arith, last, length-set xs i y, ap length p.0))
    popped-if ys (Some w) called p =
        let same = same_from_push ys (take i xs) w y (sym p ∙ has) in
        record { others = take i xs; last = x; had = had; test = true; left = y; called = called; ends = (ap Some same.1, same.0) }

    -- or not
    pub left-if : Returns f x false y → TestsLast Returns f xs None zs
    left-if called = record { others = take i xs; last = x; had = had; test = false; left = y; called = called; ends = (refl, has) }

pub ruleset sifted = (take-take, length-set)
