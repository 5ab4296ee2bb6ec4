-- Elements that a test takes out of a range: the items, one after another, and what the vector has
-- at the end.
use Rattle.aa_vec.proofs.Common.{◌≡◌, ℕ, ◌-◌, Bool, not, List, [], ◌∷◌, ◌++◌, length, map, take, drop, Option, Some, None, subst, sym, ap, ◌∙◌, arith, append_assoc, filter, Result, Ok, Err, OnOk, Yields, Drains, append-nil, map-id, take-append-drop, take_all, drop_all, filter-append, Call, kept, Extracts, ExtractsRange, ClosesExtract, extract_remaining, Vector, len, ExtractsAlong}
use Rattle.aa_vec.specs.declared.vec.extract_if.ExtractBy.{ExtractBy}
use Rattle.aa_vec.specs.declared.vec.extract_if.ExtractIf.{ExtractIf}
use Rattle.aa_vec.specs.Sifting.{remaining_matches, items_at_end}
use Rattle.aa_vec.proofs.Callable.{IsCallableInOrder-any}
use Rattle.aa_vec.proofs.ExtractRuns.{extracts_fewer}
use Rattle.aa_vec.proofs.PureTests.{asked-steady, called_as, chosen-steady}

-- a list in two parts, of which the closure was called for the first: the elements with this
-- result, and those after them
first_part : {T : Type 0} (test : T → Bool) (q : Bool → Bool) (xs : List T) (n : ℕ)
    (calls : List (Call T)) → calls ≡ map (called_as test (λ x. x)) (take n xs)
    → filter (λ x. q (test x)) xs ≡ map (λ t. t.left) (filter (λ t. q t.result) calls)
    ++ filter (λ x. q (test x)) (drop n xs)
first_part {T} test q xs n calls is =
    rw (
      is,
      chosen-steady q test (λ x. x) (take n xs),
      map-id,
      ← filter-append (λ x. q (test x))
          (take n xs) (drop n xs),
      take-append-drop n xs,
    )

module _ {F T A : Type 0} (Calls : F → T → Bool → F → T → Type 0) (test : T → Bool)
    (steady : (f : F) (x : T) (answer : Bool) (g : F) (y : T) → Calls f x answer g y
    → (answer ≡ test x) × (y ≡ x)) where
  module _ (f : F) (s : ExtractBy T A) (r : Option T) (g : F) (t : ExtractBy T A)
      (e : Extracts Calls f s r g t) where
    is : e.calls ≡ map (called_as test (λ x. x)) (take (length e.calls) (extract_remaining s))
    is = asked-steady Calls test (λ x. x) steady f (take (length e.calls) (extract_remaining s))
        e.calls g e.called

    taken : remaining_matches test s ≡ kept e.calls ++ remaining_matches test t
    unfolding remaining_matches
    taken = first_part test (λ b. b) (extract_remaining s) (length e.calls) e.calls is
        ∙ ap (λ l. kept e.calls ++ filter test l) (sym e.rest)

    -- what is kept is the same
    left : items_at_end test t ≡ items_at_end test s
    unfolding items_at_end
    left = simp (
      ap (λ v. v.items) e.becomes,
      e.kept,
      e.rest,
      e.tail,
      first_part test not (extract_remaining s) (length e.calls) e.calls is,
      append_assoc,
    )

  -- one was taken out
  Extracts_some : (f : F) (s : ExtractBy T A) (x : T) (g : F) (t : ExtractBy T A)
      → Extracts Calls f s (Some x) g t → remaining_matches test s ≡ x ∷ remaining_matches test t
  Extracts_some f s x g t e = taken f s (Some x) g t e
      ∙ ap (λ l. l ++ remaining_matches test t) e.cases.0

  -- or none is left
  Extracts_none : (f : F) (s : ExtractBy T A) (g : F) (t : ExtractBy T A)
      → Extracts Calls f s None g t → remaining_matches test s ≡ []
  unfolding remaining_matches
  Extracts_none f s g t e = taken f s None g t e ∙ (λ i. e.cases.0 i ++ filter test (e.cases.1 i))

-- a whole vector
module _ {T A : Type 0} (test : T → Bool) (old : Vector T A) (n : ℕ) (e : ExtractBy T A)
    (r : ExtractsRange old 0 n e) (all : n ≡ len old) where
  rest_is : extract_remaining e ≡ old.items
  rest_is = let z : n - 0 ≡ n = omega arith in
      r.rest ∙ ap (λ k. take k old.items) z ∙ take_all n old.items (omega (arith, all))

  pub Range_taken : remaining_matches test e ≡ filter test old.items
  unfolding remaining_matches
  Range_taken = ap (filter test) rest_is

  pub Range_left : items_at_end test e ≡ filter (λ x. not (test x)) old.items
  unfolding items_at_end
  Range_left = simp (
    ap (λ v. v.items) r.becomes,
    r.kept,
    rest_is,
    r.tail,
    drop_all n old.items (omega (arith, all)),
    append-nil,
  )

-- along the calls: ys were taken out, one by one, and then x, which is appended to them
module _ {F T A : Type 0} (Calls : F → T → Bool → F → T → Type 0) (f : F) (s : ExtractBy T A)
    (g : F) (t : ExtractBy T A) (test : T → Bool) where
  pub taken-more : (x : T) (ys zs ws : List T) → Extracts Calls f s (Some x) g t → ys ≡ zs ++ x ∷ []
      → zs ++ remaining_matches test s ≡ ws
      → ((f : F) (x : T) (answer : Bool) (g : F) (y : T) → Calls f x answer g y → (answer ≡ test x)
      × (y ≡ x)) → ys ++ remaining_matches test t ≡ ws
  taken-more x ys zs ws e put was steady = ap (λ l. l ++ remaining_matches test t) put
      ∙ append_assoc zs (x ∷ []) (remaining_matches test t)
      ∙ ap (λ l. zs ++ l) (sym (Extracts_some Calls test steady f s x g t e)) ∙ was

  pub left-more : (r : Option T) (ws : List T) → Extracts Calls f s r g t → items_at_end test s ≡ ws
      → ((f : F) (x : T) (answer : Bool) (g : F) (y : T) → Calls f x answer g y → (answer ≡ test x)
      × (y ≡ x)) → items_at_end test t ≡ ws
  left-more r ws e was steady = left Calls test steady f s r g t e ∙ was

  module _ (old : Vector T A) (start : ExtractBy T A) (n : ℕ) (r : Option T) where
    pub taken-end : (zs ws : List T) → Extracts Calls f s r g t → r ≡ None
        → zs ++ remaining_matches test s ≡ ws ++ remaining_matches test start
        → ExtractsRange old 0 n start → n ≡ len old
        → ((f : F) (x : T) (answer : Bool) (g : F) (y : T) → Calls f x answer g y
        → (answer ≡ test x) × (y ≡ x)) → zs ≡ ws ++ filter test old.items
    taken-end zs ws e none was range all steady =
        sym (append-nil zs)
        ∙ ap (λ l. zs ++ l) (sym (Extracts_none Calls test steady f s g t (rw none at e))) ∙ was
        ∙ ap (λ l. ws ++ l) (Range_taken test old n start range all)

    pub left-end : (new : Vector T A) → ClosesExtract t new → Extracts Calls f s r g t → r ≡ None
        → items_at_end test s ≡ items_at_end test start → ExtractsRange old 0 n start → n ≡ len old
        → ((f : F) (x : T) (answer : Bool) (g : F) (y : T) → Calls f x answer g y
        → (answer ≡ test x) × (y ≡ x)) → new.items ≡ filter (λ x. not (test x)) old.items
    unfolding items_at_end
    left-end new closes e none was range all steady =
        let last = rw none at e in
        cc (
          ap (λ v. v.items) closes,
          last.cases.1,
          left-more None (items_at_end test start) last was steady,
          Range_left test old n start range all,
        )

-- all that comes out of a vector
module _ {F T A : Type 0} (Calls : F → T → Bool → F → T → Type 0) (test : T → Bool) where
  abbrev Steps : ExtractIf T F A → Option T → ExtractIf T F A → Type 0
  Steps u r t = Extracts Calls u.f u.by r t.f t.by

  module _ (steady : (f : F) (x : T) (answer : Bool) (g : F) (y : T) → Calls f x answer g y
      → (answer ≡ test x) × (y ≡ x)) where
    drained : (s t : ExtractIf T F A) (xs : List T) (u : ExtractIf T F A) → Yields Steps s xs t
        → Steps t None u → xs ≡ remaining_matches test s.by
    drained s t [] u y e =
        sym (ap (λ (i : ExtractIf T F A). remaining_matches test i.by) y
        ∙ Extracts_none Calls test steady t.f t.by u.f u.by e)
    drained s t (x ∷ xs) u y e = ap (λ l. x ∷ l) (drained y.0 t xs u y.2 e)
        ∙ sym (Extracts_some Calls test steady s.f s.by x y.0.f y.0.by y.1)

  pub Extracts_filter : (old : Vector T A) (n : ℕ) (s : ExtractIf T F A) (xs : List T)
      → ExtractsRange old 0 n s.by → n ≡ len old → Drains Steps s xs
      → ((f : F) (x : T) (answer : Bool) (g : F) (y : T) → Calls f x answer g y → (answer ≡ test x)
      × (y ≡ x)) → xs ≡ filter test old.items
  Extracts_filter old n s xs range all d steady = drained steady s d.1.0 xs d.0 d.1.1 d.1.2
      ∙ Range_taken test old n s.by range all

  -- and is appended to another
  pub Extends_filter : {E : Type 0} (r : Result Unit E) (old : Vector T A) (n : ℕ)
      (s it : ExtractIf T F A) (zs new : List T) → ExtractsAlong Calls s
      → ExtractsRange old 0 n s.by → n ≡ len old
      → it ≡ s → OnOk r ((xs : List T) × Drains Steps it xs × (new ≡ zs ++ xs))
      → ((f : F) (x : T) (answer : Bool) (g : F) (y : T) → Calls f x answer g y
      → (answer ≡ test x) × (y ≡ x)) → OnOk r (new ≡ zs ++ filter test old.items)
  Extends_filter (Err e) old n s it zs new along range all same whole steady = tt
  Extends_filter (Ok u) old n s it zs new along range all same whole steady =
      let drains = subst (λ i. Drains Steps i whole.0) same whole.1 in
      whole.2 ∙ ap (λ l. zs ++ l) (Extracts_filter old n s whole.0 range all drains steady)

-- what a loop over such a range needs
pub ruleset sifts =
    (IsCallableInOrder-any, extracts_fewer, taken-more, left-more, taken-end, left-end)

-- what an extension by such elements needs
pub ruleset takes = (IsCallableInOrder-any, Extends_filter)
