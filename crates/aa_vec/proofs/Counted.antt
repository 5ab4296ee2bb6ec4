-- Extensions by an iterator whose lower bound is a function of how many items remain.
use Rattle.aa_vec.proofs.Common.{◌≡◌, ℕ, ◌+◌, ◌-◌, ◌<◌, ◌≤◌, List, [], ◌∷◌, ◌++◌, length, None, append_assoc, sym, ap, ◌∙◌, arith, inl, inr, length-append, cases_lt, append-nil, Result, Ok, Err, OnOk, TryReserveError, usize_max, Vector, len, SameBlock, YieldsWithLower, Takes, Extends, RemainingItems, takes_item, lower_bound_of, LowerExactly}
use Rattle.aa_vec.proofs.GrowthLemmas.{MakesRoom, SameBlock-refl, Extends-fits, GrowsInSteps-counted, GrowsInSteps-exact}

-- another function has the same bounds for `taken`, after which `more` remains; and the vector was
-- another in the same block
module _ {T A : Type 0} (size : ℕ) (lower by : ℕ → ℕ) {u v : Vector T A} (b : SameBlock u v)
    (head taken more : List T) (same : (k : ℕ) → k < length taken → lower k ≡ by (k + length more))
  where
    pub Extends-yields : (all : List T) → all ≡ taken ++ more → (r : Result Unit TryReserveError)
        → OnOk r (more ≡ []) → (new : Vector T A) → Extends size lower v head taken r new
        → Extends size by u head all r new
    Extends-yields all e r none new x =
        let others : List T = x.others ++ more in
        let taken_is : length taken ≡ length x.front + length x.others = ap length x.begins
        ∙ length-append x.front x.others in
        let begins : all ≡ x.front ++ others = e ∙ ap (λ ys. ys ++ more) x.begins
        ∙ append_assoc x.front x.others more in
        let in_steps = GrowsInSteps-counted size lower by (length head + length taken) (length more)
        (length head + length all) b (omega (arith, ap length e, length-append taken more))
        (λ k l. same k (omega (arith, l, x.within, b.capacity))) x.in_steps in
        grind (arith, begins, in_steps, length-append, same, taken_is)

-- the lower bound of an `Items`
abbrev pub items_lower : {T : Type 0} → RemainingItems T → ℕ
items_lower s = lower_bound_of s.hint (length s.items)

module _ {T : Type 0} (lower : ℕ → ℕ) where
  -- it yielded `xs`, with the lower bounds `lower`
  pub items-rest : (s : RemainingItems T) (xs : List T) (t : RemainingItems T)
      → YieldsWithLower takes_item (LowerExactly items_lower) lower s xs t → s.items ≡ xs ++ t.items
  items-rest s [] t y = ap (λ u. u.items) y.1
  items-rest s (x ∷ xs) t y = y.2.0 ∙ ap (λ zs. x ∷ zs) (items-rest y.1 xs t y.3)

  pub items-yields : (s : RemainingItems T) (xs : List T) (t : RemainingItems T)
      → YieldsWithLower takes_item (LowerExactly items_lower) lower s xs t → (k : ℕ) → k ≤ length xs
      → lower k ≡ lower_bound_of s.hint (k + length t.items)
  items-yields s [] t y k h = ap lower (omega (arith, h)) ∙ y.0
      ∙ ap (lower_bound_of s.hint) (omega (arith, h, ap (λ u. length u.items) y.1))
  items-yields s (x ∷ xs) t y k h = elim (cases_lt k (length (x ∷ xs))) [
    | inl lt ↦ items-yields y.1 xs t y.3 k (omega (arith, lt))
        ∙ ap (λ o. lower_bound_of o (k + length t.items)) y.2.1
    | inr ge ↦ ap lower (omega (arith, h, ge)) ∙ y.0
        ∙ ap (lower_bound_of s.hint)
        (omega (
          arith,
          h,
          ge,
          ap length (items-rest s (x ∷ xs) t y),
          length-append (x ∷ xs) t.items,
        ))
  ]

  pub items-all : (s : RemainingItems T) (xs : List T) (t : RemainingItems T)
      → YieldsWithLower takes_item (LowerExactly items_lower) lower s xs t → t.items ≡ [] → xs
      ≡ s.items
  items-all s xs t y none = sym (items-rest s xs t y ∙ ap (λ ys. xs ++ ys) none ∙ append-nil xs)

-- extensions by an `Items`
module _ {T A : Type 0} (size : ℕ) (iter after : RemainingItems T) (old : Vector T A) where
  pub ExtendsAll-items : (new : Vector T A)
      → Takes takes_item (LowerExactly items_lower) iter
      (λ lower xs last. takes_item last None after
      × Extends size lower old old.items xs (Ok tt) new)
      → Extends size (lower_bound_of iter.hint) old old.items iter.items (Ok tt) new
  ExtendsAll-items new e = grind (arith, Extends-yields, SameBlock-refl, items-yields, items-rest)

  pub ExtendsFull-items : (error : TryReserveError) (new : Vector T A)
      → Takes takes_item (LowerExactly items_lower) iter
      (λ lower xs last. (last ≡ after)
      × (stop : Extends size lower old old.items xs (Err error) new) × (length stop.others ≡ 1))
      → Extends size (lower_bound_of iter.hint) old old.items iter.items (Err error) new
  ExtendsFull-items error new e =
      grind (arith, Extends-yields, SameBlock-refl, items-yields, items-rest)

  -- where the bound is how many remain, capacity for them is reserved at once
  pub ExtendsAll-counted : (new : Vector T A)
      → Takes takes_item (LowerExactly items_lower) iter
      (λ lower xs last. takes_item last None after
      × Extends size lower old old.items xs (Ok tt) new) → iter.hint ≡ None → length iter.items
      ≤ usize_max
      → MakesRoom size old old.capacity (len old + length iter.items - old.capacity) new
  ExtendsAll-counted new e none few =
      let x = ExtendsAll-items new e in
      GrowsInSteps-exact size (lower_bound_of iter.hint) (len old + length iter.items)
      (λ n. ap (λ hint. lower_bound_of hint n) none) x.in_steps (Extends-fits x)
      (omega (arith, few, x.within))
