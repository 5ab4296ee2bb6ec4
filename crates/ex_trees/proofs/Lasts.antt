-- The last value of a list.
use Rattle.std.proofs.Common.{◌≡◌, ℕ, ◌+◌, ◌<◌, ◌-◌, List, [], ◌∷◌, ◌++◌, take, length, refl, sym, ap, ◌∙◌, arith}
use Rattle.std.specs.Prelude.{None, Option, Some, sum}
use Rattle.std.proofs.lemmas.List.Sums.{sum_by-cons}
use native.Mathlib.Numerals.{unary_clauses}
use Rattle.aa_boxed.specs.Boxed.{Boxed, with_value}
use Rattle.ex_trees.specs.Linked.{values, values_of, values_step}
use Rattle.ex_trees.specs.declared.list.Node.{Node}
use Rattle.ex_trees.specs.declared.list.Node.TheViews.{out-Node, roll-Node, roll-out-Node}
use Rattle.ex_trees.specs.declared.list.Node.TheFolds.{fold-roll-Node, fold_out-Node}

-- the list without its last value, and x in its place
abbrev pub with_last : ℕ → List ℕ → List ℕ
with_last x ys = take (length ys - 1) ys ++ x ∷ []

-- the last value of a list that has one
last_after : (v x : ℕ) (ys : List ℕ) → 0 < length ys → v ∷ with_last x ys ≡ with_last x (v ∷ ys)
last_after v x [] h = absurd (omega (arith, h))
last_after v x (y ∷ ys) h = simp unary_clauses refl

module _ {A : Type 0} where
  some : (n : Node A) → 0 < length (values n)
  some n = rw (fold_out-Node A (List ℕ) values_step n) (omega arith)

  values_rolled : (next : Option (Boxed (Node A) A)) (v : ℕ) → values (roll-Node A (record { next = next; value = v })) ≡ v ∷ values_of next
  values_rolled None v = fold-roll-Node A (List ℕ) values_step (record { next = None; value = v })
  values_rolled (Some b) v = fold-roll-Node A (List ℕ) values_step (record { next = Some b; value = v })

  values_out : (n : Node A) → values n ≡ (out-Node A n).value ∷ values_of (out-Node A n).next
  values_out n = ap values (sym (roll-out-Node A n)) ∙ values_rolled (out-Node A n).next (out-Node A n).value

  -- the sum of a list, where m and n are both its first node
  pub sum_out : (rest : Option (Boxed (Node A) A)) (b : Boxed (Node A) A) (m n : Node A) → rest ≡ Some b → m ≡ b.value → n ≡ b.value → sum (values_of rest) ≡ (out-Node A m).value + sum (values_of (out-Node A n).next)
  sum_out rest b m n e p q =
      ap (λ o. sum (values_of o)) e ∙ ap sum (values_out b.value)
      ∙ sum_by-cons (λ k. k) (out-Node A b.value).value (values_of (out-Node A b.value).next)
      ∙ ap (λ k. (out-Node A k).value + sum (values_of (out-Node A b.value).next)) (sym p)
      ∙ ap (λ k. (out-Node A m).value + sum (values_of (out-Node A k).next)) (sym q)

  pub last_set : (n m : Node A) (b : Boxed (Node A) A) (x : ℕ) → (out-Node A n).next ≡ Some b → values m ≡ with_last x (values b.value)
      → values (roll-Node A (record { next = Some (with_value b m); value = (out-Node A n).value })) ≡ with_last x (values n)
  last_set n m b x e h =
      fold-roll-Node A (List ℕ) values_step (record { next = Some (with_value b m); value = (out-Node A n).value })
      ∙ ap (λ ys. (out-Node A n).value ∷ ys) h
      ∙ last_after (out-Node A n).value x (values b.value) (some b.value)
      ∙ ap (with_last x) (sym (rw e at (fold_out-Node A (List ℕ) values_step n)))
