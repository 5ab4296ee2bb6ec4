-- How often a map moved to new blocks, by its leaves and by its capacity.
use Rattle.std.proofs.Common.{◌≡◌, ◌≢◌, ◌⊎◌, ◌+◌, ◌*◌, ℕ, inl, inr, ap, sym, arith, length, ◌∙◌}
use Rattle.std.specs.Prelude.{max, min}
use Rattle.std.proofs.lemmas.Bool.Decides.{nat_tests}
use Rattle.aa_ordered.specs.Balance.{joined}
use Rattle.aa_ordered.specs.Capacity.{capacity_of, fresh_resizes, leaves_for, leaves_of, requested_leaves, reserved_resizes, resizes_to}
use Rattle.aa_ordered.specs.Entries.{empty, OrderedView}
use Rattle.aa_ordered.specs.Inside.{view_of}
use Rattle.aa_ordered.specs.Leaves.{resizes_to as leaves_to, LeavesView}

-- the leaves, when they move
pub moved-count : {T : Type 0} (v : LeavesView T) (n : ℕ) → n ≢ v.room → v.resizes + min n 1 ≡ leaves_to v n
moved-count v n other = grind (arith, nat_tests, other)

pub leaves-kept : {T : Type 0} (v : LeavesView T) → leaves_to v v.room ≡ v.resizes
leaves-kept v = grind (arith, nat_tests)

pub leaves-same : (r : ℕ) → leaves_of (capacity_of r) ≡ r
leaves-same r = grind (arith, nat_tests)

module _ {K V : Type 0} where
  -- the capacity changes with the number of leaves
  pub moved-to : (leaves : LeavesView (K × V)) (n : ℕ) → leaves_to leaves n ≡ resizes_to (view_of leaves) (capacity_of n)
  moved-to leaves n = grind (arith, nat_tests)

  kept : (m : OrderedView K V) → resizes_to m m.capacity ≡ m.resizes
  kept m = grind (arith, nat_tests)

  -- a map whose capacity did not change moved to no other blocks
  pub stays-as : (m n : OrderedView K V) → n.capacity ≡ m.capacity → n.resizes ≡ resizes_to m n.capacity → n.resizes ≡ m.resizes
  stays-as m n same moved = moved ∙ ap (resizes_to m) same ∙ kept m

  -- the map has the capacity of the requested leaves if it has these
  pub grows-as : (leaves : LeavesView (K × V)) (v : OrderedView K V) → view_of leaves ≡ v → (r : ℕ) → (r ≡ leaves.room) ⊎ (r ≡ max (2 * leaves.room) (leaves_for (length (joined leaves.lists) + 1)))
      → (capacity_of r ≡ v.capacity) ⊎ (capacity_of r ≡ capacity_of (requested_leaves v 1))
  grows-as leaves v is r (inl e) = inl (ap capacity_of e ∙ ap (λ (u : OrderedView K V). u.capacity) is)
  grows-as leaves v is r (inr e) =
      let count = length (joined leaves.lists) + 1 in
      inr (ap capacity_of (e ∙ ap (λ l. max (2 * l) (leaves_for count)) (sym (leaves-same leaves.room))) ∙ ap (λ (u : OrderedView K V). capacity_of (requested_leaves u 1)) is)

-- a new map that reserves
pub fresh-reserved : (K V : Type 0) (n : ℕ) → reserved_resizes {K = K} {V = V} empty n ≡ fresh_resizes n
fresh-reserved K V n = grind (arith, nat_tests)
