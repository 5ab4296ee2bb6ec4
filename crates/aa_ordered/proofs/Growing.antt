-- How far a map grows while entries are inserted one by one, and how often.
use Rattle.std.proofs.Common.{◌≡◌, ◌+◌, ◌-◌, ◌*◌, ◌/◌, ◌^◌, ◌≤◌, ◌<◌, ℕ, inl, inr, arith, length, ap, subst, ◌∙◌}
use Rattle.std.specs.Prelude.{max}
use Rattle.std.proofs.Math.Nat.{mul_assoc, pow-succ'}
use Rattle.std.proofs.lemmas.Bool.{cases_lt}
use Rattle.std.proofs.lemmas.Bool.Decides.{nat_tests}
use Rattle.aa_ordered.specs.Capacity.{capacity_of, leaves_for, leaves_of, requested_leaves, resizes_to, twice_leaves_of, FewResizes, MayGrowForOne}
use Rattle.aa_ordered.specs.Entries.{OrderedView}
use Rattle.aa_ordered.proofs.Resizing.{stays-as}

leaves-more : (n : ℕ) → leaves_for (n + 1) ≡ max 1 (n / 32)
leaves-more n = let e : n + 1 - 1 ≡ n = omega arith in grind (arith, nat_tests, e)

capacity-some : (l : ℕ) → 0 < l → capacity_of l ≡ (l + 1) * 32
capacity-some l h = grind (arith, nat_tests, h)

-- the capacity `c` of a map of `n` entries, and the one after it grew
abbrev grown_capacity : (c n : ℕ) → ℕ
grown_capacity c n = (max (2 * leaves_of c) (max 1 (n / 32)) + 1) * 32

grown-most : (c n : ℕ) → c ≤ n → grown_capacity c n ≤ max 64 (2 * n)
grown-most c n h = omega (arith, h)

grown-twice : (c n d : ℕ) → d ≡ grown_capacity c n → 2 * twice_leaves_of c ≤ twice_leaves_of d
grown-twice c n d is = omega (arith, is)

more-pow : (k : ℕ) → 2 ^ (k + 1) ≡ 2 * 2 ^ k
more-pow k = ap (λ i. 2 ^ i) (omega arith) ∙ pow-succ' 2 k

few-step : (k x y z : ℕ) → 2 ^ k * x ≤ y → 2 * y ≤ z → 2 ^ (k + 1) * x ≤ z
few-step k x y z h d = let e = ap (λ i. i * x) (more-pow k) ∙ mul_assoc 2 (2 ^ k) x in omega (arith, e, h, d)

-- how rarely a map grew that was empty
pub resizes-few : (c r n : ℕ) → 2 ^ (r - 0) * twice_leaves_of 0 ≤ twice_leaves_of c
    → c ≤ max 0 (max 64 (2 * n)) → 2 ^ r ≤ max 2 (n / 8)
resizes-few c r n few most =
    let from : 2 ^ r * 1 ≤ twice_leaves_of c = subst (λ k. 2 ^ k * 1 ≤ twice_leaves_of c)
    (omega arith) few in
    omega (arith, from, most)

module _ {K V : Type 0} where
  for-one : (m : OrderedView K V) → capacity_of (requested_leaves m 1) ≡ grown_capacity m.capacity (length m.entries)
  for-one m =
      let l = leaves-more (length m.entries) in
      capacity-some (requested_leaves m 1) (omega (arith, l)) ∙ ap (λ n. (max (2 * leaves_of m.capacity) n + 1) * 32) l

  pub no-less : (m u : OrderedView K V) → MayGrowForOne m u → m.capacity ≤ u.capacity
  no-less m u (inl same) = omega (arith, same)
  no-less m u (inr is) = omega (arith, is ∙ for-one m)

  pub no-fewer : (m : OrderedView K V) (c : ℕ) → m.resizes ≤ resizes_to m c
  no-fewer m c = grind (arith, nat_tests)

  -- none have moved yet
  pub few-none : (m : OrderedView K V) → FewResizes m m
  few-none m = let none : m.resizes - m.resizes ≡ 0 = omega arith in rw none (omega arith)

  -- where the capacity changed
  module _ (u w : OrderedView K V) (less : u.capacity < w.capacity) where
    grown-is : MayGrowForOne u w → w.capacity ≡ grown_capacity u.capacity (length u.entries)
    grown-is (inl same) = absurd (omega (arith, same, less))
    grown-is (inr is) = is ∙ for-one u

    one-more : w.resizes ≡ resizes_to u w.capacity → w.resizes ≡ u.resizes + 1
    one-more moved = let one : resizes_to u w.capacity ≡ u.resizes + 1 = grind (arith, nat_tests, less) in moved ∙ one

  -- one more entry
  module _ (m u w : OrderedView K V) (grown : MayGrowForOne u w) where
    same-capacity : w.capacity ≤ u.capacity → w.capacity ≡ u.capacity
    same-capacity h = omega (arith, h, no-less u w grown)

    pub few-more : w.resizes ≡ resizes_to u w.capacity → m.resizes ≤ u.resizes → FewResizes m u → FewResizes m w
    few-more moved le few = elim (cases_lt u.capacity w.capacity) [
      | inl less ↦
          let next : w.resizes - m.resizes ≡ u.resizes - m.resizes + 1 = omega (arith, le, one-more u w less moved) in
          rw next (few-step (u.resizes - m.resizes) (twice_leaves_of m.capacity) (twice_leaves_of u.capacity) (twice_leaves_of w.capacity) few (grown-twice u.capacity (length u.entries) w.capacity (grown-is u w less grown)))
      | inr more ↦ let same = same-capacity more in rw (stays-as u w same moved, same) few
    ]

    pub most-more : (length u.entries < u.capacity → w.capacity ≡ u.capacity) → length u.entries ≤ length w.entries → u.capacity ≤ max m.capacity (max 64 (2 * length u.entries))
        → w.capacity ≤ max m.capacity (max 64 (2 * length w.entries))
    most-more room more most = elim (cases_lt u.capacity w.capacity) [
      | inl less ↦
          let full : u.capacity ≤ length u.entries = elim (cases_lt (length u.entries) u.capacity) [ inl f ↦ absurd (omega (arith, room f, less)) | inr g ↦ g ] in
          omega (arith, grown-is u w less grown, grown-most u.capacity (length u.entries) full, more)
      | inr e ↦ omega (arith, e, more, most)
    ]
