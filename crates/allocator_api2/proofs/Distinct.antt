-- Of a sorted list `dedup` leaves no two elements that are the same.
use Rattle.allocator_api2.proofs.Common.{Bool, List, [], arith, false, nat_tests, suc, zero, ⊤, ◌∷◌, ◌≡◌}
use Rattle.std.specs.List.{AllByRecursion, IsDistinct, dedup_from}
use Rattle.std.specs.List.Sorted.{IsSortedBy}
use Rattle.std.specs.Cmp.{IsTotalOrder}
use Rattle.std.specs.Ordering.{is_lt, eq_by_cmp}
use Rattle.std.specs.declared.cmp.Ordering.{Ordering}
use Rattle.std.proofs.lemmas.Bool.{cond_both}
use Rattle.std.proofs.lemmas.List.Sorted.{ranks_by}
use Rattle.allocator_api2.specs.Laws.{OrdersUpTo, LeavesDistinct}

-- no element is less than one before it
abbrev pub Rises : {T : Type 0} → (T → T → Bool) → List T → Type 0
Rises lt [] = ⊤
Rises lt (x ∷ xs) = AllByRecursion (λ y. lt y x ≡ false) xs × Rises lt xs

module _ {T : Type 0} where
  all_map : {P Q : T → Type 0} → ((x : T) → P x → Q x) → (xs : List T) → AllByRecursion P xs
      → AllByRecursion Q xs
  all_map f [] a = tt
  all_map f (x ∷ xs) a = (f x a.0, all_map f xs a.1)

  all_kept : (P : T → Type 0) (same : T → T → Bool) (k : T) (xs : List T) → P k
      → AllByRecursion P xs → AllByRecursion P (dedup_from same k xs)
  all_kept P same k [] p a = (p, tt)
  all_kept P same k (x ∷ xs) p a =
      cond_both (same x k) (dedup_from same k xs) (k ∷ dedup_from same x xs) (AllByRecursion P)
      (λ e. all_kept P same k xs p a.1) (λ e. (p, all_kept P same x xs a.0 a.1))

  module _ {same lt : T → T → Bool} (o : OrdersUpTo same lt) where
    rises : (xs : List T) → IsSortedBy lt xs → Rises lt xs
    rises [] h = tt
    rises (x ∷ []) h = (tt, tt)
    rises (x ∷ y ∷ ys) h =
        let rest = rises (y ∷ ys) (λ k d low high. grind (arith, h (suc k) d)) in
        let first : lt y x ≡ false = h zero x (omega arith) (omega arith) in
        ((first, all_map (λ z l. o.chain z y x l first) ys rest.0), rest)

    distinct_from : (k : T) (xs : List T) → AllByRecursion (λ y. lt y k ≡ false) xs → Rises lt xs
        → IsDistinct same (dedup_from same k xs)
    unfolding IsDistinct
    distinct_from k [] a r = (tt, tt)
    distinct_from k (x ∷ xs) a r =
        cond_both (same x k) (dedup_from same k xs) (k ∷ dedup_from same x xs) (IsDistinct same)
        (λ e. distinct_from k xs a.1 r.1)
        (λ e.
        let first : same k x ≡ false = grind (arith, nat_tests, o.tie x k, o.tie k x, a.0, e) in (
          all_kept (λ y. same k y ≡ false) same x xs first
              (all_map (λ y l. grind (arith, nat_tests, a.0, e, o.tie x k, o.tie k y, o.chain k y x))
              xs r.0),
          distinct_from x xs r.0 r.1,
        ))

pub leaves_distinct : {T : Type 0} (same : T → T → Bool) → LeavesDistinct same
unfolding IsDistinct
leaves_distinct same lt [] o s = tt
leaves_distinct same lt (x ∷ xs) o s = let r = rises o (x ∷ xs) s in distinct_from o x xs r.0 r.1

-- the order of keys by `cmp`
pub by_key : {T K : Type 0} {E : K → K → Bool} {R : K → K → Ordering} → IsTotalOrder R
    → ((x y : K) → E x y ≡ eq_by_cmp R x y) → (key : T → K)
    → OrdersUpTo (λ x y. E (key x) (key y)) (λ x y. is_lt (R (key x) (key y)))
by_key {R = R} o tied key = record {
  chain = (ranks_by o key).chain;
  tie = λ x y. rw (tied (key x) (key y), o.antisymm (key x) (key y)) (grind (arith, nat_tests));
}
