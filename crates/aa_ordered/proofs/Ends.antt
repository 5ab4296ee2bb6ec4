-- The first and the last entry of a map, and its capacity.
use Rattle.std.proofs.Common.{◌≡◌, ◌+◌, ◌-◌, ◌≤◌, ◌<◌, ◌++◌, ℕ, suc, List, [], Some, arith, length, take, drop, get_or, remove, sym, ap, ◌∙◌, append-nil}
use Rattle.std.specs.Prelude.{slice_get}
use Rattle.std.specs.declared.cmp.Ordering.{Ordering}
use Rattle.std.proofs.lemmas.List.{drop_all}
use Rattle.std.proofs.lemmas.List.Edits.{length-remove}
use Rattle.aa_ordered.specs.Balance.{joined, lengths, position, IsAt, IsBalanced}
use Rattle.aa_ordered.specs.Capacity.{capacity_of}
use Rattle.aa_ordered.specs.Entries.{OrderedView}
use Rattle.aa_ordered.specs.Inside.{view_of, IsMap}
use Rattle.aa_ordered.specs.Leaves.{LeavesView}
use Rattle.aa_ordered.proofs.Flat.{joined-one, long-middle, position-within, read-joined}
use Rattle.aa_ordered.proofs.Found.{ordered-removed}
use Rattle.aa_ordered.proofs.Placing.{some-each}
use Rattle.aa_ordered.proofs.Reading.{get-from}
use Rattle.std.proofs.lemmas.List.{drop_all}

-- an item at a spot
module _ {T : Type 0} (ls : List (List T)) (i at : ℕ) (a : IsAt ls i at) where
  pub at-within : position ls i at < length (joined ls)
  at-within = position-within ls i a.list at a.within

  pub spot-get : (xs : List T) (d : T) → xs ≡ get_or ls i [] → Some (get_or xs at d) ≡ slice_get (joined ls) (position ls i at)
  spot-get xs d e = rw e (sym (get-from (joined ls) (position ls i at) d at-within ∙ ap Some (read-joined ls i a.list at d a.within)))

-- the last item
module _ {T : Type 0} (ls : List (List T)) (b : IsBalanced (lengths ls)) (n : ℕ) (count : n ≡ length ls) (some : 0 < n) where
  here : n - 1 < length ls
  here = omega (arith, count, some)

  pub last-some : 1 ≤ length (get_or ls (n - 1) [])
  last-some = some-each ls (n - 1) b here

  pub last-at : IsAt ls (n - 1) (length (get_or ls (n - 1) []) - 1)
  last-at = record { list = here; within = omega (arith, last-some) }

  pub last-position : position ls (n - 1) (length (get_or ls (n - 1) []) - 1) + 1 ≡ length (joined ls)
  last-position =
      let none = ap joined (drop_all (n - 1 + 1) ls (omega (arith, count, some))) in
      omega (arith, ap length (joined-one ls (n - 1) here), long-middle (joined (take (n - 1) ls)) (get_or ls (n - 1) []) (joined (drop (n - 1 + 1) ls)), ap length none, last-some)

-- an entry is removed at a spot
module _ {K V : Type 0} (cmp : K → K → Ordering) (leaves new : LeavesView (K × V)) (p : ℕ) (q : joined new.lists ≡ remove (joined leaves.lists) p) where
  pub cut-map : p < length (joined leaves.lists) → (len : ℕ) → IsMap cmp leaves len → IsBalanced (lengths new.lists) → IsMap cmp new (len - 1)
  cut-map w len m b = record {
    count = let c = length-remove (joined leaves.lists) p w in omega (arith, ap length q, c, m.count);
    balanced = b;
    ordered = rw q (ordered-removed cmp (joined leaves.lists) p m.ordered);
  }

  module _ (v : OrderedView K V) (is : view_of leaves ≡ v) (o : new.room ≡ leaves.room) (n : new.resizes ≡ leaves.resizes) where
    same-capacity : capacity_of new.room ≡ v.capacity
    same-capacity = ap capacity_of o ∙ ap (λ (u : OrderedView K V). u.capacity) is

    same-resizes : new.resizes ≡ v.resizes
    same-resizes = n ∙ ap (λ (u : OrderedView K V). u.resizes) is

    pub cut-first : p ≡ 0 → view_of new ≡ record v { entries = drop 1 v.entries }
    cut-first z =
        let es = rw z at q ∙ ap (λ (u : OrderedView K V). drop 1 u.entries) is in
        λ i. record { entries = es i; capacity = same-capacity i; resizes = same-resizes i }

    pub cut-last : p + 1 ≡ length (joined leaves.lists) → view_of new ≡ record v { entries = take (length v.entries - 1) v.entries }
    cut-last z =
        let none = drop_all (suc p) (joined leaves.lists) (omega (arith, z)) in
        let e : p ≡ length (joined leaves.lists) - 1 = omega (arith, z) in
        let es = q ∙ ap (λ zs. take p (joined leaves.lists) ++ zs) none ∙ append-nil (take p (joined leaves.lists)) ∙ ap (λ m. take m (joined leaves.lists)) e
        ∙ ap (λ (u : OrderedView K V). take (length u.entries - 1) u.entries) is in
        λ i. record { entries = es i; capacity = same-capacity i; resizes = same-resizes i }

-- the last entry of the view
pub last-get : {K V : Type 0} (leaves : LeavesView (K × V)) (v : OrderedView K V) (is : view_of leaves ≡ v) (p : ℕ) → p + 1 ≡ length (joined leaves.lists) → slice_get (joined leaves.lists) p ≡ slice_get v.entries (length v.entries - 1)
last-get {K = K} {V = V} leaves v is p z =
    let e : p ≡ length (joined leaves.lists) - 1 = omega (arith, z) in
    ap (slice_get (joined leaves.lists)) e ∙ ap (λ (u : OrderedView K V). slice_get u.entries (length u.entries - 1)) is

pub first-get : {K V : Type 0} (leaves : LeavesView (K × V)) (v : OrderedView K V) (is : view_of leaves ≡ v) (p : ℕ) → p ≡ 0 → slice_get (joined leaves.lists) p ≡ slice_get v.entries 0
first-get {K = K} {V = V} leaves v is p z = ap (slice_get (joined leaves.lists)) z ∙ ap (λ (u : OrderedView K V). slice_get u.entries 0) is
