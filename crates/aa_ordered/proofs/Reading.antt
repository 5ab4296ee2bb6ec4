-- An entry that is read or written at its spot.
use Rattle.std.proofs.Common.{◌≡◌, ◌⊎◌, inl, ◌<◌, ℕ, suc, zero, List, [], ◌∷◌, Some, refl, arith, length, get_or, sym, ap, ◌∙◌, length-set}
use Rattle.std.specs.Prelude.{slice_get, slice_set}
use Rattle.std.specs.declared.cmp.Ordering.{Ordering}
use Rattle.std.specs.BTreeMap.{insert_entry, is_at}
use Rattle.std.specs.Map.{lookup, lookup_entry, set_value}
use Rattle.std.proofs.lemmas.List.{map-set, set-get_or}
use Rattle.aa_ordered.specs.Balance.{joined, lengths, position, IsAt}
use Rattle.aa_ordered.specs.Capacity.{capacity_of}
use Rattle.aa_ordered.specs.Entries.{IsFound}
use Rattle.aa_ordered.specs.Inside.{view_of, IsMap}
use Rattle.aa_ordered.specs.Leaves.{list_at, with_list, LeavesView}
use Rattle.aa_ordered.proofs.Flat.{joined-written, read-joined}
use Rattle.aa_ordered.proofs.Found.{found-entry, found-inserted, found-value, found-written, ordered-written}

-- an item that is read
pub got : {T : Type 0} (xs : List T) (i : ℕ) (x d : T) → slice_get xs i ≡ Some x → get_or xs i d ≡ x
got [] i x d h = absurd (cc)
got (y ∷ xs) zero x d h = cc
got (y ∷ xs) (suc i) x d h = got xs i x d h

pub get-from : {T : Type 0} (xs : List T) (i : ℕ) (d : T) → i < length xs → slice_get xs i ≡ Some (get_or xs i d)
get-from [] i d h = absurd (omega arith)
get-from (y ∷ xs) zero d h = refl
get-from (y ∷ xs) (suc i) d h = get-from xs i d (omega arith)

module _ {K V : Type 0} (order : K → Ordering) (ls : List (List (K × V))) (i at : ℕ) (a : IsAt ls i at) (f : IsFound order (joined ls) (position ls i at)) where
  read : (d : K × V) → get_or (joined ls) (position ls i at) d ≡ get_or (get_or ls i []) at d
  read d = read-joined ls i a.list at d a.within

  pub read-value : (xs : List (K × V)) (d : K × V) → xs ≡ get_or ls i [] → Some (get_or xs at d).1 ≡ lookup (is_at order) (joined ls)
  read-value xs d e = rw e (ap (λ (y : K × V). Some y.1) (sym (read d))) ∙ sym (found-value order (joined ls) (position ls i at) d f)

  pub read-entry : (xs : List (K × V)) (d : K × V) → xs ≡ get_or ls i [] → Some (get_or xs at d) ≡ lookup_entry (is_at order) (joined ls)
  read-entry xs d e = rw e (ap Some (sym (read d))) ∙ sym (found-entry order (joined ls) (position ls i at) d f)

  pub got-value : (e : K × V) → slice_get (get_or ls i []) at ≡ Some e → Some e.1 ≡ lookup (is_at order) (joined ls)
  got-value e r = ap (λ (y : K × V). Some y.1) (sym (got (get_or ls i []) at e e r)) ∙ read-value (get_or ls i []) e refl

-- an entry whose value is written
module _ {K V : Type 0} (cmp : K → K → Ordering) (leaves : LeavesView (K × V)) (i at : ℕ) (a : IsAt leaves.lists i at) (e : K × V) (r : slice_get (list_at leaves i) at ≡ Some e) (w : V) where
  here : get_or (joined leaves.lists) (position leaves.lists i at) e ≡ e
  here = read-joined leaves.lists i a.list at e a.within ∙ got (list_at leaves i) at e e r

  pub written-joined : joined (slice_set leaves.lists i (slice_set (list_at leaves i) at (e.0, w))) ≡ slice_set (joined leaves.lists) (position leaves.lists i at) ((get_or (joined leaves.lists) (position leaves.lists i at) e).0, w)
  written-joined = joined-written leaves.lists i a.list at (e.0, w) a.within ∙ ap (λ (y : K × V). slice_set (joined leaves.lists) (position leaves.lists i at) (y.0, w)) (sym here)

  same-lengths : lengths (slice_set leaves.lists i (slice_set (list_at leaves i) at (e.0, w))) ≡ lengths leaves.lists
  same-lengths =
      map-set length leaves.lists i _ ∙ ap (slice_set (lengths leaves.lists) i) (length-set (list_at leaves i) at (e.0, w))
      ∙ sym (map-set length leaves.lists i (list_at leaves i)) ∙ ap lengths (set-get_or leaves.lists i [])

  pub written-map : (len : ℕ) → IsMap cmp leaves len → IsMap cmp (with_list leaves i (slice_set (list_at leaves i) at (e.0, w))) len
  written-map len m = record {
    count = rw written-joined (m.count ∙ sym (length-set (joined leaves.lists) (position leaves.lists i at) _));
    balanced = rw same-lengths m.balanced;
    ordered = rw written-joined (ordered-written cmp (joined leaves.lists) (position leaves.lists i at) e w m.ordered);
  }

  pub written-view : (order : K → Ordering) → IsFound order (joined leaves.lists) (position leaves.lists i at) → view_of (with_list leaves i (slice_set (list_at leaves i) at (e.0, w))) ≡ record { entries = set_value (is_at order) (joined leaves.lists) w; capacity = capacity_of leaves.room; resizes = leaves.resizes }
  written-view order f = ap (λ es. record { entries = es; capacity = capacity_of leaves.room; resizes = leaves.resizes }) (written-joined ∙ sym (found-written order (joined leaves.lists) (position leaves.lists i at) e w f))

  pub written-inserted : (k : K) → IsFound (cmp k) (joined leaves.lists) (position leaves.lists i at) → joined (slice_set leaves.lists i (slice_set (list_at leaves i) at (e.0, w))) ≡ insert_entry cmp (joined leaves.lists) k w
  written-inserted k f = written-joined ∙ sym (found-inserted cmp k (joined leaves.lists) (position leaves.lists i at) e w f)

-- two functions of what is written through one borrow
pub same-lent : {G X Y Z : Type 0} (n : G) (f h : X → Y) → ((x : X) → f x ≡ h x) → ◌≡◌ {A = (G × (X → Y)) ⊎ Z} (inl (n, f)) (inl (n, h))
same-lent n f h e i = inl (n, λ x. e x i)
