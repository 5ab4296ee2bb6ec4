-- A map to which a key was added, whose value is then written.
use Rattle.std.proofs.Common.{◌≡◌, ◌⊎◌, ◌+◌, ◌*◌, ◌≤◌, ◌<◌, ℕ, true, List, None, Some, is_some, length, take, drop, get_or, insert, sym, ap, subst, ◌∙◌, length-take-le, true≢false}
use Rattle.std.specs.Prelude.{max, slice_get, slice_set}
use Rattle.std.specs.declared.cmp.Ordering.{Ordering}
use Rattle.std.specs.Cmp.{IsTotalOrder}
use Rattle.std.specs.BTreeMap.{insert_entry}
use Rattle.std.proofs.lemmas.List.{set_at}
use Rattle.std.proofs.lemmas.List.Edits.{get_or-insert_at}
use Rattle.aa_ordered.specs.Balance.{joined, lengths, position, IsAt, IsBalanced}
use Rattle.aa_ordered.specs.Capacity.{capacity_of, leaves_for, resizes_to}
use Rattle.aa_ordered.specs.Entries.{value, IsFound, IsGap, OrderedView}
use Rattle.aa_ordered.specs.Inserting.{Inserts}
use Rattle.aa_ordered.specs.Inside.{view_of, IsMap}
use Rattle.aa_ordered.specs.Leaves.{list_at, resizes_to as leaves_to, with_list, LeavesView}
use Rattle.aa_ordered.proofs.Flat.{read-joined}
use Rattle.aa_ordered.proofs.Found.{found-some}
use Rattle.aa_ordered.proofs.Reading.{got, written-joined, written-map}
use Rattle.aa_ordered.proofs.Resizing.{grows-as, moved-to}
use Rattle.aa_ordered.proofs.Sound.{absent-inserted, inserted-map}

set-insert : {T : Type 0} (xs : List T) (p : ℕ) (y z : T) → p ≤ length xs → slice_set (insert xs p y) p z ≡ insert xs p z
set-insert xs p y z h = set_at (take p xs) y (drop p xs) z p (length-take-le p xs h)

module _ {K V : Type 0} (cmp : K → K → Ordering) (k : K) (leaves : LeavesView (K × V)) (v : OrderedView K V) (is : view_of leaves ≡ v) (p : ℕ) where
  pub present-never : {P : Type 0} → IsFound (cmp k) (joined leaves.lists) p → value cmp v.entries k ≡ None → P
  present-never f none =
      let some = subst (λ (u : OrderedView K V). is_some (value cmp u.entries k) ≡ true) is (found-some (cmp k) (joined leaves.lists) p f) in
      absurd (true≢false (sym some ∙ ap is_some none))

  module _ (f : IsGap (cmp k) (joined leaves.lists) p) (item : V) (new : LeavesView (K × V)) (q : joined new.lists ≡ insert (joined leaves.lists) p (k, item)) (i at : ℕ) (a : IsAt new.lists i at) (pl : position new.lists i at ≡ p) (e : K × V) (r : slice_get (list_at new i) at ≡ Some e) where
    there : get_or (joined new.lists) (position new.lists i at) e ≡ (k, item)
    there = rw (pl, q) (get_or-insert_at (joined leaves.lists) p (k, item) e f.within)

    pub added-is : e ≡ (k, item)
    added-is = sym (got (list_at new i) at e e r) ∙ sym (read-joined new.lists i a.list at e a.within) ∙ there

    pub added-joined : (w : V) → joined (slice_set new.lists i (slice_set (list_at new i) at (e.0, w))) ≡ insert_entry cmp v.entries k w
    added-joined w =
        written-joined cmp new i at a e r w
        ∙ (λ j. slice_set (q j) (pl j) ((there j).0, w))
        ∙ set-insert (joined leaves.lists) p (k, item) (k, w) f.within ∙ absent-inserted cmp k leaves v is p f w

    pub added-map : IsTotalOrder cmp → (len : ℕ) → IsMap cmp leaves len → IsBalanced (lengths new.lists) → (w : V) → IsMap cmp (with_list new i (slice_set (list_at new i) at (e.0, w))) (len + 1)
    added-map total len m b w = written-map cmp new i at a e r w (len + 1) (inserted-map cmp k leaves v is p f total len m item new q b)

    pub added-inserts : (length (joined leaves.lists) < capacity_of leaves.room → new.room ≡ leaves.room) → (new.room ≡ leaves.room) ⊎ (new.room ≡ max (2 * leaves.room) (leaves_for (length (joined leaves.lists) + 1))) → new.resizes ≡ leaves_to leaves new.room → (w : V) → Inserts cmp v k w (view_of (with_list new i (slice_set (list_at new i) at (e.0, w))))
    added-inserts room grown moved w = record {
      entries = added-joined w;
      capacity = subst (λ (u : OrderedView K V). length u.entries < u.capacity → capacity_of new.room ≡ u.capacity) is (λ h. ap capacity_of (room h));
      grown = grows-as leaves v is new.room grown;
      resizes = subst (λ (u : OrderedView K V). new.resizes ≡ resizes_to u (capacity_of new.room)) is (moved ∙ moved-to leaves new.room);
    }
