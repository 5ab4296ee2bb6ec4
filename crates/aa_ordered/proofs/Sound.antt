-- The invariant of an ordered map, and its view, where an entry is inserted or removed.
use Rattle.std.proofs.Common.{◌≡◌, ◌+◌, ◌-◌, ◌*◌, ◌≤◌, ◌<◌, ◌^◌, ℕ, true, List, [], ◌∷◌, All, Some, None, is_some, option_map, refl, arith, length, insert, remove, sym, ap, subst, ◌∙◌, true≢false}
use Rattle.std.specs.Prelude.{slice_get}
use Rattle.std.specs.declared.cmp.Ordering.{Ordering}
use Rattle.std.specs.Cmp.{IsTotalOrder}
use Rattle.std.specs.BTreeMap.{insert_entry, is_at}
use Rattle.std.specs.Map.{lookup, lookup_entry, remove_entry}
use Rattle.std.proofs.lemmas.List.Edits.{length-insert, length-remove}
use Rattle.aa_ordered.specs.Balance.{joined, lengths, IsBalanced}
use Rattle.aa_ordered.specs.Capacity.{capacity_of}
use Rattle.aa_ordered.specs.Entries.{IsFound, IsGap, OrderedView}
use Rattle.aa_ordered.specs.Inside.{view_of, IsMap}
use Rattle.aa_ordered.specs.Leaves.{LeavesView}
use Rattle.aa_ordered.proofs.Balance.{at-most}
use Rattle.aa_ordered.proofs.Found.{found-entry, found-without, gap-entry, gap-inserted, gap-value, gap-without, ordered-inserted, ordered-removed}
use Rattle.aa_ordered.proofs.Order.{ordered-empty}
use Rattle.aa_ordered.proofs.Reading.{got}

pub no-entries : {K V : Type 0} (cmp : K → K → Ordering) (room resizes : ℕ) → IsMap {K = K} {V = V} cmp (record { lists = []; room = room; resizes = resizes }) 0
no-entries cmp room resizes = record { count = refl; balanced = tt; ordered = ordered-empty cmp }

pub value-of-entry : {K V : Type 0} (order : K → Ordering) (es : List (K × V)) → option_map (λ e. e.1) (lookup_entry (is_at order) es) ≡ lookup (is_at order) es
value-of-entry order [] = refl
value-of-entry order (e ∷ es) = grind (arith, value-of-entry order es)

module _ {K V : Type 0} (order : K → Ordering) (leaves : LeavesView (K × V)) (v : OrderedView K V) (is : view_of leaves ≡ v) (p : ℕ) where
  -- the key is absent
  module _ (f : IsGap order (joined leaves.lists) p) where
    pub absent-value : lookup (is_at order) v.entries ≡ None
    absent-value = subst (λ (u : OrderedView K V). lookup (is_at order) u.entries ≡ None) is (gap-value order (joined leaves.lists) p f)

    pub absent-entry : lookup_entry (is_at order) v.entries ≡ None
    absent-entry = subst (λ (u : OrderedView K V). lookup_entry (is_at order) u.entries ≡ None) is (gap-entry order (joined leaves.lists) p f)

    pub absent-never : {P : Type 0} → is_some (lookup (is_at order) v.entries) ≡ true → P
    absent-never t = absurd (true≢false (sym t ∙ ap is_some absent-value))

    pub absent-without : v ≡ record v { entries = remove_entry (is_at order) v.entries }
    absent-without = subst (λ (u : OrderedView K V). u ≡ record u { entries = remove_entry (is_at order) u.entries }) is (ap (λ es. record { entries = es; capacity = capacity_of leaves.room; resizes = leaves.resizes }) (sym (gap-without order (joined leaves.lists) p f)))

  -- the key is there
  module _ (f : IsFound order (joined leaves.lists) p) (e : K × V) (r : slice_get (joined leaves.lists) p ≡ Some e) where
    pub present-entry : Some e ≡ lookup_entry (is_at order) v.entries
    present-entry =
        ap Some (sym (got (joined leaves.lists) p e e r)) ∙ sym (found-entry order (joined leaves.lists) p e f)
        ∙ ap (λ (u : OrderedView K V). lookup_entry (is_at order) u.entries) is

    module _ (new : LeavesView (K × V)) (q : joined new.lists ≡ remove (joined leaves.lists) p) where
      pub present-without : new.room ≡ leaves.room → new.resizes ≡ leaves.resizes → view_of new ≡ record v { entries = remove_entry (is_at order) v.entries }
      present-without o n =
          let es = q ∙ sym (found-without order (joined leaves.lists) p f) ∙ ap (λ (u : OrderedView K V). remove_entry (is_at order) u.entries) is in
          let c = ap capacity_of o ∙ ap (λ (u : OrderedView K V). u.capacity) is in
          let t = n ∙ ap (λ (u : OrderedView K V). u.resizes) is in
          λ i. record { entries = es i; capacity = c i; resizes = t i }

      pub removed-map : (cmp : K → K → Ordering) (len : ℕ) → IsMap cmp leaves len → IsBalanced (lengths new.lists) → IsMap cmp new (len - 1)
      removed-map cmp len m b = record {
        count = let c = length-remove (joined leaves.lists) p f.within in omega (arith, ap length q, c, m.count);
        balanced = b;
        ordered = rw q (ordered-removed cmp (joined leaves.lists) p m.ordered);
      }

-- a key that is inserted
module _ {K V : Type 0} (cmp : K → K → Ordering) (k : K) (leaves : LeavesView (K × V)) (v : OrderedView K V) (is : view_of leaves ≡ v) (p : ℕ) (f : IsGap (cmp k) (joined leaves.lists) p) where
  pub absent-inserted : (x : V) → insert (joined leaves.lists) p (k, x) ≡ insert_entry cmp v.entries k x
  absent-inserted x = sym (gap-inserted cmp k (joined leaves.lists) p x f) ∙ ap (λ (u : OrderedView K V). insert_entry cmp u.entries k x) is

  module _ (total : IsTotalOrder cmp) (len : ℕ) (m : IsMap cmp leaves len) (x : V) (new : LeavesView (K × V)) (e : joined new.lists ≡ insert (joined leaves.lists) p (k, x)) where
    counted : length (joined new.lists) ≡ len + 1
    counted = ap length e ∙ length-insert (joined leaves.lists) p (k, x) f.within ∙ ap (λ n. n + 1) (sym m.count)

    pub inserted-map : IsBalanced (lengths new.lists) → IsMap cmp new (len + 1)
    inserted-map b = record {
      count = sym counted;
      balanced = b;
      ordered = rw e (ordered-inserted cmp total k x (joined leaves.lists) p f m.ordered);
    }

    pub inserted-small : All (λ l. length l ≤ 64) new.lists → length new.lists ≤ new.room → new.room * 64 < 2 ^ 64 → len + 1 < 2 ^ 64
    inserted-small a w r = omega (arith, counted, at-most new.lists a, w, r)
