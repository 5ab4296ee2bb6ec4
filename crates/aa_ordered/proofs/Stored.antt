-- A key that was inserted is there.
use Rattle.std.proofs.Common.{◌≡◌, true, cond, List, [], ◌∷◌, Option, Some, None, is_eq, is_some, length, arith, refl, ap, sym, true≢false, ◌∙◌}
use Rattle.std.specs.declared.cmp.Ordering.{Ordering}
use Rattle.std.specs.declared.cmp.Ordering.TheVariants.{Less, Equal, Greater}
use Rattle.std.specs.Cmp.{IsTotalOrder, tied_itself}
use Rattle.std.specs.Ordering.{match_ordering}
use Rattle.std.specs.Prelude.{IfSome}
use Rattle.std.specs.BTreeMap.{insert_entry}
use Rattle.std.specs.Map.{keys_of}
use Rattle.std.proofs.lemmas.List.{length-map}
use Rattle.aa_ordered.specs.Entries.{value, OrderedView}
use Rattle.aa_ordered.specs.Entry.{writes}
use Rattle.aa_ordered.specs.Inserting.{Inserts}

module _ {K V : Type 0} (cmp : K → K → Ordering) (total : IsTotalOrder cmp) where
  pub inserted-value : (es : List (K × V)) (k : K) (v : V) → value cmp (insert_entry cmp es k v) k ≡ Some v
  inserted-value [] k v = ap (λ o. cond (is_eq o) (Some v) (value cmp [] k)) (tied_itself total k)
  inserted-value (e ∷ es) k v = by (cmp k e.0) refl (inserted-value es k v)
    where
      by : (r : Ordering) → cmp k e.0 ≡ r → value cmp (insert_entry cmp es k v) k ≡ Some v → value cmp (match_ordering r ((k, v) ∷ e ∷ es) ((e.0, v) ∷ es) (e ∷ insert_entry cmp es k v)) k ≡ Some v
      by Less h rest = ap (λ o. cond (is_eq o) (Some v) (value cmp (e ∷ es) k)) (tied_itself total k)
      by Equal h rest = ap (λ o. cond (is_eq o) (Some v) (value cmp es k)) h
      by Greater h rest = ap (λ o. cond (is_eq o) (Some e.1) (value cmp (insert_entry cmp es k v) k)) h ∙ rest

  pub inserted-some : (es : List (K × V)) (k : K) (v : V) → is_some (value cmp (insert_entry cmp es k v) k) ≡ true
  inserted-some es k v = ap is_some (inserted-value es k v)

  -- of two values for one key, the last is there
  pub inserted-twice : (es : List (K × V)) (k : K) (v w : V) → insert_entry cmp (insert_entry cmp es k v) k w ≡ insert_entry cmp es k w
  inserted-twice [] k v w = ap (λ o. match_ordering o ((k, w) ∷ (k, v) ∷ []) ((k, w) ∷ []) ((k, v) ∷ insert_entry cmp [] k w)) (tied_itself total k)
  inserted-twice (e ∷ es) k v w = by (cmp k e.0) refl (inserted-twice es k v w)
    where
      by : (r : Ordering) → cmp k e.0 ≡ r → insert_entry cmp (insert_entry cmp es k v) k w ≡ insert_entry cmp es k w → insert_entry cmp (match_ordering r ((k, v) ∷ e ∷ es) ((e.0, v) ∷ es) (e ∷ insert_entry cmp es k v)) k w ≡ match_ordering r ((k, w) ∷ e ∷ es) ((e.0, w) ∷ es) (e ∷ insert_entry cmp es k w)
      by Less h rest = ap (λ o. match_ordering o ((k, w) ∷ (k, v) ∷ e ∷ es) ((k, w) ∷ e ∷ es) ((k, v) ∷ insert_entry cmp (e ∷ es) k w)) (tied_itself total k)
      by Equal h rest = ap (λ o. match_ordering o ((k, w) ∷ (e.0, v) ∷ es) ((e.0, w) ∷ es) ((e.0, v) ∷ insert_entry cmp es k w)) h
      by Greater h rest = ap (λ o. match_ordering o ((k, w) ∷ e ∷ insert_entry cmp es k v) ((e.0, w) ∷ insert_entry cmp es k v) (e ∷ insert_entry cmp (insert_entry cmp es k v) k w)) h ∙ ap (λ xs. e ∷ xs) rest

  -- what is inserted after another value was written is as if only it was inserted
  pub written-inserts : (m : OrderedView K V) (k : K) (x v : V) (u : OrderedView K V) → keys_of (insert_entry cmp m.entries k x) ≡ keys_of m.entries → Inserts cmp (writes cmp m k x) k v u → Inserts cmp m k v u
  written-inserts m k x v u same i =
      let es = insert_entry cmp m.entries k x in
      let long : length es ≡ length m.entries = sym (length-map es (λ e. e.0)) ∙ ap length same ∙ length-map m.entries (λ e. e.0) in
      record {
        entries = i.entries ∙ inserted-twice m.entries k x v;
        capacity = λ f. i.capacity (omega (arith, f, long));
        grown = rw long at i.grown;
        resizes = i.resizes;
      }

-- what holds of a value that is there
pub there : {V : Type 0} {P : V → Type 0} (r : Option V) → is_some r ≡ true → IfSome r P → (v : V) × P v
there None t h = absurd (true≢false (sym t))
there (Some v) t h = (v, h)
