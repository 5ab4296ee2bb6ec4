-- What entries hold for a key, where it is known at which index it is or belongs.
use Rattle.std.proofs.Common.{is_some, true, ◌≡◌, ◌+◌, ◌≤◌, ◌++◌, ℕ, suc, zero, cond, List, [], ◌∷◌, Some, None, refl, arith, length, take, drop, get_or, insert, remove, ap, ◌∙◌, is_eq, length-append}
use Rattle.std.specs.Prelude.{slice_set}
use Rattle.std.specs.declared.cmp.Ordering.{Ordering}
use Rattle.std.specs.declared.cmp.Ordering.TheVariants.{Greater}
use Rattle.std.specs.Cmp.{IsTotalOrder}
use Rattle.std.specs.Ordering.{match_ordering}
use Rattle.std.specs.Map.{keys_of, lookup, lookup_entry, remove_entry, set_value}
use Rattle.std.specs.BTreeMap.{insert_entry, is_at}
use Rattle.std.proofs.lemmas.List.{drop-append-le, get_or_append_left, get_or-append-add, take-append-le}
use Rattle.std.proofs.lemmas.List.Elements.{All-append, All-cons, All-drop, All-head, All-nil, All-tail, All-take}
use Rattle.aa_ordered.specs.Entries.{AreGreater, AreLess, IsFound, IsGap, IsOrdered}
use Rattle.aa_ordered.proofs.Order.{IsAbove, IsBelow, ordered-cons, ordered-head, ordered-tail, turned-back}

module _ {K V : Type 0} (order : K → Ordering) where
  found-head : (x : K × V) (es : List (K × V)) (at : ℕ) → IsFound order (x ∷ es) (suc at) → order x.0 ≡ Greater
  found-head x es at f = All-head (IsBelow order) x (take at es) f.before

  pub found-tail : (x : K × V) (es : List (K × V)) (at : ℕ) → IsFound order (x ∷ es) (suc at) → IsFound order es at
  found-tail x es at f = record { within = omega (arith, f.within); before = All-tail (IsBelow order) x (take at es) f.before; equal = f.equal }

  gap-head : (x : K × V) (es : List (K × V)) (at : ℕ) → IsGap order (x ∷ es) (suc at) → order x.0 ≡ Greater
  gap-head x es at f = All-head (IsBelow order) x (take at es) f.before

  gap-tail : (x : K × V) (es : List (K × V)) (at : ℕ) → IsGap order (x ∷ es) (suc at) → IsGap order es at
  gap-tail x es at f = record { within = omega (arith, f.within); before = All-tail (IsBelow order) x (take at es) f.before; after = f.after }

  -- a key that is there
  pub found-value : (es : List (K × V)) (at : ℕ) (d : K × V) → IsFound order es at → lookup (is_at order) es ≡ Some (get_or es at d).1
  found-value [] at d f = absurd (omega (arith, f.within))
  found-value (x ∷ es) zero d f = ap (λ o. cond (is_eq o) (Some x.1) (lookup (is_at order) es)) (f.equal x refl)
  found-value (x ∷ es) (suc at) d f = ap (λ o. cond (is_eq o) (Some x.1) (lookup (is_at order) es)) (found-head x es at f) ∙ found-value es at d (found-tail x es at f)

  pub found-entry : (es : List (K × V)) (at : ℕ) (d : K × V) → IsFound order es at → lookup_entry (is_at order) es ≡ Some (get_or es at d)
  found-entry [] at d f = absurd (omega (arith, f.within))
  found-entry (x ∷ es) zero d f = ap (λ o. cond (is_eq o) (Some x) (lookup_entry (is_at order) es)) (f.equal x refl)
  found-entry (x ∷ es) (suc at) d f = ap (λ o. cond (is_eq o) (Some x) (lookup_entry (is_at order) es)) (found-head x es at f) ∙ found-entry es at d (found-tail x es at f)

  pub found-without : (es : List (K × V)) (at : ℕ) → IsFound order es at → remove_entry (is_at order) es ≡ remove es at
  found-without [] at f = absurd (omega (arith, f.within))
  found-without (x ∷ es) zero f = ap (λ o. cond (is_eq o) es (x ∷ remove_entry (is_at order) es)) (f.equal x refl)
  found-without (x ∷ es) (suc at) f = ap (λ o. cond (is_eq o) es (x ∷ remove_entry (is_at order) es)) (found-head x es at f) ∙ ap (λ ys. x ∷ ys) (found-without es at (found-tail x es at f))

  pub found-written : (es : List (K × V)) (at : ℕ) (d : K × V) (v : V) → IsFound order es at → set_value (is_at order) es v ≡ slice_set es at ((get_or es at d).0, v)
  found-written [] at d v f = absurd (omega (arith, f.within))
  found-written (x ∷ es) zero d v f = ap (λ o. cond (is_eq o) ((x.0, v) ∷ es) (x ∷ set_value (is_at order) es v)) (f.equal x refl)
  found-written (x ∷ es) (suc at) d v f = ap (λ o. cond (is_eq o) ((x.0, v) ∷ es) (x ∷ set_value (is_at order) es v)) (found-head x es at f) ∙ ap (λ ys. x ∷ ys) (found-written es at d v (found-tail x es at f))

  -- a key that is not
  greater-value : (es : List (K × V)) → AreGreater order es → lookup (is_at order) es ≡ None
  greater-value [] h = refl
  greater-value (x ∷ es) h = ap (λ o. cond (is_eq o) (Some x.1) (lookup (is_at order) es)) (All-head (IsAbove order) x es h) ∙ greater-value es (All-tail (IsAbove order) x es h)

  greater-without : (es : List (K × V)) → AreGreater order es → remove_entry (is_at order) es ≡ es
  greater-without [] h = refl
  greater-without (x ∷ es) h = ap (λ o. cond (is_eq o) es (x ∷ remove_entry (is_at order) es)) (All-head (IsAbove order) x es h) ∙ ap (λ ys. x ∷ ys) (greater-without es (All-tail (IsAbove order) x es h))

  pub gap-value : (es : List (K × V)) (at : ℕ) → IsGap order es at → lookup (is_at order) es ≡ None
  gap-value es zero f = greater-value es f.after
  gap-value [] (suc at) f = refl
  gap-value (x ∷ es) (suc at) f = ap (λ o. cond (is_eq o) (Some x.1) (lookup (is_at order) es)) (gap-head x es at f) ∙ gap-value es at (gap-tail x es at f)

  pub gap-entry : (es : List (K × V)) (at : ℕ) → IsGap order es at → lookup_entry (is_at order) es ≡ None
  gap-entry es at f = none es (gap-value es at f)
    where
      none : (xs : List (K × V)) → lookup (is_at order) xs ≡ None → lookup_entry (is_at order) xs ≡ None
      none [] h = refl
      none (x ∷ xs) h = grind (arith, h, none xs)

  pub gap-without : (es : List (K × V)) (at : ℕ) → IsGap order es at → remove_entry (is_at order) es ≡ es
  gap-without es zero f = greater-without es f.after
  gap-without [] (suc at) f = refl
  gap-without (x ∷ es) (suc at) f = ap (λ o. cond (is_eq o) es (x ∷ remove_entry (is_at order) es)) (gap-head x es at f) ∙ ap (λ ys. x ∷ ys) (gap-without es at (gap-tail x es at f))

  -- the part of a list in which it is
  take-middle : (bs xs cs : List (K × V)) (at : ℕ) → at ≤ length xs → take (length bs + at) (bs ++ (xs ++ cs)) ≡ bs ++ take at xs
  take-middle [] xs cs at h = let e : 0 + at ≡ at = omega arith in rw e (take-append-le at xs cs h)
  take-middle (a ∷ bs) xs cs at h = let e : suc (length bs) + at ≡ suc (length bs + at) = omega arith in rw e (ap (λ ys. a ∷ ys) (take-middle bs xs cs at h))

  drop-middle : (bs xs cs : List (K × V)) (at : ℕ) → at ≤ length xs → drop (length bs + at) (bs ++ (xs ++ cs)) ≡ drop at xs ++ cs
  drop-middle [] xs cs at h = let e : 0 + at ≡ at = omega arith in rw e (drop-append-le at xs cs h)
  drop-middle (a ∷ bs) xs cs at h = let e : suc (length bs) + at ≡ suc (length bs + at) = omega arith in rw e (drop-middle bs xs cs at h)

  long : (bs xs cs : List (K × V)) → length (bs ++ (xs ++ cs)) ≡ length bs + (length xs + length cs)
  long bs xs cs = omega (arith, length-append bs (xs ++ cs), length-append xs cs)

  pub found-middle : (bs xs cs : List (K × V)) (at : ℕ) → AreLess order bs → IsFound order xs at → IsFound order (bs ++ (xs ++ cs)) (length bs + at)
  found-middle bs xs cs at a f = record {
    within = omega (arith, f.within, long bs xs cs);
    before = rw (take-middle bs xs cs at (omega (arith, f.within))) (All-append (IsBelow order) bs (take at xs) a f.before);
    equal = λ e r. f.equal e (r ∙ get_or-append-add bs (xs ++ cs) at e ∙ get_or_append_left xs cs e at f.within);
  }

  pub gap-middle : (bs xs cs : List (K × V)) (at : ℕ) → AreLess order bs → AreGreater order cs → IsGap order xs at → IsGap order (bs ++ (xs ++ cs)) (length bs + at)
  gap-middle bs xs cs at a c f = record {
    within = omega (arith, f.within, long bs xs cs);
    before = rw (take-middle bs xs cs at f.within) (All-append (IsBelow order) bs (take at xs) a f.before);
    after = rw (drop-middle bs xs cs at f.within) (All-append (IsAbove order) (drop at xs) cs f.after c);
  }

-- a key that is inserted
module _ {K V : Type 0} (cmp : K → K → Ordering) (k : K) where
  pub found-inserted : (es : List (K × V)) (at : ℕ) (d : K × V) (v : V) → IsFound (cmp k) es at → insert_entry cmp es k v ≡ slice_set es at ((get_or es at d).0, v)
  found-inserted [] at d v f = absurd (omega (arith, f.within))
  found-inserted (x ∷ es) zero d v f = ap (λ o. match_ordering o ((k, v) ∷ x ∷ es) ((x.0, v) ∷ es) (x ∷ insert_entry cmp es k v)) (f.equal x refl)
  found-inserted (x ∷ es) (suc at) d v f = ap (λ o. match_ordering o ((k, v) ∷ x ∷ es) ((x.0, v) ∷ es) (x ∷ insert_entry cmp es k v)) (found-head (cmp k) x es at f) ∙ ap (λ ys. x ∷ ys) (found-inserted es at d v (found-tail (cmp k) x es at f))

  pub gap-inserted : (es : List (K × V)) (at : ℕ) (v : V) → IsGap (cmp k) es at → insert_entry cmp es k v ≡ insert es at (k, v)
  gap-inserted [] zero v f = refl
  gap-inserted [] (suc at) v f = absurd (omega (arith, f.within))
  gap-inserted (x ∷ es) zero v f = ap (λ o. match_ordering o ((k, v) ∷ x ∷ es) ((x.0, v) ∷ es) (x ∷ insert_entry cmp es k v)) (All-head (IsAbove (cmp k)) x es f.after)
  gap-inserted (x ∷ es) (suc at) v f = ap (λ o. match_ordering o ((k, v) ∷ x ∷ es) ((x.0, v) ∷ es) (x ∷ insert_entry cmp es k v)) (gap-head (cmp k) x es at f) ∙ ap (λ ys. x ∷ ys) (gap-inserted es at v (gap-tail (cmp k) x es at f))

module _ {K V : Type 0} (cmp : K → K → Ordering) where
  -- the keys remain in order
  pub ordered-removed : (es : List (K × V)) (at : ℕ) → IsOrdered cmp es → IsOrdered cmp (remove es at)
  ordered-removed [] zero s = s
  ordered-removed [] (suc at) s = s
  ordered-removed (x ∷ es) zero s = ordered-tail cmp x es s
  ordered-removed (x ∷ es) (suc at) s =
      let g = ordered-head cmp x es s in
      ordered-cons cmp x (remove es at) (All-append (IsAbove (cmp x.0)) (take at es) (drop (suc at) es) (All-take (IsAbove (cmp x.0)) at es g) (All-drop (IsAbove (cmp x.0)) (suc at) es g))
      (ordered-removed es at (ordered-tail cmp x es s))

  keys-written : (es : List (K × V)) (at : ℕ) (d : K × V) (v : V) → keys_of (slice_set es at ((get_or es at d).0, v)) ≡ keys_of es
  keys-written [] at d v = refl
  keys-written (x ∷ es) zero d v = refl
  keys-written (x ∷ es) (suc at) d v = ap (λ ks. x.0 ∷ ks) (keys-written es at d v)

  pub ordered-written : (es : List (K × V)) (at : ℕ) (d : K × V) (v : V) → IsOrdered cmp es → IsOrdered cmp (slice_set es at ((get_or es at d).0, v))
  ordered-written es at d v s = rw (keys-written es at d v) s

  pub found-keys : (k : K) (es : List (K × V)) (at : ℕ) (d : K × V) → IsFound (cmp k) es at → (v : V) → keys_of (insert_entry cmp es k v) ≡ keys_of es
  found-keys k es at d f v = ap keys_of (found-inserted cmp k es at d v f) ∙ keys-written es at d v

  module _ (total : IsTotalOrder cmp) (k : K) (v : V) where
    pub ordered-inserted : (es : List (K × V)) (at : ℕ) → IsGap (cmp k) es at → IsOrdered cmp es → IsOrdered cmp (insert es at (k, v))
    ordered-inserted [] zero f s = ordered-cons cmp (k, v) [] (All-nil (IsAbove (cmp k))) s
    ordered-inserted [] (suc at) f s = absurd (omega (arith, f.within))
    ordered-inserted (x ∷ es) zero f s = ordered-cons cmp (k, v) (x ∷ es) f.after s
    ordered-inserted (x ∷ es) (suc at) f s =
        let g = ordered-head cmp x es s in
        ordered-cons cmp x (insert es at (k, v))
        (All-append (IsAbove (cmp x.0)) (take at es) ((k, v) ∷ drop at es) (All-take (IsAbove (cmp x.0)) at es g)
        (All-cons (IsAbove (cmp x.0)) (k, v) (drop at es) (turned-back total k x.0 (gap-head (cmp k) x es at f)) (All-drop (IsAbove (cmp x.0)) at es g)))
        (ordered-inserted es at (gap-tail (cmp k) x es at f) (ordered-tail cmp x es s))

pub found-some : {K V : Type 0} (order : K → Ordering) (es : List (K × V)) (at : ℕ) → IsFound order es at → is_some (lookup (is_at order) es) ≡ true
found-some order [] at f = absurd (omega (arith, f.within))
found-some order (x ∷ es) zero f = ap (λ o. is_some (cond (is_eq o) (Some x.1) (lookup (is_at order) es))) (f.equal x refl)
found-some order (x ∷ es) (suc at) f = ap (λ o. is_some (cond (is_eq o) (Some x.1) (lookup (is_at order) es))) (found-head order x es at f) ∙ found-some order es at (found-tail order x es at f)
