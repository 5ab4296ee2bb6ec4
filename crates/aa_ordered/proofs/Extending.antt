-- Entries that are inserted one by one.
use Rattle.std.proofs.Common.{◌≡◌, ◌⊎◌, ◌+◌, ◌≤◌, ◌<◌, ◌++◌, ℕ, true, cond, inl, inr, List, [], ◌∷◌, Some, is_eq, is_some, refl, ap, sym, subst, arith, length, append-nil, append_assoc, ◌∙◌}
use Rattle.std.specs.BTreeMap.{insert_entry}
use Rattle.std.specs.Cmp.{IsTotalOrder}
use Rattle.std.specs.List.{AllByRecursion}
use Rattle.std.specs.List.Sorted.{IsStrictlySortedBy}
use Rattle.std.specs.Map.{keys_of}
use Rattle.std.specs.Ordering.{match_ordering, ordering_reverse}
use Rattle.std.specs.declared.cmp.Ordering.{Ordering}
use Rattle.std.specs.declared.cmp.Ordering.TheVariants.{Less, Equal, Greater}
use Rattle.aa_ordered.specs.Capacity.{resizes_to, MayGrowForOne}
use Rattle.aa_ordered.specs.Entries.{value, OrderedView}
use Rattle.aa_ordered.specs.Iterating.{insert_all, HasCapacity, InsertsAll}
use Rattle.aa_ordered.proofs.Growing.{few-more, few-none, most-more, no-fewer, no-less}

module _ {K V : Type 0} (cmp : K → K → Ordering) where
  -- one more of them
  pub insert_all-push : (es xs : List (K × V)) (x : K × V) → insert_all cmp es (xs ++ x ∷ []) ≡ insert_entry cmp (insert_all cmp es xs) x.0 x.1
  insert_all-push es [] x = refl
  insert_all-push es (y ∷ xs) x = insert_all-push (insert_entry cmp es y.0 y.1) xs x

  -- the key is present, or there is one entry more
  insert-count : (es : List (K × V)) (k : K) (v : V) → ((is_some (value cmp es k) ≡ true) × (length (insert_entry cmp es k v) ≡ length es)) ⊎ (length (insert_entry cmp es k v) ≡ length es + 1)
  insert-count [] k v = inr (omega arith)
  insert-count (e ∷ es) k v = by (cmp k e.0) (insert-count es k v)
    where
      by : (r : Ordering) → ((is_some (value cmp es k) ≡ true) × (length (insert_entry cmp es k v) ≡ length es)) ⊎ (length (insert_entry cmp es k v) ≡ length es + 1)
          → ((is_some (cond (is_eq r) (Some e.1) (value cmp es k)) ≡ true) × (length (match_ordering r ((k, v) ∷ e ∷ es) ((e.0, v) ∷ es) (e ∷ insert_entry cmp es k v)) ≡ length (e ∷ es)))
          ⊎ (length (match_ordering r ((k, v) ∷ e ∷ es) ((e.0, v) ∷ es) (e ∷ insert_entry cmp es k v)) ≡ length (e ∷ es) + 1)
      by Less h = inr (omega arith)
      by Equal h = inl (refl, omega arith)
      by Greater (inl p) = inl (p.0, omega (arith, p.1))
      by Greater (inr c) = inr (omega (arith, c))

  pub insert-fewer : (es : List (K × V)) (k : K) (v : V) → length (insert_entry cmp es k v) ≤ length es + 1
  insert-fewer es k v = elim (insert-count es k v) [ inl p ↦ omega (arith, p.1) | inr c ↦ omega (arith, c) ]

  -- if m items fit, one fits and then n, which are fewer
  pub fits-after : (k : K) (v : V) (u w : OrderedView K V) (m n : ℕ) → n < m → HasCapacity u m → w.entries ≡ insert_entry cmp u.entries k v → w.capacity ≡ u.capacity → HasCapacity w n
  fits-after k v u w m n fewer room is same = omega (arith, fewer, room, same, ap length is, insert-fewer u.entries k v)

  -- no item
  pub insert-none : (m : OrderedView K V) → InsertsAll cmp m [] m
  insert-none m = record { entries = refl; capacity = omega arith; steady = λ _. refl; most = omega arith; resizes = omega arith; few = few-none m }

  -- one more item
  pub insert-more : (m u w : OrderedView K V) (xs : List (K × V)) (x : K × V) → InsertsAll cmp m xs u → w.entries ≡ insert_entry cmp u.entries x.0 x.1
      → (is_some (value cmp u.entries x.0) ≡ true → w.capacity ≡ u.capacity) → (length u.entries < u.capacity → w.capacity ≡ u.capacity) → MayGrowForOne u w
      → w.resizes ≡ resizes_to u w.capacity → InsertsAll cmp m (xs ++ x ∷ []) w
  insert-more m u w xs x a is there room grown moved =
      let count = insert-count u.entries x.0 x.1 in let long = ap length is in
      let more : length u.entries ≤ length w.entries = elim count [ inl p ↦ omega (arith, long, p.1) | inr c ↦ omega (arith, long, c) ] in
      record {
        entries = is ∙ ap (λ es. insert_entry cmp es x.0 x.1) a.entries ∙ sym (insert_all-push m.entries xs x);
        capacity = omega (arith, a.capacity, no-less u w grown);
        steady = λ fits.
            let before = a.steady (omega (arith, fits, more)) in
            let same : w.capacity ≡ u.capacity = elim count [ inl p ↦ there p.0 | inr c ↦ room (omega (arith, fits, before, long, c)) ] in
            same ∙ before;
        most = most-more m u w grown room more a.most;
        resizes = omega (arith, a.resizes, moved, no-fewer u w.capacity);
        few = few-more m u w grown moved a.resizes a.few;
      }

turned : {K : Type 0} {cmp : K → K → Ordering} (o : IsTotalOrder cmp) (j k : K) → cmp j k ≡ Less → cmp k j ≡ Greater
turned o j k l = o.antisymm k j ∙ ap ordering_reverse l

-- entries in order are inserted one after another
module _ {K V : Type 0} {cmp : K → K → Ordering} (o : IsTotalOrder cmp) where
  pick : (j : K) (es : List (K × V)) (x : K × V) (xs : List (K × V)) → AllByRecursion (λ q. cmp j q ≡ Less) (keys_of (es ++ x ∷ xs)) → cmp j x.0 ≡ Less
  pick j [] x xs a = a.0
  pick j (e ∷ es) x xs a = pick j es x xs a.1

  insert-last : (es : List (K × V)) (x : K × V) (xs : List (K × V)) → IsStrictlySortedBy cmp (keys_of (es ++ x ∷ xs)) → insert_entry cmp es x.0 x.1 ≡ es ++ x ∷ []
  unfolding IsStrictlySortedBy
  insert-last [] x xs s = refl
  insert-last (e ∷ es) x xs s =
      let greater = turned o e.0 x.0 (pick e.0 es x xs s.0) in
      rw greater (ap (λ ys. e ∷ ys) (insert-last es x xs s.1))

  pub insert-ordered : (es xs : List (K × V)) → IsStrictlySortedBy cmp (keys_of (es ++ xs)) → insert_all cmp es xs ≡ es ++ xs
  insert-ordered es [] s = sym (append-nil es)
  insert-ordered es (x ∷ xs) s =
      let last = insert-last es x xs s in let joined = append_assoc es (x ∷ []) xs in
      ap (λ ys. insert_all cmp ys xs) last
      ∙ insert-ordered (es ++ x ∷ []) xs (subst (λ ys. IsStrictlySortedBy cmp (keys_of ys)) (sym joined) s) ∙ joined
