-- Entries with other values: what of an arena and of a map does not depend on them.
use Rattle.std.proofs.Common.{◌≡◌, ◌*◌, ◌++◌, ℕ, suc, zero, List, [], ◌∷◌, Option, None, Some, refl, ap, sym, subst, arith, length, map, take, drop, length-take-le, ◌∙◌}
use Rattle.std.specs.List.{list_all}
use Rattle.std.specs.List.Sorted.{IsStrictlySortedBy}
use Rattle.std.specs.Map.{keys_of}
use Rattle.std.specs.Prelude.{is_some}
use Rattle.std.specs.declared.cmp.Ordering.{Ordering}
use Rattle.std.proofs.lemmas.List.{length-map}
use Rattle.std.proofs.lemmas.List.Elements.{All-weaker}
use Rattle.aa_raw.proofs.Entries.{length-with_values}
use Rattle.aa_raw.specs.Entries.{with_values}
use Rattle.allocator_api2.specs.Places.{IsRun, run, somes}
use Rattle.aa_ordered.specs.Arena.{list_of, IsArena, IsHeld}
use Rattle.aa_ordered.specs.Balance.{IsBalanced}
use Rattle.aa_ordered.specs.Inside.{IsMap}
use Rattle.aa_ordered.specs.IterLends.{revalued, with_values_of}
use Rattle.aa_ordered.specs.Leaves.{LeavesView}
use Rattle.aa_ordered.specs.Ranges.{items_of}
use Rattle.aa_ordered.specs.declared.leaves.Head.{Head}

module _ {K V : Type 0} where
  pub same : (es : List (K × V)) → with_values_of es es ≡ es
  same [] = refl
  same (e ∷ es) = ap (λ fs. e ∷ fs) (same es)

  pub keys-kept : (es fs : List (K × V)) → keys_of (with_values_of es fs) ≡ keys_of es
  keys-kept [] fs = refl
  keys-kept (e ∷ es) [] = refl
  keys-kept (e ∷ es) (f ∷ fs) = ap (λ ks. e.0 ∷ ks) (keys-kept es fs)

  pub length-kept : (es fs : List (K × V)) → length (with_values_of es fs) ≡ length es
  length-kept [] fs = refl
  length-kept (e ∷ es) [] = refl
  length-kept (e ∷ es) (f ∷ fs) = ap suc (length-kept es fs)

  -- values for as many entries, and more of them
  as-many : (es fs gs : List (K × V)) → length fs ≡ length es → with_values_of es (fs ++ gs) ≡ with_values_of es fs
  as-many [] [] gs h = refl
  as-many [] (f ∷ fs) gs h = refl
  as-many (e ∷ es) [] gs h = absurd (omega (arith, h))
  as-many (e ∷ es) (f ∷ fs) gs h = ap (λ xs. (e.0, f.1) ∷ xs) (as-many es fs gs (omega (arith, h)))

  past : (es fs gs : List (K × V)) → length fs ≡ length es → drop (length es) (fs ++ gs) ≡ gs
  past [] [] gs h = refl
  past [] (f ∷ fs) gs h = absurd (omega (arith, h))
  past (e ∷ es) [] gs h = absurd (omega (arith, h))
  past (e ∷ es) (f ∷ fs) gs h = past es fs gs (omega (arith, h))

  pub same-lists : (ls : List (List (K × V))) → revalued ls (items_of ls) ≡ ls
  same-lists [] = refl
  same-lists (l ∷ ls) =
      let first = as-many l l (items_of ls) refl ∙ same l in
      let others = ap (revalued ls) (past l l (items_of ls) refl) ∙ same-lists ls in
      λ i. first i ∷ others i

  -- the entries of all lists take the values in order
  cut-off : (es fs : List (K × V)) (gs : List (K × V)) → with_values_of (es ++ gs) fs ≡ with_values_of es fs ++ with_values_of gs (drop (length es) fs)
  cut-off [] fs gs = refl
  cut-off (e ∷ es) [] [] = refl
  cut-off (e ∷ es) [] (g ∷ gs) = refl
  cut-off (e ∷ es) (f ∷ fs) gs = ap (λ xs. (e.0, f.1) ∷ xs) (cut-off es fs gs)

  pub items-revalued : (ls : List (List (K × V))) (fs : List (K × V)) → items_of (revalued ls fs) ≡ with_values_of (items_of ls) fs
  items-revalued [] fs = refl
  items-revalued (l ∷ ls) fs = ap (λ es. with_values_of l fs ++ es) (items-revalued ls (drop (length l) fs)) ∙ sym (cut-off l fs (items_of ls))

  pub lengths-revalued : (ls : List (List (K × V))) (fs : List (K × V)) → map length (revalued ls fs) ≡ map length ls
  lengths-revalued [] fs = refl
  lengths-revalued (l ∷ ls) fs = λ i. length-kept l fs i ∷ lengths-revalued ls (drop (length l) fs) i

  -- the values in places
  taken-values : (n : ℕ) (cs : List (Option (K × V))) (ws : List V) → take n (with_values cs ws) ≡ with_values (take n cs) ws
  taken-values zero [] ws = refl
  taken-values zero (None ∷ cs) ws = refl
  taken-values zero (Some e ∷ cs) [] = refl
  taken-values zero (Some e ∷ cs) (w ∷ ws) = refl
  taken-values (suc n) [] ws = refl
  taken-values (suc n) (None ∷ cs) ws = ap (λ ds. None ∷ ds) (taken-values n cs ws)
  taken-values (suc n) (Some e ∷ cs) [] = ap (λ ds. Some e ∷ ds) (taken-values n cs [])
  taken-values (suc n) (Some e ∷ cs) (w ∷ ws) = ap (λ ds. Some (e.0, w) ∷ ds) (taken-values n cs ws)

  dropped-values : (n : ℕ) (cs : List (Option (K × V))) (ws : List V) → (vs : List V) × (drop n (with_values cs ws) ≡ with_values (drop n cs) vs)
  dropped-values zero cs ws = (ws, refl)
  dropped-values (suc n) [] ws = ([], refl)
  dropped-values (suc n) (None ∷ cs) ws = dropped-values n cs ws
  dropped-values (suc n) (Some e ∷ cs) [] = dropped-values n cs []
  dropped-values (suc n) (Some e ∷ cs) (w ∷ ws) = dropped-values n cs ws

  read : (cs : List (Option (K × V))) (ws : List V) → with_values_of (somes cs) (somes (with_values cs ws)) ≡ somes (with_values cs ws)
  read [] ws = refl
  read (None ∷ cs) ws = read cs ws
  read (Some e ∷ cs) [] = ap (λ fs. e ∷ fs) (read cs [])
  read (Some e ∷ cs) (w ∷ ws) = ap (λ fs. (e.0, w) ∷ fs) (read cs ws)

  somes-kept : (cs : List (Option (K × V))) (ws : List V) → length (somes (with_values cs ws)) ≡ length (somes cs)
  somes-kept [] ws = refl
  somes-kept (None ∷ cs) ws = somes-kept cs ws
  somes-kept (Some e ∷ cs) [] = ap suc (somes-kept cs [])
  somes-kept (Some e ∷ cs) (w ∷ ws) = ap suc (somes-kept cs ws)

  filled-kept : (cs : List (Option (K × V))) (ws : List V) → list_all is_some (with_values cs ws) ≡ list_all is_some cs
  filled-kept [] ws = refl
  filled-kept (None ∷ cs) ws = refl
  filled-kept (Some e ∷ cs) [] = filled-kept cs []
  filled-kept (Some e ∷ cs) (w ∷ ws) = filled-kept cs ws

  module _ (cs : List (Option (K × V))) (ws : List V) (from n : ℕ) where
    cells : (vs : List V) × (take n (drop from (with_values cs ws)) ≡ with_values (take n (drop from cs)) vs)
    cells = let d = dropped-values from cs ws in (d.0, ap (take n) d.1 ∙ taken-values n (drop from cs) d.0)

    read-run : with_values_of (run cs from n) (run (with_values cs ws) from n) ≡ run (with_values cs ws) from n
    unfolding run
    read-run = rw cells.1 (read (take n (drop from cs)) cells.0)

    run-kept : length (run (with_values cs ws) from n) ≡ length (run cs from n)
    unfolding run
    run-kept = ap (λ ds. length (somes ds)) cells.1 ∙ somes-kept (take n (drop from cs)) cells.0

    IsRun-kept : IsRun cs from n → IsRun (with_values cs ws) from n
    IsRun-kept r = (omega (arith, r.0, length-with_values cs ws), ap (list_all is_some) cells.1 ∙ filled-kept (take n (drop from cs)) cells.0 ∙ r.1)

  module _ (cs : List (Option (K × V))) (ws : List V) where
    pub read-lists : (hs : List Head) → revalued (map (list_of cs) hs) (items_of (map (list_of (with_values cs ws)) hs)) ≡ map (list_of (with_values cs ws)) hs
    read-lists [] = refl
    read-lists (h ∷ hs) =
        let from = h.leaf * 64 in let l = run cs from h.len in let m = run (with_values cs ws) from h.len in let rest = items_of (map (list_of (with_values cs ws)) hs) in
        let first = as-many l m rest (run-kept cs ws from h.len) ∙ read-run cs ws from h.len in
        let others = ap (revalued (map (list_of cs) hs)) (past l m rest (run-kept cs ws from h.len)) ∙ read-lists hs in
        λ i. first i ∷ others i

    -- an arena stays one, with other values
    pub stays : (hs : List Head) (used : ℕ) → IsArena cs hs used → IsArena (with_values cs ws) hs used
    stays hs used a = record {
      lists = a.lists;
      places = omega (arith, a.places, length-with_values cs ws);
      leaves = a.leaves;
      once = a.once;
      held = All-weaker (IsHeld cs) (IsHeld (with_values cs ws)) (λ h r. (r.0, IsRun-kept cs ws (h.leaf * 64) h.len r.1)) (take used hs) a.held;
    }

-- what the lists of an arena say of its heads
module _ {T : Type 0} {cs : List (Option T)} {hs : List Head} {used times : ℕ} (a : IsArena cs hs used) (d : LeavesView T) (is : record { lists = map (list_of cs) (take used hs); room = length hs; resizes = times } ≡ d) where
  lists-are : map (list_of cs) (take used hs) ≡ d.lists
  lists-are = ap (λ (v : LeavesView T). v.lists) is

  count : used ≡ length d.lists
  count = sym (sym (ap length lists-are) ∙ length-map (take used hs) (list_of cs) ∙ length-take-le used hs a.lists)

  pub lists-lent : map (list_of cs) (take (length d.lists) hs) ≡ d.lists
  lists-lent = subst (λ n. map (list_of cs) (take n hs) ≡ d.lists) count lists-are

  pub arena-lent : IsArena cs hs (length d.lists)
  arena-lent = subst (λ n. IsArena cs hs n) count a

-- a map stays one, with other values
module _ {K V : Type 0} where
  pub again : (es fs : List (K × V)) → with_values_of es (with_values_of es fs) ≡ with_values_of es fs
  again [] fs = refl
  again (e ∷ es) [] = ap (λ xs. e ∷ xs) (same es)
  again (e ∷ es) (f ∷ fs) = ap (λ xs. (e.0, f.1) ∷ xs) (again es fs)

  pub read-map : (ls : List (List (K × V))) (fs : List (K × V)) → with_values_of (items_of ls) (items_of (revalued ls fs)) ≡ items_of (revalued ls fs)
  read-map ls fs = rw (items-revalued ls fs) (again (items_of ls) fs)

  pub stays-map : {cmp : K → K → Ordering} {m : LeavesView (K × V)} {len : ℕ} → IsMap cmp m len → (fs : List (K × V)) → IsMap cmp (record m { lists = revalued m.lists fs }) len
  stays-map {cmp} {m} {len} is fs = record {
    count = is.count ∙ sym (ap length (items-revalued m.lists fs) ∙ length-kept (items_of m.lists) fs);
    balanced = subst IsBalanced (sym (lengths-revalued m.lists fs)) is.balanced;
    ordered = subst (IsStrictlySortedBy cmp) (sym (ap keys_of (items-revalued m.lists fs) ∙ keys-kept (items_of m.lists) fs)) is.ordered;
  }

pub ruleset kept_keys = (keys-kept, length-kept)
