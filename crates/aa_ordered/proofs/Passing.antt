-- The entries while `retain` passes over them.
use Rattle.std.proofs.Common.{◌≡◌, ◌+◌, ◌-◌, ◌≤◌, ◌<◌, ◌++◌, ℕ, suc, zero, Bool, true, false, List, [], ◌∷◌, Some, refl, arith, length, take, drop, get_or, remove, sym, ap, ◌∙◌, append-nil, append_assoc, get_or-set_same, length-set}
use Rattle.std.specs.Prelude.{if◌then◌else◌, slice_get, slice_set}
use Rattle.std.specs.Borrow.{Bor, MutBor}
use Rattle.std.specs.declared.cmp.Ordering.{Ordering}
use Rattle.std.proofs.lemmas.List.{drop_all, map-set, set-get_or, take-set, take_all}
use Rattle.std.proofs.lemmas.List.Edits.{length-remove}
use Rattle.aa_ordered.specs.Balance.{joined, lengths, position, IsAt, IsBalanced}
use Rattle.aa_ordered.specs.Entries.{IsOrdered}
use Rattle.aa_ordered.specs.Retaining.{MayReturn, Retains, Visits}
use Rattle.aa_ordered.proofs.Ends.{at-within}
use Rattle.aa_ordered.proofs.Flat.{joined-written}
use Rattle.aa_ordered.proofs.Found.{ordered-removed, ordered-written}
use Rattle.aa_ordered.proofs.Mending.{removed-item}
use Rattle.aa_ordered.proofs.Reading.{got}

-- an item that is written at its spot
module _ {T : Type 0} (ls : List (List T)) (i at : ℕ) (a : IsAt ls i at) (y : T) where
  abbrev wrote : List (List T)
  wrote = slice_set ls i (slice_set (get_or ls i []) at y)

  pub wrote-lengths : lengths wrote ≡ lengths ls
  wrote-lengths =
      map-set length ls i _ ∙ ap (slice_set (lengths ls) i) (length-set (get_or ls i []) at y)
      ∙ sym (map-set length ls i (get_or ls i [])) ∙ ap lengths (set-get_or ls i [])

  pub wrote-balanced : IsBalanced (lengths ls) → IsBalanced (lengths wrote)
  wrote-balanced b = rw wrote-lengths b

  wrote-list : get_or wrote i [] ≡ slice_set (get_or ls i []) at y
  wrote-list = get_or-set_same ls i (slice_set (get_or ls i []) at y) [] a.list

  pub wrote-within : at + 1 ≤ length (get_or wrote i [])
  wrote-within = rw wrote-list (omega (arith, length-set (get_or ls i []) at y, a.within))

  pub wrote-at : IsAt wrote i at
  wrote-at = record { list = omega (arith, length-set ls i (slice_set (get_or ls i []) at y), a.list); within = omega (arith, wrote-within) }

  pub wrote-place : (n : ℕ) → position wrote i n ≡ length (joined (take i ls)) + n
  wrote-place n = ap (λ zs. length (joined zs) + n) (take-set ls i (slice_set (get_or ls i []) at y))

  pub wrote-joined : joined wrote ≡ slice_set (joined ls) (position ls i at) y
  wrote-joined = joined-written ls i a.list at y a.within

  pub wrote-count : length (joined wrote) ≡ length (joined ls)
  wrote-count = ap length wrote-joined ∙ length-set (joined ls) (position ls i at) y

remove-set : {T : Type 0} (xs : List T) (p : ℕ) (y : T) → remove (slice_set xs p y) p ≡ remove xs p
remove-set [] zero y = refl
remove-set [] (suc p) y = refl
remove-set (x ∷ xs) zero y = refl
remove-set (x ∷ xs) (suc p) y = ap (λ zs. x ∷ zs) (remove-set xs p y)

-- an entry that was visited
module _ {K V F : Type 0} (step : F → Bor K → MutBor V → Bool → MutBor V → F → Type 0) (f g : F) (ls : List (List (K × V))) (i at : ℕ) (a : IsAt ls i at) (e y : K × V) (there : slice_get (get_or ls i []) at ≡ Some e) (same : y.0 ≡ e.0) where
  pub visits-kept : MayReturn step f e true y.1 g → Visits step f (joined ls) (position ls i at) (joined (wrote ls i at a y)) (position (wrote ls i at a y) i (at + 1)) g
  visits-kept call = record {
    entry = e;
    keep = true;
    written = y.1;
    there = removed-item ls i at a e there;
    call = call;
    left = wrote-joined ls i at a y ∙ ap (λ k. slice_set (joined ls) (position ls i at) (k, y.1)) same;
    next = wrote-place ls i at a y (at + 1) ∙ omega arith;
  }

  module _ (new : List (List (K × V))) (removed : joined new ≡ remove (joined (wrote ls i at a y)) (position (wrote ls i at a y) i at)) where
    cut : joined new ≡ remove (joined ls) (position ls i at)
    cut = removed ∙ (λ j. remove (wrote-joined ls i at a y j) (wrote-place ls i at a y at j)) ∙ remove-set (joined ls) (position ls i at) y

    pub cut-count : 1 + length (joined new) ≡ length (joined ls)
    cut-count = omega (arith, ap length cut, length-remove (joined ls) (position ls i at) (at-within ls i at a))

    pub visits-cut : (n m : ℕ) → position new n m ≡ position (wrote ls i at a y) i at → MayReturn step f e false y.1 g → Visits step f (joined ls) (position ls i at) (joined new) (position new n m) g
    visits-cut n m place call = record {
      entry = e;
      keep = false;
      written = y.1;
      there = removed-item ls i at a e there;
      call = call;
      left = cut;
      next = place ∙ wrote-place ls i at a y at;
    }

-- one step of the passage, and its end
module _ {K V F : Type 0} (step : F → Bor K → MutBor V → Bool → MutBor V → F → Type 0) where
  -- the closure, now `g`, was called for the entries of `es` that are no longer among those of
  -- `now` from position `p` on: whatever it keeps of these, it keeps of all after those before
  abbrev pub IsPassed : (f : F) → (es : List (K × V)) → (g : F) → (now : List (K × V)) → (p : ℕ) → Type 0
  IsPassed f es g now p = (others : List (K × V)) (last : F) → Retains step g (drop p now) others last → Retains step f es (take p now ++ others) last

  split-at : (es : List (K × V)) (p : ℕ) (e : K × V) → slice_get es p ≡ Some e → drop p es ≡ e ∷ drop (suc p) es
  split-at [] p e h = absurd (cc)
  split-at (x ∷ es) zero e h = let same : x ≡ e = cc in ap (λ y. y ∷ es) same
  split-at (x ∷ es) (suc p) e h = split-at es p e h

  take-set-more : (es : List (K × V)) (p : ℕ) (e y : K × V) → slice_get es p ≡ Some e → take (suc p) (slice_set es p y) ≡ take p es ++ y ∷ []
  take-set-more [] p e y h = absurd (cc)
  take-set-more (x ∷ es) zero e y h = refl
  take-set-more (x ∷ es) (suc p) e y h = ap (λ zs. x ∷ zs) (take-set-more es p e y h)

  drop-set-more : (es : List (K × V)) (p : ℕ) (y : K × V) → drop (suc p) (slice_set es p y) ≡ drop (suc p) es
  drop-set-more [] p y = refl
  drop-set-more (x ∷ es) zero y = refl
  drop-set-more (x ∷ es) (suc p) y = drop-set-more es p y

  take-cut : (es : List (K × V)) (p : ℕ) (e : K × V) → slice_get es p ≡ Some e → take p (remove es p) ≡ take p es
  take-cut [] p e h = absurd (cc)
  take-cut (x ∷ es) zero e h = refl
  take-cut (x ∷ es) (suc p) e h = ap (λ zs. x ∷ zs) (take-cut es p e h)

  drop-cut : (es : List (K × V)) (p : ℕ) (e : K × V) → slice_get es p ≡ Some e → drop p (remove es p) ≡ drop (suc p) es
  drop-cut [] p e h = absurd (cc)
  drop-cut (x ∷ es) zero e h = refl
  drop-cut (x ∷ es) (suc p) e h = drop-cut es p e h

  module _ (f0 : F) (all : List (K × V)) where
    passed-by : (keep : Bool) (f : F) (now : List (K × V)) (p : ℕ) (e : K × V) (w : V) (g : F) → slice_get now p ≡ Some e → MayReturn step f e keep w g → IsPassed f0 all f now p
        → IsPassed f0 all g (if keep then slice_set now p (e.0, w) else remove now p) (if keep then p + 1 else p)
    passed-by true f now p e w g h call before others last r =
        let one : p + 1 ≡ suc p = omega arith in
        let rest = rw (one, drop-set-more now p (e.0, w)) at r in
        let whole = before ((e.0, w) ∷ others) last (rw (split-at now p e h) (true, w, g, call, others, refl, rest)) in
        rw (one, take-set-more now p e (e.0, w) h, append_assoc (take p now) ((e.0, w) ∷ []) others) whole
    passed-by false f now p e w g h call before others last r =
        let rest = rw (drop-cut now p e h) at r in
        let whole = before others last (rw (split-at now p e h) (false, w, g, call, others, refl, rest)) in
        rw (take-cut now p e h) whole

    pub passed-visit : (f : F) (now : List (K × V)) (p : ℕ) (new : List (K × V)) (q : ℕ) (g : F) → IsPassed f0 all f now p → Visits step f now p new q g → IsPassed f0 all g new q
    passed-visit f now p new q g before v = rw (v.left, v.next) (passed-by v.keep f now p v.entry v.written g v.there v.call before)

    pub passed-all : (g : F) (now : List (K × V)) (p : ℕ) → p ≡ length now → IsPassed f0 all g now p → Retains step f0 all now g
    passed-all g now p e before =
        let rest = drop_all p now (omega (arith, e)) in
        let whole = before [] g (rw rest (refl, refl)) in
        rw (take_all p now (omega (arith, e)), append-nil now) at whole

  pub passed-none : (f : F) (es : List (K × V)) (p : ℕ) → p ≡ 0 → IsPassed f es f es p
  passed-none f es p z others last r = rw z (rw z at r)

  -- the keys remain in order, and one step is less
  module _ (cmp : K → K → Ordering) (f : F) (now : List (K × V)) (p : ℕ) (new : List (K × V)) (q : ℕ) (g : F) where
    ordered-by : (keep : Bool) (e : K × V) (w : V) → slice_get now p ≡ Some e → IsOrdered cmp now → IsOrdered cmp (if keep then slice_set now p (e.0, w) else remove now p)
    ordered-by true e w h s = rw (got now p e e h) at (ordered-written cmp now p e w s)
    ordered-by false e w h s = ordered-removed cmp now p s

    pub visit-ordered : Visits step f now p new q g → IsOrdered cmp now → IsOrdered cmp new
    visit-ordered v s = rw v.left (ordered-by v.keep v.entry v.written v.there s)

    within : (e : K × V) (es : List (K × V)) (n : ℕ) → slice_get es n ≡ Some e → n < length es
    within e [] n h = absurd (cc)
    within e (x ∷ es) zero h = omega arith
    within e (x ∷ es) (suc n) h = omega (arith, within e es n h)

    shorter : (keep : Bool) (e : K × V) (w : V) → slice_get now p ≡ Some e → length (if keep then slice_set now p (e.0, w) else remove now p) - (if keep then p + 1 else p) < length now - p
    shorter true e w h = omega (arith, length-set now p (e.0, w), within e now p h)
    shorter false e w h = omega (arith, length-remove now p (within e now p h), within e now p h)

    pub visit-shorter : Visits step f now p new q g → length new - q < length now - p
    visit-shorter v = rw (v.left, v.next) (shorter v.keep v.entry v.written v.there)
