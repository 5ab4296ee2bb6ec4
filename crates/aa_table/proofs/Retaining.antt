-- The places while `retain` passes over them.
use Rattle.std.proofs.Common.{Bool, false, true, List, None, Option, Some, [], ap, arith, cond, drop, get_or, length, length-set, refl, slice_set, subst, suc, sym, take, zero, ℕ, ◌++◌, ◌+◌, ◌<◌, ◌∙◌, ◌∷◌, ◌≡◌, ◌≤◌}
use Rattle.std.specs.Option.{option_map}
use Rattle.std.proofs.lemmas.List.{append_assoc, drop-set-lt, drop_more, take-append-drop, take_more_set}
use Rattle.allocator_api2.specs.Places.{somes}
use Rattle.aa_table.specs.Contents.{keys_like, IsMap}
use Rattle.aa_table.specs.Places.{hashes_of}
use Rattle.aa_table.specs.Retaining.{Retains, Visits}
use Rattle.aa_table.proofs.Maps.{keys-cons}

module _ {X : Type 0} where
  -- a value in its place is changed, or removed
  pub changed-count : (cs : List (Option X)) (s : ℕ) (x y : X) → get_or cs s None ≡ Some x → length (somes (slice_set cs s (Some y))) ≡ length (somes cs)
  changed-count [] s x y at = refl
  changed-count (None ∷ cs) zero x y at = absurd cc
  changed-count (Some z ∷ cs) zero x y at = refl
  changed-count (None ∷ cs) (suc s) x y at = changed-count cs s x y at
  changed-count (Some z ∷ cs) (suc s) x y at = ap suc (changed-count cs s x y at)

  pub removed-count : (cs : List (Option X)) (s : ℕ) (x : X) → get_or cs s None ≡ Some x → 1 + length (somes (slice_set cs s None)) ≡ length (somes cs)
  removed-count [] s x at = absurd cc
  removed-count (None ∷ cs) zero x at = absurd cc
  removed-count (Some z ∷ cs) zero x at = omega arith
  removed-count (None ∷ cs) (suc s) x at = removed-count cs s x at
  removed-count (Some z ∷ cs) (suc s) x at = omega (arith, removed-count cs s x at)

  pub set-twice : (cs : List (Option X)) (s : ℕ) (o p : Option X) → slice_set (slice_set cs s o) s p ≡ slice_set cs s p
  set-twice [] s o p = refl
  set-twice (c ∷ cs) zero o p = refl
  set-twice (c ∷ cs) (suc s) o p = ap (λ ds. c ∷ ds) (set-twice cs s o p)

module _ {K V : Type 0} (h : K → ℕ) where
  -- a value of a key is changed
  pub same-hashes : (cs : List (Option (K × V))) (s : ℕ) (x y : K × V) → get_or cs s None ≡ Some x → y.0 ≡ x.0 → hashes_of h (slice_set cs s (Some y)) ≡ hashes_of h cs
  same-hashes [] s x y at same = refl
  same-hashes (None ∷ cs) zero x y at same = absurd cc
  same-hashes (Some z ∷ cs) zero x y at same = ap (λ k. Some (h k) ∷ hashes_of h cs) (grind (arith, at, same))
  same-hashes (c ∷ cs) (suc s) x y at same = ap (λ hs. option_map (λ (e : K × V). h e.0) c ∷ hs) (same-hashes cs s x y at same)

module _ {K V F : Type 0} (Calls : F → K × V → Bool → V → F → Type 0) where
  -- the places `cs` are `kept` after `f` was called for each in order, and is `g` then
  abbrev pub Keeps : (f : F) → (cs kept : List (Option (K × V))) → (g : F) → Type 0
  Keeps f [] kept g = (kept ≡ []) × (g ≡ f)
  Keeps f (o ∷ cs) kept g =
      (p : Option (K × V)) × (next : F) × Visits Calls f o p next
      × (others : List (Option (K × V))) × (kept ≡ p ∷ others) × Keeps next cs others g

  keeps-none : (f : F) (cs : List (Option (K × V))) → ((s : ℕ) → get_or cs s None ≡ None) → Keeps f cs cs f
  keeps-none f [] h = (refl, refl)
  keeps-none f (None ∷ cs) h = (None, f, (refl, refl), cs, refl, keeps-none f cs (λ s. h (suc s)))
  keeps-none f (Some e ∷ cs) h = absurd (let x = h zero in cc)

  -- the entries in these places
  pub retains : (f : F) (cs kept : List (Option (K × V))) (g : F) → Keeps f cs kept g → Retains Calls f (somes cs) (somes kept) g
  retains f [] kept g (e, same) = (ap somes e, same)
  retains f (None ∷ cs) kept g (p, next, (none, same), others, e, rest) =
      let is : somes kept ≡ somes others = ap somes (e ∙ ap (λ o. o ∷ others) none) in
      rw is (subst (λ h. Retains Calls h (somes cs) (somes others) g) same (retains next cs others g rest))
  retains f (Some x ∷ cs) kept g (p, next, (keep, y, call, left), others, e, rest) =
      (keep, y, next, call, somes others, ap somes (e ∙ ap (λ o. o ∷ others) left) ∙ by keep, retains next cs others g rest)
    where
      by : (b : Bool) → somes (cond b (Some (x.0, y)) None ∷ others) ≡ cond b ((x.0, y) ∷ somes others) (somes others)
      by true = refl
      by false = refl

  -- what was kept of the places before `i`, and all others as they were
  abbrev pub IsPassed : (first : F) → (old : List (Option (K × V))) → (f : F) → (now : List (Option (K × V))) → (i : ℕ) → Type 0
  IsPassed first old f now i =
      (length now ≡ length old) × (drop i now ≡ drop i old)
      × ((others : List (Option (K × V))) (g : F) → Keeps f (drop i old) others g → Keeps first old (take i now ++ others) g)

  pub passed-none : (f : F) (cs : List (Option (K × V))) → IsPassed f cs f cs 0
  passed-none f cs = (refl, refl, λ others g k. k)

  module _ (first : F) (old now : List (Option (K × V))) (f : F) (i : ℕ) (inv : IsPassed first old f now i) where
    -- one place more
    pub passed-one : i < length now → (p : Option (K × V)) (g : F) → Visits Calls f (get_or now i None) p g → IsPassed first old g (slice_set now i p) (i + 1)
    passed-one within p g v =
        let head : drop i old ≡ get_or now i None ∷ drop (i + 1) now = sym inv.1 ∙ drop_more now i None within in
        let b = drop_more old i None (omega (arith, inv.0, within)) in
        let both : get_or now i None ∷ drop (i + 1) now ≡ get_or old i None ∷ drop (i + 1) old = sym head ∙ b in
        let rests : drop (i + 1) now ≡ drop (i + 1) old = cc in (
          length-set now i p ∙ inv.0,
          drop-set-lt (i + 1) now i p (omega arith) ∙ rests,
          λ others last more.
              let one : take (i + 1) (slice_set now i p) ++ others ≡ take i now ++ (p ∷ others) = rw (take_more_set now i p within) (append_assoc (take i now) (p ∷ []) others) in
              rw one (inv.2 (p ∷ others) last (rw (head ∙ ap (λ xs. get_or now i None ∷ xs) rests) (p, g, v, others, refl, more))),
        )

    -- past the last entry
    pub passed-all : ((s : ℕ) → get_or (drop i now) s None ≡ None) → Retains Calls first (somes old) (somes now) f
    passed-all none =
        let whole : take i now ++ drop i now ≡ now = take-append-drop i now in
        retains first old now f (rw whole at (inv.2 (drop i now) f (rw (sym inv.1) (keeps-none f (drop i now) none))))

-- no key is there more often than before
module _ {K V F : Type 0} (Calls : F → K × V → Bool → V → F → Type 0) (eq : K → K → Bool) where
  fewer : (f : F) (es kept : List (K × V)) (g : F) → Retains Calls f es kept g → (q : K) → keys_like eq q kept ≤ keys_like eq q es
  fewer f [] kept g (e, same) q = rw e (omega arith)
  fewer f (x ∷ es) kept g (keep, y, next, call, others, e, rest) q = by keep e (fewer next es others g rest q)
    where
      by : (b : Bool) → kept ≡ cond b ((x.0, y) ∷ others) others → keys_like eq q others ≤ keys_like eq q es → keys_like eq q kept ≤ keys_like eq q (x ∷ es)
      by true e h = rw e (omega (arith, h, keys-cons eq q x es, keys-cons eq q (x.0, y) others))
      by false e h = rw e (omega (arith, h, keys-cons eq q x es))

  pub still-map : (f : F) (es kept : List (K × V)) (g : F) → Retains Calls f es kept g → IsMap eq es → IsMap eq kept
  still-map f es kept g r m q = omega (arith, m q, fewer f es kept g r q)

pub ruleset passing = (passed-none)
