-- Items for each of which a closure is called with the last one kept, and which are removed where it returns `true`.
use Rattle.std.proofs.Common.{◌≡◌, ℕ, ◌+◌, ◌-◌, ◌<◌, ◌≤◌, Bool, true, false, cond, List, [], ◌∷◌, ◌++◌, length, take, drop, get_or, Some, refl, sym, ap, ◌∙◌, subst, arith, append_assoc, length-append, length-set, take-take}
use Rattle.std.specs.Prelude.{slice_get, slice_set}
use Rattle.std.specs.List.{dedup, dedup_from}
use Rattle.std.proofs.lemmas.Grind.{drop_more_same}
use Rattle.std.proofs.lemmas.Option.{get_or_from_slice_get}
use Rattle.std.proofs.lemmas.List.{drop-set-lt, drop_all, drop_more, same_from_push, take_more, take-set-le}
use Rattle.allocator_api2.specs.Choosing.{ChainsFrom, Deduplicated, IsCallableAlong, IsPureTest, MayChainFrom, MayDeduplicate}
use Rattle.aa_inline.specs.Inlined.{Inlined}
use Rattle.aa_inline.specs.Retaining.{Deduplicates, Distinguishes}
use Rattle.aa_inline.proofs.Fews.{take-push}

module _ {F T : Type 0} (Calls : F → T → T → Bool → F → T → T → Type 0) where
  -- a test that is a function of the two items
  module _ (same : T → T → Bool) (pure : IsPureTest Calls same) where
    chained-by : (f : F) (l : T) (xs : List T) (results : List Bool) (g : F) (ys : List T) → ChainsFrom Calls f l xs results g ys → ys ≡ dedup_from same l xs
    chained-by f l [] [] g ys c = c.1
    chained-by f l (x ∷ xs) (true ∷ results) g ys c =
        let t = pure f x l true c.0 c.1 c.2 c.3 in
        chained-by c.0 c.2 xs results g ys c.4 ∙ ap (λ k. dedup_from same k xs) t.2 ∙ ap (λ b. cond b (dedup_from same l xs) (l ∷ dedup_from same x xs)) t.0
    chained-by f l (x ∷ xs) (false ∷ results) g ys c =
        let t = pure f x l false c.0 c.1 c.2 c.4 in
        c.6 ∙ (λ i. t.2 i ∷ (chained-by c.0 c.1 xs results g c.3 c.5 ∙ ap (λ y. dedup_from same y xs) t.1) i) ∙ ap (λ b. cond b (dedup_from same l xs) (l ∷ dedup_from same x xs)) t.0
    chained-by f l xs results g ys c = absurd c

    pub dedup-by : (f : F) (xs : List T) (results : List Bool) (g : F) (ys : List T) → Deduplicated Calls f xs results g ys → ys ≡ dedup same xs
    dedup-by f [] results g ys c = c.2
    dedup-by f (x ∷ xs) results g ys c = chained-by f x xs results g ys c

  -- there are fewer than two
  pub few-kept : (f : F) (xs : List T) → length xs < 2 → Distinguishes Calls f xs f xs
  few-kept f [] few = record { results = []; called = (refl, refl, refl) }
  few-kept f (x ∷ []) few = record { results = []; called = (refl, refl) }
  few-kept f (x ∷ y ∷ xs) few = absurd (omega (arith, few))

  module _ (Takes : F → T → T → Type 0) where
    -- of the first `i` of `xs` those that are kept are the first `k` of `ys`, and `last` is the last of them; the others are as they were
    pub record SeparatesTo (f : F) (xs : List T) (i k : ℕ) (g : F) (ys : List T) : Type 0 where
      pub front : List T
      pub last : T
      pub are : take k ys ≡ front ++ last ∷ []
      pub may : MayChainFrom Calls Takes g last (drop i xs)
      pub ends : (results : List Bool) (h : F) (zs : List T) → ChainsFrom Calls g last (drop i xs) results h zs → (every : List Bool) × Deduplicated Calls f xs every h (front ++ zs)
      pub rest : drop i ys ≡ drop i xs
      pub some : 0 < k
      pub within : k ≤ i
      pub long : length ys ≡ length xs

    pub first-kept : (f : F) (xs : List T) → 1 < length xs → IsCallableAlong Calls Takes f xs → SeparatesTo f xs 1 1 f xs
    first-kept f [] some may = absurd (omega (arith, some))
    first-kept f (x ∷ xs) some may = record { front = []; last = x; are = refl; may = may.along; ends = λ results h zs c. (results, c); rest = refl; some = omega arith; within = omega arith; long = refl }

    -- the closure was called for all
    pub all-kept : (f : F) (xs : List T) (n k : ℕ) (g : F) (ys : List T) → SeparatesTo f xs n k g ys → length xs ≤ n → Distinguishes Calls f xs g (take k ys)
    all-kept f xs n k g ys s all =
        let p = s.ends [] g (s.last ∷ []) (subst (λ zs. ChainsFrom Calls g s.last zs [] g (s.last ∷ [])) (sym (drop_all n xs all)) (refl, refl)) in
        record { results = p.0; called = subst (λ zs. Deduplicated Calls f xs p.0 g zs) (sym s.are) p.1 }

    -- the next one, `x`, was moved out, and `l` is the last one kept
    module _ (f : F) (xs : List T) (i k : ℕ) (g : F) (ys : List T) (s : SeparatesTo f xs i k g ys) (x d l : T) (few : i < length xs) (here : slice_get ys i ≡ Some x) (there : slice_get (slice_set ys i d) (k - 1) ≡ Some l) where
      abbrev out : List T
      out = slice_set ys i d

      next : drop i xs ≡ x ∷ drop (i + 1) xs
      next = sym s.rest ∙ drop_more ys i x (omega (arith, few, s.long)) ∙ (λ t. get_or_from_slice_get ys i x x here t ∷ drop_more_same ys xs i s.rest t)

      up : k - 1 + 1 ≡ k
      up = omega (arith, s.some)

      parts : (take (k - 1) out ≡ s.front) × (get_or out (k - 1) l ≡ s.last)
      parts =
          same_from_push (take (k - 1) out) s.front (get_or out (k - 1) l) s.last
          (sym (take_more out (k - 1) l (omega (arith, few, s.some, s.within, s.long, length-set ys i d))) ∙ ap (λ n. take n out) up ∙ take-set-le k ys i d s.within ∙ s.are)

      was : l ≡ s.last
      was = sym (get_or_from_slice_get out (k - 1) l l there) ∙ parts.1

      may : MayChainFrom Calls Takes g l (x ∷ drop (i + 1) xs)
      may = subst (λ z. MayChainFrom Calls Takes g z (x ∷ drop (i + 1) xs)) (sym was) (subst (λ zs. MayChainFrom Calls Takes g s.last zs) next s.may)

      -- it may be called for them
      pub may-next : Takes g x l
      may-next = may.0

      ends-next : (results : List Bool) (h : F) (zs : List T) → ChainsFrom Calls g l (x ∷ drop (i + 1) xs) results h zs → (every : List Bool) × Deduplicated Calls f xs every h (s.front ++ zs)
      ends-next results h zs c = s.ends results h zs (subst (λ ws. ChainsFrom Calls g s.last ws results h zs) (sym next) (subst (λ z. ChainsFrom Calls g z (x ∷ drop (i + 1) xs) results h zs) was c))

      module _ (h : F) (y m : T) where
        abbrev back : List T
        back = slice_set out (k - 1) m

        kept : take k back ≡ s.front ++ m ∷ []
        kept =
            ap (λ n. take n back) (sym up) ∙ take-push out (k - 1) m (omega (arith, few, s.some, s.within, s.long, length-set ys i d)) ∙ ap (λ zs. zs ++ m ∷ []) parts.0

        rest-next : drop (i + 1) back ≡ drop (i + 1) xs
        rest-next = drop-set-lt (i + 1) out (k - 1) m (omega (arith, s.within)) ∙ drop-set-lt (i + 1) ys i d (omega arith) ∙ drop_more_same ys xs i s.rest

        long-next : length back ≡ length xs
        long-next = length-set out (k - 1) m ∙ length-set ys i d ∙ s.long

        -- which leaves them as `y` and `m`; it is removed, or kept
        pub next-repeat : Calls g x l true h y m → SeparatesTo f xs (i + 1) k h back
        next-repeat c = record {
          front = s.front;
          last = m;
          are = kept;
          may = may.1 h y m c;
          ends = λ results t zs e. ends-next (true ∷ results) t zs (h, y, m, c, e);
          rest = rest-next;
          some = s.some;
          within = omega (arith, s.within);
          long = long-next;
        }

        pub next-distinct : Calls g x l false h y m → SeparatesTo f xs (i + 1) (k + 1) h (slice_set back k y)
        next-distinct c = record {
          front = s.front ++ m ∷ [];
          last = y;
          are = take-push back k y (omega (arith, few, s.within, long-next)) ∙ ap (λ zs. zs ++ y ∷ []) kept;
          may = may.2 h y m c;
          ends = λ results t zs e.
              let p = ends-next (false ∷ results) t (m ∷ zs) (h, y, m, zs, c, e, refl) in
              (p.0, subst (λ ws. Deduplicated Calls f xs p.0 t ws) (sym (append_assoc s.front (m ∷ []) zs)) p.1);
          rest = drop-set-lt (i + 1) back k y (omega (arith, s.within)) ∙ rest-next;
          some = omega arith;
          within = omega (arith, s.within);
          long = length-set back k y ∙ long-next;
        }

-- a closure in the state `q` passes its calls on to another, which is in the state `inner q`
module _ {Q F T : Type 0} (inner : Q → F) (Outer : Q → T → T → Bool → Q → T → T → Type 0) (Inner : F → T → T → Bool → F → T → T → Type 0)
    (passes : (q : Q) (x l : T) (b : Bool) (r : Q) (y m : T) → Outer q x l b r y m → Inner (inner q) x l b (inner r) y m) where
  chained-on : (q : Q) (l : T) (xs : List T) (results : List Bool) (r : Q) (ys : List T) → ChainsFrom Outer q l xs results r ys → ChainsFrom Inner (inner q) l xs results (inner r) ys
  chained-on q l [] [] r ys c = (ap inner c.0, c.1)
  chained-on q l (x ∷ xs) (true ∷ results) r ys c = (inner c.0, c.1, c.2, passes q x l true c.0 c.1 c.2 c.3, chained-on c.0 c.2 xs results r ys c.4)
  chained-on q l (x ∷ xs) (false ∷ results) r ys c = (inner c.0, c.1, c.2, c.3, passes q x l false c.0 c.1 c.2 c.4, chained-on c.0 c.1 xs results r c.3 c.5, c.6)
  chained-on q l xs results r ys c = absurd c

  separated-on : (q : Q) (xs : List T) (results : List Bool) (r : Q) (ys : List T) → Deduplicated Outer q xs results r ys → Deduplicated Inner (inner q) xs results (inner r) ys
  separated-on q [] results r ys c = (c.0, ap inner c.1, c.2)
  separated-on q (x ∷ xs) results r ys c = chained-on q x xs results r ys c

  pub deduplicates-on : {A : Type 0} (q : Q) (old : Inlined T A) (r : Q) (new : Inlined T A) → Deduplicates Outer q old r new → Deduplicates Inner (inner q) old (inner r) new
  deduplicates-on q old r new h = record { results = h.results; left = h.left; called = separated-on q old.items h.results r h.left h.called; put = h.put }

  module _ (TakesOuter : Q → T → T → Type 0) (TakesInner : F → T → T → Type 0) (takes : (q : Q) (x l : T) → TakesInner (inner q) x l → TakesOuter q x l) where
    may-on : (q : Q) (l : T) (xs : List T) → MayChainFrom Inner TakesInner (inner q) l xs → MayChainFrom Outer TakesOuter q l xs
    may-on q l [] may = tt
    may-on q l (x ∷ xs) may = (takes q x l may.0, λ r y m a. may-on r m xs (may.1 (inner r) y m (passes q x l true r y m a)), λ r y m a. may-on r y xs (may.2 (inner r) y m (passes q x l false r y m a)))

    all-on : (q : Q) (xs : List T) → MayDeduplicate Inner TakesInner (inner q) xs → MayDeduplicate Outer TakesOuter q xs
    all-on q [] may = tt
    all-on q (x ∷ xs) may = may-on q x xs may

    pub callable-on : (q : Q) (xs : List T) → IsCallableAlong Inner TakesInner (inner q) xs → IsCallableAlong Outer TakesOuter q xs
    callable-on q xs may = record { along = all-on q xs may.along }

pub ruleset distinguished = (take-take, length-set, all-kept, few-kept)
