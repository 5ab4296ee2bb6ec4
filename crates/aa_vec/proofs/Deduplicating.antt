-- Elements for which a closure is called with the last one kept, and of which the kept ones were
-- moved down.
use Rattle.aa_vec.proofs.Common.{IsCallableAlong, ◌≡◌, ℕ, zero, suc, ◌+◌, ◌-◌, ◌≤◌, ◌<◌, Bool, true, false, not, List, [], ◌∷◌, ◌++◌, length, map, take, drop, refl, sym, ap, ◌∙◌, subst, arith, append_assoc, length-append, HasTail, SetsTail, tail_items, ChainsFrom, Deduplicated, MayChainFrom, MayDeduplicate, Deduplicates, ChainsUntil, ChainsOnTail, Vector, len, same_from_push}
use Rattle.aa_vec.proofs.Becoming.{Becomes-refl}
use Rattle.aa_vec.proofs.Chains.{split_last}
use Rattle.aa_vec.proofs.Closed.{marks, removed-not}
use Rattle.aa_vec.proofs.Stages.{Turn, Stage, Turned, turned, start-len, stage-start, stage-ended}
use Rattle.aa_vec.proofs.Tails.{count, replaced_are, replaced_tail}

module _ {F T : Type 0} (Calls : F → T → T → Bool → F → T → T → Type 0) where
  -- the results for the untested elements, the first with the last item, and what remains then from
  -- that item on
  pub record Told (h : F) (items yet : List T) (stays : List Bool) (g : F)
      (ys : List T) : Type 0 where
    pub front : List T
    pub last : T
    pub results : List Bool
    pub left : List T
    pub had : items ≡ front ++ last ∷ []
    pub called : ChainsFrom Calls h last yet results g left
    pub stay : map not results ≡ stays
    pub all : ys ≡ front ++ left

  pub record May (Takes : F → T → T → Type 0) (h : F) (items yet : List T) : Type 0 where
    pub some : 0 < length items
    pub along : (front : List T) (last : T) → items ≡ front ++ last ∷ []
        → MayChainFrom Calls Takes h last yet

  module _ (Takes : F → T → T → Type 0) where
    -- what follows the first k of xs, which are kept, and the next, which is removed. `last` is the
    -- last one kept then
    record Follows (f : F) (l : T) (xs : List T) (k : ℕ) (g : F) (ws : List T) : Type 0 where
      pub before : List T
      pub last : T
      pub are : take (suc k) ws ≡ before ++ last ∷ []
      pub long : length ws ≡ suc (length xs)
      pub within : k ≤ length xs
      pub may : MayChainFrom Calls Takes f l xs
          → MayChainFrom Calls Takes g last (drop 1 (drop (suc k) ws))
      pub ends : (results : List Bool) (t : F) (ys : List T)
          → ChainsFrom Calls g last (drop 1 (drop (suc k) ws)) results t ys
          → (every : List Bool) × ChainsFrom Calls f l xs every t (before ++ ys)
          × (map not every ≡ marks k (length xs) (map not results))

    follows : (f g : F) (l : T) (xs : List T) (k : ℕ) (ws : List T)
        → ChainsUntil Calls f l xs k g ws → Follows f l xs k g ws
    follows f g l [] zero ws u =
        rw (u.0, u.1) (record {
          before = [];
          last = l;
          are = refl;
          long = refl;
          within = omega arith;
          may = λ m. m;
          ends = λ results t ys c. (results, c, refl);
        })
    follows f g l [] (suc k) ws u = absurd u
    follows f g l (x ∷ xs) zero ws u = rw u.3 (record {
      before = [];
      last = u.1;
      are = refl;
      long = refl;
      within = omega arith;
      may = λ m. m.1 g u.0 u.1 u.2;
      ends = λ results t ys c. (true ∷ results, (g, u.0, u.1, u.2, c), refl);
    })
    follows f g l (x ∷ xs) (suc k) ws u =
        let r : Follows u.0 u.1 xs k g u.3 = follows u.0 g u.1 xs k u.3 u.5 in
        rw u.6 (record {
          before = u.2 ∷ r.before;
          last = r.last;
          are = ap (λ zs. u.2 ∷ zs) r.are;
          long = ap suc r.long;
          within = omega (arith, r.within);
          may = λ m. r.may (m.2 u.0 u.1 u.2 u.4);
          ends = λ results t ys c. let q = r.ends results t ys c in
              (false ∷ q.0, (u.0, u.1, u.2, r.before ++ ys, u.4, q.1, refl), ap (λ s. true ∷ s) q.2);
        })

    -- what holds of all after the first holds of the list
    whole : (f : F) (xs : List T) (stays : List Bool) (g : F) (ys : List T)
        (t : Told f (take 1 xs) (drop 1 xs) stays g ys) → Deduplicated Calls f xs t.results g ys
    whole f [] stays g ys t =
        absurd (omega (arith, ap length t.had, length-append t.front (t.last ∷ [])))
    whole f (x ∷ xs) stays g ys t =
        let s = same_from_push t.front [] t.last x (sym t.had) in
        rw (t.all, s.0) (subst (λ y. ChainsFrom Calls f y xs t.results g t.left) s.1 t.called)

    pub may_all : (f : F) (xs : List T) → 0 < length xs → MayDeduplicate Calls Takes f xs
        → May Takes f (take 1 xs) (drop 1 xs)
    may_all f [] some may = absurd (omega (arith, some))
    may_all f (x ∷ xs) some may =
        record {
          some = omega arith;
          along = λ fr l e. subst (λ y. MayChainFrom Calls Takes f y xs)
              (same_from_push [] fr x l e).1 may;
        }

    module _ {A : Type 0} where
      pub turn-chained : (h : F) (v : Vector T A) (gap n : ℕ) → HasTail v gap n
          → (k : ℕ) (g : F) (w : Vector T A) → (asked : ChainsOnTail Calls h v gap n k g w)
          → Turn Told (May Takes) h v gap n k g w asked.left
      turn-chained h v gap n has_tail k g w asked =
          let ws : List T = asked.last_left ∷ asked.left in
          let r = follows h g asked.last (tail_items v gap n) k ws asked.until in
          let many : length (tail_items v gap n) ≡ n = count v gap n has_tail in
          let long : length asked.left ≡ n = omega (arith, r.long, many) in
          let same : len w ≡ len v = omega (
            arith,
            ap len asked.becomes,
            length-append {A = T},
            ap length asked.had,
          ) in
          let front : List T = asked.front ++ r.before in
          let items : w.items ++ take k asked.left ≡ front ++ r.last ∷ [] =
          ap (λ s. s.items ++ take k asked.left) asked.becomes
          ∙ append_assoc asked.front (asked.last_left ∷ []) (take k asked.left)
          ∙ ap (λ l. asked.front ++ l) r.are
          ∙ sym (append_assoc asked.front r.before (r.last ∷ [])) in
          record {
            within = omega (arith, r.within, many);
            has_tail = replaced_tail v gap n has_tail w asked.left _ same
                (ap (λ s. s.capacity) asked.becomes) long asked.spare;
            are = replaced_are v gap n has_tail w asked.left _ same
                (ap (λ s. s.capacity) asked.becomes) long asked.spare;
            long = same;
            becomes = (_, asked.becomes);
            may = λ m. grind (arith, length-append, same_from_push, items, r.may, m);
            ends = λ results t ys e.
                let s = same_from_push e.front front e.last r.last (sym e.had ∙ items) in
                let q = r.ends e.results t e.left
                (subst (λ y. ChainsFrom Calls g y (drop 1 (drop k asked.left)) e.results t
                e.left) s.1 e.called) in
                grind (
                  arith,
                  append_assoc,
                  s,
                  q,
                  e,
                  asked.front,
                  asked.last,
                  q.0,
                  r.before
                      ++ e.left,
                );
          }

-- there are none, or one
Deduplicated-few : {F T : Type 0} (Calls : F → T → T → Bool → F → T → T → Type 0) (f : F)
    (xs : List T) → length xs < 2 → Deduplicated Calls f xs [] f xs
Deduplicated-few Calls f [] few = (refl, refl, refl)
Deduplicated-few Calls f (x ∷ []) few = (refl, refl)
Deduplicated-few Calls f (x ∷ y ∷ xs) few = absurd (omega (arith, few))

pub Deduplicates-few : {F T A : Type 0} {Calls : F → T → T → Bool → F → T → T → Type 0} (f : F)
    (old : Vector T A) → len old < 2 → Deduplicates Calls f old f old
Deduplicates-few {Calls = Calls} f old few =
    record {
      results = [];
      left = old.items;
      called = Deduplicated-few Calls f old.items few;
      runs = 0;
      few = omega arith;
      fewer = omega arith;
      becomes = Becomes-refl old;
    }

module _ {F T A : Type 0} {Calls : F → T → T → Bool → F → T → T → Type 0} {Takes : F → T → T
    → Type 0} where
  pub chained-turn : {f h g : F} {old v w : Vector T A} {at end k n : ℕ}
      → Stage (Told Calls) (May Calls Takes) f (take 1 old.items) (drop 1 old.items) old h v at end
      → n ≡ len v → ChainsOnTail Calls h v (at - n) (end - at) k g w
      → Turned (Told Calls) (May Calls Takes) f (take 1 old.items) (drop 1 old.items) old at end n k
      g w
  chained-turn {f = f} {h = h} {g = g} {old = old} {v = v} {w = w} s many asked =
      turned (Told Calls) (May Calls Takes) f (take 1 old.items) (drop 1 old.items) old s many
      (λ has_tail. turn-chained Calls Takes h v _ _ has_tail _ g w asked)

  pub chained-start : {f : F} {old v : Vector T A} {end : ℕ} (rest : ℕ) → SetsTail old 1 v
      → 1 + rest ≡ len old → end ≡ len old → IsCallableAlong Calls Takes f old.items
      → Stage (Told Calls) (May Calls Takes) f (take 1 old.items) (drop 1 old.items) old f v 1 end
      × (1 ≡ len v)
  chained-start {f = f} {old = old} {end = end} rest set some all may =
      grind (arith, stage-start, may_all, start-len)

  -- the closure was called for all
  pub Deduplicates-ended : {f g : F} {old w : Vector T A} {at end : ℕ}
      → Stage (Told Calls) (May Calls Takes) f (take 1 old.items) (drop 1 old.items) old g w at end
      → at ≡ end → end ≡ len old → Deduplicates Calls f old g w
  Deduplicates-ended {f = f} {g = g} {old = old} {w = w} {at = at} {end = end} s e all =
      let q = stage-ended (Told Calls) (May Calls Takes) f (take 1 old.items)
      (drop 1 old.items) old g w at end s e (λ yet none m. let p = split_last w.items m.some in
      rw none (record {
        front = p.0;
        last = p.1;
        results = [];
        left = p.1 ∷ [];
        had = p.2;
        called = (refl, refl);
        stay = refl;
        all = p.2;
      })) in let r = q.1 in
      grind (
        arith,
        removed-not,
        whole Calls Takes f old.items q.0 g w.items r,
        w.items,
        r.results,
        q.2,
      )

pub ruleset ended = (Deduplicates-ended, Deduplicates-few, chained-start)
