-- Elements tested in order, of which the kept ones were moved down.
use Rattle.aa_vec.proofs.Common.{SetsTail, IsCallableInOrder, ◌≡◌, ℕ, zero, suc, ◌+◌, ◌-◌, ◌≤◌, Bool, true, false, List, [], ◌∷◌, ◌++◌, length, take, drop, refl, sym, ap, ◌∙◌, subst, arith, append_assoc, append-nil, HasTail, tail_items, Call, results_of, kept, CalledInOrder, MayCallInOrder, Retains, CallsUntil, CallsOnTail, Vector, len}
use Rattle.aa_vec.proofs.Becoming.{Becomes-spare}
use Rattle.aa_vec.proofs.Closed.{marks, removed-calls}
use Rattle.aa_vec.proofs.Stages.{Turn, Stage, Turned, turned, stage-start, start-len, stage-ended}
use Rattle.aa_vec.proofs.Tails.{count, replaced_are, replaced_tail}

module _ {F T : Type 0} (Calls : F → T → Bool → F → T → Type 0) where
  -- the calls for the untested elements, and what is kept then
  pub record Told (h : F) (items yet : List T) (stays : List Bool) (g : F)
      (ys : List T) : Type 0 where
    pub calls : List (Call T)
    pub called : CalledInOrder Calls h yet calls g
    pub results : results_of calls ≡ stays
    pub all : ys ≡ items ++ kept calls

  module _ (Takes : F → T → Type 0) where
    abbrev pub May : F → (items yet : List T) → Type 0
    May h items yet = MayCallInOrder Calls Takes h yet

    -- what follows the first k of xs, which are kept, and the next, which is removed
    pub record Follows (f : F) (xs : List T) (k : ℕ) (g : F) (left : List T) : Type 0 where
      pub long : length left ≡ length xs
      pub within : k ≤ length xs
      pub may : MayCallInOrder Calls Takes f xs
          → MayCallInOrder Calls Takes g (drop 1 (drop k left))
      pub ends : (calls : List (Call T)) (t : F)
          → CalledInOrder Calls g (drop 1 (drop k left)) calls t
          → (every : List (Call T)) × CalledInOrder Calls f xs every t
          × (results_of every ≡ marks k (length xs) (results_of calls))
          × (kept every ≡ take k left ++ kept calls)

    pub follows : (f g : F) (xs : List T) (k : ℕ) (left : List T) → CallsUntil Calls f xs k g left
        → Follows f xs k g left
    follows f g [] zero left u =
        rw (u.0, u.1) (record {
          long = refl;
          within = omega arith;
          may = λ m. m;
          ends = λ calls t a. (calls, a, refl, refl);
        })
    follows f g [] (suc k) left u = absurd u
    follows f g (x ∷ xs) zero left u = rw u.2 (record {
      long = refl;
      within = omega arith;
      may = λ m. m.1 false g u.0 u.1;
      ends = λ calls t a. (record { result = false; left = u.0 } ∷ calls, (g, u.1, a), refl, refl);
    })
    follows f g (x ∷ xs) (suc k) left u =
        let r : Follows u.0 xs k g u.2 = follows u.0 g xs k u.2 u.4 in
        rw u.5 (record {
          long = ap suc r.long;
          within = omega (arith, r.within);
          may = λ m. r.may (m.1 true u.0 u.1 u.3);
          ends = λ calls t a. let q = r.ends calls t a in (
            record { result = true; left = u.1 } ∷ q.0,
            (u.0, u.3, q.1),
            ap (λ s. true ∷ s) q.2,
            ap (λ l. u.1 ∷ l) q.3,
          );
        })

    module _ {A : Type 0} where
      pub turn-asked : (h : F) (v : Vector T A) (gap n : ℕ) → HasTail v gap n
          → (k : ℕ) (g : F) (w : Vector T A) → (asked : CallsOnTail Calls h v gap n k g w)
          → Turn Told May h v gap n k g w asked.left
      turn-asked h v gap n has_tail k g w asked =
          let r = follows h g (tail_items v gap n) k asked.left asked.until in
          let many : length (tail_items v gap n) ≡ n = count v gap n has_tail in
          let long : length asked.left ≡ n = r.long ∙ many in
          let same = asked.leaves.same in
          record {
            within = omega (arith, r.within, many);
            has_tail = replaced_tail v gap n has_tail w asked.left _ (ap len same)
                (ap (λ s. s.capacity) same) long asked.leaves.spare;
            are = replaced_are v gap n has_tail w asked.left _ (ap len same)
                (ap (λ s. s.capacity) same) long asked.leaves.spare;
            long = ap (λ s. length s.items) same;
            becomes = (v.items, Becomes-spare v w w.spare same);
            may = r.may;
            ends = λ calls t ys e.
                let q = r.ends e.calls t e.called in
                grind (arith, append_assoc, q, e, q.0, same);
          }

module _ {F T A : Type 0} {Calls : F → T → Bool → F → T → Type 0} {Takes : F → T → Type 0} where
  pub asked-turn : {f h g : F} {old v w : Vector T A} {at end k n : ℕ}
      → Stage (Told Calls) (May Calls Takes) f [] old.items old h v at end → n ≡ len v
      → CallsOnTail Calls h v (at - n) (end - at) k g w
      → Turned (Told Calls) (May Calls Takes) f [] old.items old at end n k g w
  asked-turn {f = f} {h = h} {g = g} {old = old} {v = v} {w = w} s many asked =
      turned (Told Calls) (May Calls Takes) f [] old.items old s many
      (λ has_tail. turn-asked Calls Takes h v _ _ has_tail _ g w asked)

  -- the turn before the first removed element
  pub first-turn : {f g : F} {old v w : Vector T A} {end k : ℕ} → SetsTail old 0 v → 0 + end
      ≡ len old → IsCallableInOrder Calls Takes f old.items → CallsOnTail Calls f v 0 end k g w
      → Turned (Told Calls) (May Calls Takes) f [] old.items old 0 end 0 k g w
  first-turn {f = f} {g = g} {old = old} {v = v} {w = w} {end = end} {k = k} set all may asked =
      let start : Stage (Told Calls) (May Calls Takes) f [] old.items old f v 0 end
      × (0 ≡ len v) = grind (arith, stage-start, start-len) in
      asked-turn start.0 start.1
      (subst (λ n. CallsOnTail Calls f v 0 n k g w) {x = end} {y = end - 0} (omega arith) asked)

  -- the closure was called for all
  pub Retains-ended : {f g : F} {old w : Vector T A} {at end : ℕ}
      → Stage (Told Calls) (May Calls Takes) f [] old.items old g w at end → at ≡ end
      → Retains Calls f old g w
  Retains-ended {f = f} {g = g} {old = old} {w = w} {at = at} {end = end} s e =
      let q = stage-ended (Told Calls) (May Calls Takes) f [] old.items old g w at end s e
      (λ yet none m. rw none
      (record { calls = []; called = refl; results = refl; all = sym (append-nil w.items) })) in
      let r = q.1 in
      grind (arith, removed-calls, r.calls, r.called, q.2)
