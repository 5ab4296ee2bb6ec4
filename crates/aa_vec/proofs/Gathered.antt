-- Items collected in a vector of their own, and what was requested if they could not be.
use Rattle.aa_vec.proofs.Common.{◌≡◌, ℕ, ◌+◌, ◌-◌, ◌<◌, List, [], ◌∷◌, ◌++◌, length, Option, None, refl, suc, sym, ap, cases_lt, ◌∙◌, subst, arith, inl, inr, length-append, min, append-nil, TryReserveError, Doubling, amortized, min_capacity, usize_max, Vector, len, IsNew, LacksRoom, GrowsTo, GrowsInSteps, Ok, Err, Extends, Takes, Collects, LacksOthers, LacksRest, Becomes, with_room, nat_tests}
use Rattle.aa_raw.specs.Errors.{IsErrorFor}
use Rattle.aa_vec.proofs.Becoming.{GrowsTo-becomes, SameBlock-becomes}
use Rattle.aa_vec.proofs.GrowthLemmas.{MakesRoom, MakesRoom-unchanged, SameBlock-refl, Extends-items, GrowsInSteps-counted, GrowsInSteps-first, in_block}
use Rattle.aa_vec.proofs.Counted.{Extends-yields}
use Rattle.aa_vec.proofs.HintLemmas.{bound_first}

-- another function has the same bounds for the items, after which `more` remains
module _ {T A : Type 0} (size : ℕ) (lower by : ℕ → ℕ) (items : List T)
    (some : 0 < length items) where
  module _ (more : List T) (same : (k : ℕ) → k < length items → lower k ≡ by (k + length more))
      (error : TryReserveError) where
    pub LacksOthers-yields : (fails fails' whole whole' : Type 0) → (fails → fails')
        → (whole → whole') → (whole → more ≡ []) → (v : Vector T A)
        → LacksOthers fails whole size lower v items error
        → LacksOthers fails' whole' size by v (items ++ more) error
    LacksOthers-yields fails fails' whole whole' f w none v (inl (inl h)) =
        let asked = ap (λ n. min (n + 1) usize_max)
        (same (length items - 1) (omega (arith, some))
        ∙ ap by (omega (arith, some, length-append items more))) in
        inl (inl (
          f h.0,
          subst (λ k. IsErrorFor error (amortized Doubling 0 k (min_capacity size)))
              asked h.1,
        ))
    LacksOthers-yields fails fails' whole whole' f w none v (inl (inr h)) =
        inl (inr (
          h.0,
          h.1,
          h.2,
          h.3,
          Extends-yields size lower by (SameBlock-refl h.0) [] items more (λ k l. same k l)
              (items ++ more) refl (Err error) tt h.1 h.4,
        ))
    LacksOthers-yields fails fails' whole whole' f w none v (inr h) =
        inr (
          w h.0,
          subst (λ k. LacksRoom size v k error)
              (omega (arith, length-append items more, ap length (none h.0))) h.1,
        )

  pub LacksOthers-same : ((k : ℕ) → k < length items → lower k ≡ by k)
      → (fails fails' whole : Type 0) → (fails → fails')
      → (v : Vector T A) (error : TryReserveError)
      → LacksOthers fails whole size lower v items error
      → LacksOthers fails' whole size by v items error
  LacksOthers-same same fails fails' whole f v error l =
      subst (λ ys. LacksOthers fails' whole size by v ys error) (append-nil items)
      (LacksOthers-yields [] (λ k h. same k h ∙ ap by (omega arith)) error fails fails' whole
      whole f (λ w. w) (λ _. refl) v l)

-- n is the lower bound after `first`
module _ {S T A : Type 0} (steps : S → Option T → S → Type 0) (LowerIs : S → ℕ → Type 0)
    (fails : Type 0) (size : ℕ) (s : S) (first : T) (old : Vector T A) (n : ℕ) (tells : LowerIs s n)
    (wanted : ℕ) (is : wanted ≡ min (n + 1) usize_max) where
  -- the clone of the allocator failed
  pub LacksRest-clone : (error : TryReserveError)
      → IsErrorFor error (amortized Doubling 0 wanted (min_capacity size)) → fails
      → LacksRest steps LowerIs fails size s old first error s
  LacksRest-clone error r f =
      record {
        taken = [];
        lower = λ _. n;
        last = s;
        yields = (tells, refl);
        outcome = (
          inl refl,
          inl (inl
              (f, subst (λ k. IsErrorFor error (amortized Doubling 0 k (min_capacity size))) is r)),
        );
      }

  module _ (a : A) (made : Vector T A) (new : IsNew size 0 a made) where
    no_places : made.capacity < wanted → made.capacity ≡ 0
    no_places h = grind (arith, nat_tests, new.capacity)

    -- its first growth failed
    pub LacksRest-first : (error : TryReserveError) → LacksRoom size made wanted error
        → LacksRest steps LowerIs fails size s old first error s
    LacksRest-first error lacks =
        let none : made.capacity ≡ 0 = no_places (omega (arith, lacks.full, ap length new.items)) in
        let full : Extends size (λ _. n) made [] (first ∷ []) (Err error) made = grind
        (arith, in_block, SameBlock-refl, none, is, lacks, new.items) in
        record {
          taken = [];
          lower = λ _. n;
          last = s;
          yields = (tells, refl);
          outcome = (inl refl, inl (inr (made, made, new.capacity, new.growth, full)));
        }

    -- `first` was appended, and others after it
    module _ (v : Vector T A)
        (roomy : Becomes (with_room size made (len made) wanted) made.items 0 0 v) (w : Vector T A)
        (put : Becomes v (v.items ++ first ∷ []) 1 1 w) where
      g : GrowsTo size made wanted made.items v
      g = GrowsTo-becomes made made.items 0 0 v size wanted roomy

      one : w.items ≡ first ∷ []
      one = ap (λ u. u.items) put ∙ ap (λ ys. ys ++ first ∷ []) (g.items ∙ new.items)

      pub Collects-all : (x : Vector T A) (t : S)
          → Takes steps LowerIs s
          (λ lower xs last. steps last None t × Extends size lower w w.items xs (Ok tt) x)
          → Collects steps LowerIs s first x t
      Collects-all x t e =
          record {
            taken = e.taken;
            lower = e.lower;
            last = e.last;
            yields = e.yields;
            outcome = (e.outcome.0, Extends-items e.outcome.1 ∙ ap (λ ys. ys ++ e.taken) one);
          }

      pub LacksRest-more : (x : Vector T A) (error : TryReserveError) (t : S)
          → Takes steps LowerIs s
          (λ lower xs last. (last ≡ t) × (stop : Extends size lower w w.items xs (Err error) x)
          × (length stop.others ≡ 1)) → LacksRest steps LowerIs fails size s old first error t
      LacksRest-more x error t e =
          let taken : List T = e.taken in
          let f = bound_first steps LowerIs e.lower s taken e.last e.yields n tells in
          let stop = Extends-yields size e.lower f.0 (SameBlock-becomes _ _ _ _ _ put) w.items taken
          [] (λ k l. f.1 k l ∙ ap f.0 (omega arith)) taken (sym (append-nil taken))
          (Err error) tt x e.outcome.1 in
          let needed : ℕ = 0 + suc (length taken) in
          let rest : GrowsInSteps size f.0 needed v x = subst (λ k. GrowsInSteps size f.0 k v x)
          (omega (arith, ap length one)) stop.in_steps in
          let in_steps : GrowsInSteps size f.0 needed made x =
          elim (cases_lt made.capacity (len made + wanted)) [
            | inr h ↦ GrowsInSteps-counted size f.0 f.0 needed 0 needed
                (MakesRoom-unchanged size (len made) wanted made v g.room (omega (arith, h)))
                (omega arith) (λ k _. ap f.0 (omega arith)) rest
            | inl h ↦
                let none : made.capacity ≡ 0 = no_places (omega (arith, h, ap length new.items)) in
                let asked : wanted ≡ min (f.0 (needed - made.capacity - 1) + 1) usize_max = is
                ∙ ap (λ k. min (k + 1) usize_max) (sym f.2 ∙ ap f.0 (omega (arith, none))) in
                GrowsInSteps-first size f.0 needed (omega (arith, none))
                (rw (← asked) (subst (λ k. MakesRoom size made k wanted v) {x = len made}
                {y = made.capacity} (omega (arith, ap length new.items, none)) g.room)) rest
          ] in
          let full : Extends size f.0 made [] (first ∷ taken) (Err error) x = grind
          (arith, stop, in_steps, one) in
          record {
            taken = taken;
            lower = f.0;
            last = e.last;
            yields = f.3;
            outcome = (inl e.outcome.0, inl (inr (made, x, new.capacity, new.growth, full)));
          }

-- a vector of items that were collected
pub ruleset gathered = (Collects-all, LacksRest-first)
