-- Splices by an `Items`, whose lower bound is a function of how many items remain, and splices of a
-- vector in the same block.
use Rattle.aa_vec.proofs.Common.{◌≡◌, ℕ, ◌+◌, ◌-◌, ◌*◌, ◌≤◌, List, [], ◌++◌, length, append_assoc, refl, sym, ap, ◌∙◌, subst, arith, inl, inr, length-append, append-nil, TryReserveError, Vector, SameBlock, LacksRoom, RemainingItems, takes_item, lower_bound_of, LowerExactly, Takes, Option, None, Ok, Err, Gapped, tail_moves, ⊤, gapped, Extends, Result, SplicesAll, SplicesFront, SpliceFails}
use Rattle.aa_vec.proofs.GrowthLemmas.{MakesRoom-same, MakesRoomTwice-same, SameBlock-refl, SameBlock-trans}
use Rattle.aa_vec.proofs.Gathered.{LacksOthers-yields}
use Rattle.aa_vec.proofs.Counted.{items_lower, items-rest, items-yields, items-all, Extends-yields}

-- a vector that ends before the range
abbrev pub cut_off : {T A : Type 0} → Vector T A → (gap : ℕ) → (tail : List T) → Gapped T A
cut_off v gap tail = gapped v v.items gap tail

-- the two outcomes of a splice
module _ {S T : Type 0} (steps : S → Option T → S → Type 0) (LowerIs : S → ℕ → Type 0) {A : Type 0}
    (size : ℕ) (iter : S) (old : Gapped T A) where
  abbrev pub SplicesByAll : Vector T A → Type 0
  SplicesByAll new = Takes steps LowerIs iter (λ lower xs last.
      ((end : S) × steps last None end) × SplicesAll size lower old xs new
      × (new.written ≡ old.block.written
      + (length xs + tail_moves old.gap (lower (length xs - old.gap))
      (length xs) * length old.tail)))

  abbrev pub SplicesByFront : (fails : Type 0) → TryReserveError → Vector T A → Type 0
  SplicesByFront fails error new =
      Takes steps LowerIs iter
      (λ lower xs last. SpliceFails size lower old xs fails ((end : S) × steps last None end) error
      new)

-- an extension of a vector is one of another in the same block
pub Extends-same : {T A : Type 0} {size : ℕ} {lower : ℕ → ℕ} {u v : Vector T A}
    (b : SameBlock u v) {head taken : List T} (r : Result Unit TryReserveError) {new : Vector T A}
    → Extends size lower v head taken r new → Extends size lower u head taken r new
Extends-same {size = size} {lower} b {head} {taken} (Ok tt) {new} =
    Extends-yields size lower lower b head taken [] (λ k _. ap lower (omega arith)) taken
    (sym (append-nil taken)) (Ok tt) refl new
Extends-same {size = size} {lower} b {head} {taken} (Err e) {new} =
    Extends-yields size lower lower b head taken [] (λ k _. ap lower (omega arith)) taken
    (sym (append-nil taken)) (Err e) tt new

-- another function has the same bounds for `taken`, after which `more` remains; and the vector was
-- another in the same block
module _ {T A : Type 0} (size : ℕ) (lower by : ℕ → ℕ) {u v : Vector T A} (b : SameBlock u v)
    (head : List T) (gap : ℕ) (tail taken more : List T)
    (same : (k : ℕ) → k ≤ length taken → lower k ≡ by (k + length more)) (new : Vector T A) where
  SplicesAll-yields : more ≡ [] → SplicesAll size lower (gapped v head gap tail) taken new
      → SplicesAll size by (gapped u head gap tail) taken new
  SplicesAll-yields none s =
      grind (arith, Extends-yields, append-nil, SameBlock-trans, MakesRoomTwice-same)

  -- of what was taken a beginning was placed
  module _ (all : List T) (e : all ≡ taken ++ more)
      (error : TryReserveError) {fails fails' whole whole' : Type 0} (f : fails → fails')
      (w : whole → whole') (none : whole → more ≡ []) where
    front_yields : SplicesFront size lower (gapped v head gap tail) taken fails whole error new
        → SplicesFront size by (gapped u head gap tail) all fails' whole' error new
    front_yields s =
        let count : length taken ≡ length s.front + length s.others = ap length s.begins
        ∙ length-append s.front s.others in
        let yields : gap ≤ length taken → lower (length taken - gap) ≡ by (length all - gap) =
        λ h. same (length taken - gap) (omega arith)
        ∙ ap by (omega (arith, h, ap length e, length-append taken more)) in
        let n : ℕ = length head + gap + length tail in
        record {
          front = s.front;
          others = s.others ++ more;
          begins = e ∙ ap (λ ys. ys ++ more) s.begins ∙ append_assoc s.front s.others more;
          items = s.items;
          why = elim s.why [
            | inl h ↦ inl (
              h.0,
              SameBlock-trans b h.1,
              subst (λ k. LacksRoom size new k error)
                  (yields (omega (arith, h.0, count))) h.2,
            )
            | inr h ↦
                let is = yields (omega (arith, h.0, count)) in
                inr (
                  omega (arith, h.0, is),
                  rw (← is) (MakesRoom-same size n (lower (length taken - gap)) b h.1),
                  omega (arith, h.2, length-append s.others more),
                  LacksOthers-yields size lower by s.others h.2 more
                      (λ k l. same k (omega (arith, l, count))) error _ _ _ _ f w none new h.3,
                )
          ];
        }

    SpliceFails-yields : SpliceFails size lower (gapped v head gap tail) taken fails whole error new
        → SpliceFails size by (gapped u head gap tail) all fails' whole' error new
    SpliceFails-yields (inl p) =
        inl (
          p.0,
          Extends-yields size lower by b head taken more (λ k h. same k (omega (arith, h)))
              all e (Err error) tt new p.1,
        )
    SpliceFails-yields (inr p) = inr (p.0, front_yields p.1)

-- splices by an `Items`
module _ {T : Type 0} (iter : RemainingItems T) {A : Type 0} (size : ℕ) (old : Vector T A) (gap : ℕ)
    (tail : List T) where
  module _ (new : Vector T A)
      (s : SplicesByAll takes_item (LowerExactly items_lower) size iter (cut_off old gap tail) new)
    where
      abbrev none : s.last.items ≡ []
      none = s.outcome.0.1.0.0

      pub SplicesAll-items : SplicesAll size (lower_bound_of iter.hint)
          (cut_off old gap tail) iter.items new
      SplicesAll-items =
          rw (← items-all s.lower iter s.taken s.last s.yields none)
          (SplicesAll-yields size s.lower (lower_bound_of iter.hint)
          (SameBlock-refl old) old.items gap tail s.taken s.last.items
          (items-yields s.lower iter s.taken s.last s.yields) new none s.outcome.1)

      pub items-written : new.written
          ≡ old.written + (length iter.items + tail_moves gap
          (lower_bound_of iter.hint (length iter.items - gap)) (length iter.items) * length tail)
      items-written =
          let yields = items-yields s.lower iter s.taken s.last s.yields (length s.taken - gap)
          (omega arith) in
          rw (← items-all s.lower iter s.taken s.last s.yields none)
          (grind (arith, yields, s.outcome.2, ap length none))

  pub SpliceFails-items : {fails : Type 0} → (error : TryReserveError) (new : Vector T A)
      → SplicesByFront takes_item (LowerExactly items_lower) size iter
      (cut_off old gap tail) fails error new
      → SpliceFails size (lower_bound_of iter.hint) (cut_off old gap tail) iter.items fails ⊤ error
      new
  SpliceFails-items error new s =
      SpliceFails-yields size s.lower (lower_bound_of iter.hint) (SameBlock-refl old) old.items gap
      tail s.taken s.last.items (items-yields s.lower iter s.taken s.last s.yields) new
      iter.items
      (items-rest s.lower iter s.taken s.last s.yields) error (λ f. f) (λ _. tt)
      (λ h. h.1.0.0) s.outcome

-- a splice of v is one of u, in the same block
module _ {T A : Type 0} (size : ℕ) (lower : ℕ → ℕ) {u v : Vector T A} (b : SameBlock u v)
    (head : List T) (gap : ℕ) (tail added : List T) where
  pub SplicesAll-from : (new : Vector T A)
      → SplicesAll size lower (gapped v head gap tail) added new
      → SplicesAll size lower (gapped u head gap tail) added new
  SplicesAll-from new = SplicesAll-yields size lower lower b head gap tail added []
      (λ k _. ap lower (omega arith)) new refl

  pub SpliceFails-from : {fails whole : Type 0} → (error : TryReserveError) (new : Vector T A)
      → SpliceFails size lower (gapped v head gap tail) added fails whole error new
      → SpliceFails size lower (gapped u head gap tail) added fails whole error new
  SpliceFails-from error new = SpliceFails-yields size lower lower b head gap tail added []
      (λ k _. ap lower (omega arith)) new added (sym (append-nil added)) error (λ f. f) (λ w. w)
      (λ _. refl)
