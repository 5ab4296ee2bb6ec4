-- What a caller of the vector closes its goals by: its spare capacity, calls in one block one after
-- another, and closures whose results depend on the elements alone.
use Rattle.aa_vec.proofs.Common.{◌≡◌, ℕ, zero, suc, ◌-◌, ◌<◌, ◌≤◌, Bool, true, false, List, [], ◌∷◌, ◌++◌, length, take, replicate, refl, sym, ap, ◌∙◌, arith, inl, inr, filter, ◌==◌, if◌then◌else◌, Result, Ok, Err, OnOk, FoldsTo, usize_max, Retains, kept, MayCallTimes, AppendsResults, Becomes, Vector, len, new_capacity, GrowsTo, HasRoom, Holds, cases_lt, append-nil, map-id, take_all, take-nil}
use Rattle.aa_vec.proofs.Becoming.{became}
use Rattle.aa_vec.proofs.Callable.{IsCallableInOrder-any, IsCallableAlong-any}
use Rattle.aa_vec.proofs.GrowthLemmas.{MakesRoom-has, SameBlock-trans}
use Rattle.aa_vec.proofs.PureTests.{asked-steady, asked-reading, kept-steady}

-- new capacity for n elements is at least n
pub sized_room : (size n : ℕ) → n ≤ usize_max → n ≤ new_capacity size n
sized_room size n h =
    elim (size == 0) as (λ b. n ≤ (if b then usize_max else n)) [ true ↦ h | false ↦ omega arith ]

module _ {T A : Type 0} where
  -- the capacity that was reserved is there
  pub HasRoom_grown : (size k : ℕ) (old new : Vector T A) → GrowsTo size old k old.items new
      → HasRoom new k
  HasRoom_grown size k old new p = rw p.items (MakesRoom-has size (len old) k old new p.room)

  -- two calls in one block
  pub Holds_then : (old mid new : Vector T A) (xs ys : List T) → Holds old xs mid → Holds mid ys new
      → Holds old ys new
  Holds_then old mid new xs ys p q =
      record { items = q.items; block = SameBlock-trans p.block q.block }

module _ {F T : Type 0} (step : F → T → F → Type 0) where
  -- a closure that may always be called
  pub MayCallTimes_any : (takes : F → Type 0) (k : ℕ) (f : F) → ((g : F) → takes g)
      → MayCallTimes takes step k f
  MayCallTimes_any takes zero f any = tt
  MayCallTimes_any takes (suc k) f any = (any f, λ y g s. MayCallTimes_any takes k g any)

  -- its results, call after call
  pub all_same : (x : T) (f : F) (ys : List T) (last : F)
      → ((f : F) (y : T) (g : F) → step f y g → y ≡ x) → FoldsTo step f ys last → ys
      ≡ replicate (length ys) x
  all_same x f [] last is h = refl
  all_same x f (y ∷ ys) last is h = λ i. is f y h.0 h.1 i ∷ all_same x h.0 ys last is h.2 i

  -- one that always returns x
  pub AddsAnswers_same : {A : Type 0} (k : ℕ) (x : T) (f g : F) (old new : Vector T A)
      → AppendsResults step old k f g new → ((f : F) (y : T) (g : F) → step f y g → y ≡ x)
      → new.items ≡ old.items ++ replicate k x
  AddsAnswers_same k x f g old new made is = ap (λ v. v.items) made.becomes
      ∙ ap (λ ys. old.items ++ ys)
      (all_same x f made.results g is made.calls ∙ ap (λ n. replicate n x) made.count)

  module _ {A : Type 0} (n : ℕ) (x : T) (f : F) (old roomy new : Vector T A) where
    -- a vector that is filled up with it to n elements, in reserved capacity, or else truncated
    pub filled_up : {E : Type 0} (r : Result Unit E)
        → OnOk r (len old < n → (last : F) × AppendsResults step roomy (n - len old) f last new)
        → (n ≤ len old → Becomes old (take n old.items) 0 0 new)
        → roomy.items ≡ old.items → ((f : F) (y : T) (g : F) → step f y g → y ≡ x)
        → OnOk r (new.items ≡ take n old.items ++ replicate (n - len old) x)
    filled_up (Err e) fills cut has is = tt
    filled_up (Ok u) fills cut has is = elim (cases_lt (len old) n) [
      | inl l ↦ AddsAnswers_same (n - len old) x f (fills l).0 roomy new (fills l).1 is
          ∙ ap (λ ys. ys ++ replicate (n - len old) x)
          (has ∙ sym (take_all n old.items (omega (arith, l))))
      | inr l ↦ ap (λ v. v.items) (cut l) ∙ sym (append-nil (take n old.items))
          ∙ ap (λ k. take n old.items ++ replicate k x)
          (let z : 0 ≡ n - len old = omega (arith, l) in z)
    ]

    -- and one that had none has so many of it
    pub filled_new : {E : Type 0} (r : Result Unit E) (u : Unit {0})
        → OnOk r (len old < n → (last : F) × AppendsResults step roomy (n - len old) f last new)
        → (n ≤ len old → Becomes old (take n old.items) 0 0 new)
        → r ≡ Ok u → old.items ≡ [] → roomy.items ≡ old.items
        → ((f : F) (y : T) (g : F) → step f y g → y ≡ x) → new.items ≡ replicate n x
    filled_new {E} r u fills cut done none has is = grind (arith, filled_up, take-nil)

-- a test that leaves each element as it was
module _ {F T A : Type 0} (Calls : F → T → Bool → F → T → Type 0) where
  pub Retains_filter : (test : T → Bool) (f : F) (old : Vector T A) (g : F) (new : Vector T A)
      → Retains Calls f old g new
      → ((f : F) (x : T) (answer : Bool) (g : F) (y : T) → Calls f x answer g y → (answer ≡ test x)
      × (y ≡ x)) → new.items ≡ filter test old.items
  Retains_filter test f old g new r steady =
      ap (λ v. v.items) r.becomes
      ∙ ap kept (asked-steady Calls test (λ x. x) steady f old.items r.calls g r.called)
      ∙ kept-steady test (λ x. x) old.items ∙ map-id (filter test old.items)

  -- and of a closure that only reads what it holds, such as one that compares with a key
  pub Retains_filter_reading : (test : T → Bool) (f : F) (old : Vector T A) (g : F)
      (new : Vector T A) → Retains Calls f old g new
      → ((x : T) (answer : Bool) (g : F) (y : T) → Calls f x answer g y → (answer ≡ test x)
      × (y ≡ x) × (g ≡ f)) → new.items ≡ filter test old.items
  Retains_filter_reading test f old g new r reads =
      ap (λ v. v.items) r.becomes
      ∙ ap kept (asked-reading Calls test f reads old.items r.calls g r.called)
      ∙ kept-steady test (λ x. x) old.items ∙ map-id (filter test old.items)

pub ruleset callers = (
  became,
  sized_room,
  HasRoom_grown,
  SameBlock-trans,
  Holds_then,
  IsCallableInOrder-any,
  IsCallableAlong-any,
  MayCallTimes_any,
  AddsAnswers_same,
  filled_up,
  filled_new,
  Retains_filter,
  Retains_filter_reading,
)
