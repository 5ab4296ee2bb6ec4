-- Items that are appended to a ring, one by one.
use Rattle.std.proofs.Common.{le-leb, ◌≡◌, ℕ, ◌-◌, ◌<◌, ◌≤◌, List, [], ◌∷◌, ◌++◌, Option, refl, sym, ap, ◌∙◌, arith, append_assoc, length, length-append}
use Rattle.std.proofs.lemmas.Bool.Decides.{nat_tests}
use Rattle.std.proofs.lemmas.List.{append-nil}
use Rattle.std.proofs.lemmas.List.Elements.{same_from_all_zip}
use Rattle.std.proofs.iter.runs.Consumers.{total_runs}
use Rattle.std.specs.Iterator.{Drains, Yields}
use Rattle.std.specs.Iterator.Runs.{WholeRun}
use Rattle.std.specs.Prelude.{Err, Ok, OnOk, Result}
use Rattle.allocator_api2.proofs.Blocks.{with_room as with_capacity}
use Rattle.aa_ring.specs.Extending.{pushed, pushed_all, HasExtended}
use Rattle.aa_ring.specs.Ringed.{Ringed, HasRoom, with_room}

module _ {T A : Type 0} (size : ℕ) where
  -- one more of them
  pub pushed_all-push : (r : Ringed T A) (xs : List T) (x : T) → pushed_all size r (xs ++ x ∷ []) ≡ pushed size (pushed_all size r xs) x
  pushed_all-push r [] x = refl
  pushed_all-push r (y ∷ xs) x = pushed_all-push (pushed size r y) xs x

  -- they are appended, in order
  pub items-pushed_all : (r : Ringed T A) (xs : List T) → (pushed_all size r xs).items ≡ r.items ++ xs
  items-pushed_all r [] = sym (append-nil r.items)
  items-pushed_all r (x ∷ xs) = items-pushed_all (pushed size r x) xs ∙ append_assoc r.items (x ∷ []) xs

  -- if m items fit, one fits and then fewer others
  pub room-pushed : (r : Ringed T A) (x : T) (m n : ℕ) → n < m → HasRoom r m → HasRoom (pushed size r x) n
  room-pushed r x m n fewer room = grind (arith, nat_tests, length-append r.items (x ∷ []))

  -- no capacity reserved
  pub with_none : (r : Ringed T A) → with_room size r 0 ≡ r
  with_none r = let fits : 0 ≤ r.capacity - length r.items = omega arith in rw (le-leb 0
      (r.capacity - length r.items) fits) refl

  -- what `Ring::extend` left, as the trait says it
  pub extended-all : (old : Ringed T A) (bound : ℕ) (xs : List T) (new : Ringed T A)
      → new ≡ pushed_all size (with_room size old bound) xs → HasExtended size old xs new
  extended-all old bound xs new e =
      record {
        items = ap (λ r. r.items) e
            ∙ items-pushed_all (with_room size old bound) xs;
        bound = bound;
        put = e;
      }

  pub extended-by-pushes : (old : Ringed T A) (xs : List T) (new : Ringed T A)
      → new ≡ pushed_all size old xs → HasExtended size old xs new
  extended-by-pushes old xs new e = extended-all old 0 xs new (e
      ∙ ap (λ r. pushed_all size r xs) (sym (with_none old)))

-- the items that were pushed, as one run
module _ {S T A E : Type 0} (size : ℕ) (steps : S → Option T → S → Type 0) (Gives : S → Type 0) where
  pub whole_run : (r : Result (Unit {0}) E) (s : S) (old mid new : Ringed T A) → Gives s → mid.items ≡ old.items
      → OnOk r ((xs : List T) × Drains steps s xs × (new ≡ pushed_all size mid xs))
      → OnOk r ((t : S) × Gives t × WholeRun steps t (λ p. new.items ≡ old.items ++ p.items))
  whole_run (Ok u) s old mid new given same d =
      let items = ap (λ r. r.items) d.2 ∙ items-pushed_all size mid d.0 ∙ ap (λ ys. ys ++ d.0) same in
      (s, given, total_runs steps s (Unit {0}) (λ xs. new.items ≡ old.items ++ xs) (d.0, λ _. d.1, items) tt)
  whole_run (Err e) s old mid new given same d = tt

-- the items without the last
pub front-yielded : {S X : Type 0} (steps : S → Option X → S
    → Type 0) (s : S) (xs : List X) (x : X) (t : S)
    → Yields steps s (xs ++ x ∷ []) t → (u : S) × Yields steps s xs u
front-yielded steps s [] x t y = (s, refl)
front-yielded steps s (z ∷ xs) x t y = let rest = front-yielded steps y.0 xs x t y.2 in (
  rest.0,
  (y.0, y.1, rest.1),
)

pub ruleset pushes = (pushed_all-push, items-pushed_all)

pub ruleset copied = (with_capacity, same_from_all_zip)
