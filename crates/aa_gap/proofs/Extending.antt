-- Items that are inserted into a gap buffer, one by one, and clones.
use Rattle.aa_gap.proofs.Common.{All, Buffer, Count, Drains, Err, Insert, List, Ok, OnOk, Option, Result, WholeRun, Yields, [], ap, append-nil, append_assoc, arith, cursor, drop, drop-append_seam, empty, fold, inl, inr, len, length, length-append, map, map-append, moved_to, nat_tests, put, refl, subst, sym, take, take-append_seam, with_edit, with_room, ℕ, ◌++◌, ◌+◌, ◌∙◌, ◌∷◌, ◌≡◌, ◌≤◌}
use Rattle.aa_gap.proofs.Pages.{Made, Made-more, Made-none}
use Rattle.aa_gap.specs.Extending.{HasInserted, Inserts, IsCopy, InsertsClones, ExtendFails}
use Rattle.aa_raw.specs.declared.collections.TryReserveError.{TryReserveError}
use Rattle.std.proofs.lemmas.List.Elements.{All-take, All-drop, length_all_zip, same_from_all_zip}
use Rattle.std.proofs.iter.runs.Consumers.{total_runs}

-- the items that came, as one run
module _ {S T E : Type 0} (steps : S → Option T → S → Type 0) (Gives : S → Type 0) where
  pub whole_run : (r : Result (Unit {0}) E) (s : S) (old mid new : List T) (R : Type 0)
      (Q : List T → Type 0) → Gives s → mid ≡ old
      → OnOk r ((xs : List T) × Drains steps s xs × (new ≡ mid ++ xs) × R × Q xs)
      → OnOk r ((t : S) × Gives t × WholeRun steps t (λ p. new ≡ old ++ p.items))
  whole_run (Ok u) s old mid new R Q given same d = (
    s,
    given,
    total_runs steps s (Unit {0}) (λ xs. new ≡ old ++ xs)
        (d.0, λ _. d.1, d.2 ∙ ap (λ ys. ys ++ d.0) same) tt,
  )
  whole_run (Err e) s old mid new R Q given same d = tt

module _ {T A : Type 0} (size : ℕ) where
  -- one more of them
  pub inserted-more : (old b new : Buffer T A) (xs : List T) (x : T)
      → Made size old (map Insert xs) b
      → new ≡ put (with_room size b 1) x → Made size old (map Insert (xs ++ x ∷ [])) new
  inserted-more old b new xs x made is =
      rw map-append (Made-more size old b new (map Insert xs) (Insert x) made is)

  -- they are before the cursor, in order, and what is after it is unchanged
  all_inserted : (b : Buffer T A) (xs : List T)
      → HasInserted b xs (fold (with_edit size) b (map Insert xs))
  all_inserted b [] = (sym (append-nil b.before), refl)
  all_inserted b (x ∷ xs) =
      let rest = all_inserted (with_edit size b (Insert x)) xs in
      (rest.0 ∙ append_assoc b.before (x ∷ []) xs, rest.1)

  pub HasInserted-made : (old new : Buffer T A) (xs : List T) → Inserts size old xs new
      → HasInserted old xs new
  HasInserted-made old new xs done = rw done.exact (all_inserted old xs)

pub ruleset inserts_items = (Made-none)

-- the first of the items that calls gave
pub Yields-front : {S T : Type 0} (steps : S → Option T → S → Type 0) (s u : S) (xs ys : List T)
    → Yields steps s (xs ++ ys) u → (t : S) × Yields steps s xs t
Yields-front steps s u [] ys y = (s, refl)
Yields-front steps s u (x ∷ xs) ys y =
    let rest = Yields-front steps y.0 u xs ys y.2 in (rest.0, (y.0, y.1, rest.1))

-- what holds of all elements of a text, of those before and after the cursor
module _ {X : Type 0} (P : X → Type 0) (xs ys : List X) (all : All P (xs ++ ys)) where
  pub All-before : All P xs
  All-before = rw take-append_seam at (All-take P (length xs) (xs ++ ys) all)

  pub All-after : All P ys
  All-after = rw drop-append_seam at (All-drop P (length xs) (xs ++ ys) all)

pub ruleset copied = (All-before, All-after, length-append, same_from_all_zip)

-- What `clone` makes: a text of clones, one after another, whose cursor is then moved to where it
-- is in the source.
module _ {T A : Type 0} (clones : T → T → Type 0) (size : ℕ) (b none mid all : Buffer T A)
    (first : InsertsClones clones none b.before mid)
    (second : InsertsClones clones mid b.after all) (a : A)
    (new : none ≡ empty size (len b) b.growth a) where
  abbrev copy : Buffer T A
  copy = moved_to all (cursor b)

  cloned : all ≡ record (empty size (len b) b.growth a) {
    before = first.added ++ second.added;
    written = 0 + length b.before + length b.after;
    runs = 0 + length b.before + length b.after;
  }
  cloned = second.parts ∙ rw (first.parts, new) refl

  long : cursor b ≡ length first.added
  long = length_all_zip clones b.before first.added first.each

  pub parts-made : (copy.before ≡ first.added) × (copy.after ≡ second.added)
  parts-made = rw (cloned, append-nil, long)
      (take-append_seam first.added second.added, drop-append_seam first.added second.added)

  pub IsCopy-made : IsCopy clones size b copy
  IsCopy-made =
      let p = parts-made in let before = rw (← p.0) at first.each in
      let after = rw (← p.1) at second.each in
      let all = length-append first.added second.added in
      let others = length_all_zip clones b.after second.added second.each in
      grind (arith, nat_tests, cloned, long, all, others, p.0, p.1, before, after)

-- items that were inserted before an error
module _ {S T A : Type 0} (steps : S → Option T → S → Type 0) (size : ℕ) (iter : S)
    (old new : Buffer T A) (e : TryReserveError) where
  abbrev Front : Type 0
  Front = (xs : List T) × ((new.before ≡ old.before ++ xs) × (new.after ≡ old.after))
      × ((t : S) × Yields steps iter xs t)

  pub extended-front : (left : S → Count) → ExtendFails steps left size iter old e new → Front
  extended-front left f = elim f.why [
    | inl w ↦
        let none = ap (λ b. b.before) w.1 ∙ sym (append-nil old.before) in
        ([], (none, ap (λ b. b.after) w.1), (iter, refl))
    | inr w ↦
        let parts = HasInserted-made size (with_room size old f.bound) new w.front w.done in
        (w.front, parts, Yields-front steps iter w.last w.front (w.item ∷ []) w.yields)
  ]
