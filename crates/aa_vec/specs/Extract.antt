-- What contracts see of elements that a closure removes from a range: the borrowed vector, the kept
-- elements, the untested ones, and what is after the range.
use Rattle.std.specs.Prelude.{◌≡◌, ℕ, ◌+◌, ◌-◌, ◌≤◌, Bool, List, [], ◌∷◌, ◌++◌, length, take, drop, slice_range, filter_map, Option, MatchOption}
use Rattle.std.specs.Borrow.{GName}
use Rattle.std.specs.Iterator.{Yields}
use Rattle.aa_vec.specs.Choosing.{Call, CalledInOrder, EndsTrue, kept, passed_over}
use Rattle.aa_vec.specs.Vector.{Vector, Becomes, run_count, moved_over}
use Rattle.aa_vec.specs.declared.vec.extract_if.ExtractBy.{ExtractBy}
use Rattle.aa_vec.specs.declared.vec.extract_if.ExtractIf.{ExtractIf}

module _ {T A : Type 0} where
  -- the name of the reference to the vector of `e`
  abbrev pub extract_lender : ExtractBy T A → GName
  extract_lender e = e.vec.ghost_name

  -- the vector of `e` while it is borrowed: its items are those before the range
  abbrev pub extract_vec : ExtractBy T A → Vector T A
  extract_vec e = e.vec.now

  -- how many elements `e` has removed
  abbrev pub extract_count : ExtractBy T A → ℕ
  extract_count e = e.front - e.kept

  -- the elements of the range for which the closure was called and that are kept
  unfoldable pub extract_kept : ExtractBy T A → List T
  extract_kept e = filter_map (λ c. c) (take e.kept e.vec.now.spare)

  -- the elements of the range for which the closure was not called yet
  unfoldable pub extract_remaining : ExtractBy T A → List T
  extract_remaining e = filter_map (λ c. c) (slice_range e.vec.now.spare e.front e.end)

  -- the elements after the range
  unfoldable pub extract_tail : ExtractBy T A → List T
  extract_tail e = filter_map (λ c. c) (slice_range e.vec.now.spare e.end e.total)

  -- `e` removes elements from the index `a` up to `b` of `old`, and the closure was not called yet
  pub record ExtractsRange (old : Vector T A) (a b : ℕ) (e : ExtractBy T A) : Type 0 where
    pub becomes : Becomes old (take a old.items) 0 0 (extract_vec e)
    pub kept : extract_kept e ≡ []
    pub rest : extract_remaining e ≡ slice_range old.items a b
    pub tail : extract_tail e ≡ drop b old.items
    pub none : extract_count e ≡ 0

  -- `new` has what is before the range, the kept and the untested elements of it, and what is after
  -- it. The last two were moved, in one run, if an element was removed
  abbrev pub ClosesExtract : ExtractBy T A → (new : Vector T A) → Type 0
  ClosesExtract e new =
      let others = length (extract_remaining e) + length (extract_tail e) in
      let moved = moved_over (extract_count e) others in
      Becomes (extract_vec e)
      ((extract_vec e).items ++ (extract_kept e ++ (extract_remaining e ++ extract_tail e)))
      moved (run_count moved) new

module _ {F T : Type 0} (Calls : F → T → Bool → F → T → Type 0) where
  -- `t` is `s` after one call of `next`. The closure was called for untested elements, in order, up
  -- to the first for which it returned `true`, which is removed as it was left. Those for which it
  -- returned `false` are kept as they were left. All else is unchanged
  pub record Extracts {A : Type 0} (f : F) (s : ExtractBy T A) (r : Option T) (g : F)
      (t : ExtractBy T A) : Type 0 where
    pub calls : List (Call T)
    pub called : CalledInOrder Calls f (take (length calls) (extract_remaining s)) calls g
    pub cases : MatchOption r ((kept calls ≡ []) × (extract_remaining t ≡ []))
        (λ x. (kept calls ≡ x ∷ []) × EndsTrue calls)
    pub count : extract_count t ≡ extract_count s + length (kept calls)
    pub kept : extract_kept t ≡ extract_kept s ++ passed_over calls
    pub rest : extract_remaining t ≡ drop (length calls) (extract_remaining s)
    pub lender : extract_lender t ≡ extract_lender s
    pub tail : extract_tail t ≡ extract_tail s
    pub becomes : let moved = moved_over (extract_count s) (length (passed_over calls)) in
        Becomes (extract_vec s) (extract_vec s).items moved (run_count moved) (extract_vec t)

  -- `t` is `s` after calls of `next`. The closure was called for untested elements, in order. `xs`
  -- are those for which it returned `true`, as they were left, and the others are kept as they were
  -- left. All else is unchanged, and each kept element was written at most once
  pub record Extracted {A : Type 0} (f : F) (s : ExtractBy T A) (xs : List T) (g : F)
      (t : ExtractBy T A) : Type 0 where
    pub calls : List (Call T)
    pub called : CalledInOrder Calls f (take (length calls) (extract_remaining s)) calls g
    pub items : xs ≡ kept calls
    pub kept : extract_kept t ≡ extract_kept s ++ passed_over calls
    pub rest : extract_remaining t ≡ drop (length calls) (extract_remaining s)
    pub lender : extract_lender t ≡ extract_lender s
    pub tail : extract_tail t ≡ extract_tail s
    pub count : extract_count t ≡ extract_count s + length xs
    pub moved : ℕ
    pub runs : ℕ
    pub few : moved ≤ length (passed_over calls)
    pub becomes : Becomes (extract_vec s) (extract_vec s).items moved runs (extract_vec t)

  -- that holds of each state that calls of `next` from `s` lead to, as long as they return items;
  -- the closure was called for no element after the last removed one. Each call but the first moved
  -- at most one run
  pub record ExtractsAlong {A : Type 0} (s : ExtractIf T F A) : Type 0 where
    pub along : (xs : List T) (later : ExtractIf T F A)
        → Yields (λ u r t. Extracts u.f u.by r t.f t.by) s xs later
        → (e : Extracted s.f s.by xs later.f later.by) × EndsTrue e.calls
        × (let was = extract_vec s.by in let is = extract_vec later.by in
        is.runs + (extract_count s.by - 1) ≤ was.runs + (extract_count later.by - 1))
