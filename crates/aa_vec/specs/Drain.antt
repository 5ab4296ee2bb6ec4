-- What contracts see of a `Drain`: the borrowed vector, and what remains of the range.
use Rattle.std.specs.Prelude.{◌≡◌, ℕ, ◌+◌, ◌-◌, List, [], ◌∷◌, ◌++◌, length, take, drop, slice_range, filter_map, Option, MatchOption}
use Rattle.std.specs.Borrow.{GName}
use Rattle.aa_vec.specs.Vector.{Vector, Becomes, run_count, moved_over}
use Rattle.aa_vec.specs.declared.vec.drain.Drain.{Drain}

module _ {T A : Type 0} where
  -- the name of the reference to the vector of the drain `d`
  abbrev pub drain_lender : Drain T A → GName
  drain_lender d = d.vec.ghost_name

  -- the vector of the drain `d` while it is borrowed: its items are those before the range
  abbrev pub drain_vec : Drain T A → Vector T A
  drain_vec d = d.vec.now

  -- the elements of the range that the drain `d` has not taken yet
  unfoldable pub drain_remaining : Drain T A → List T
  drain_remaining d = filter_map (λ c. c) (slice_range d.vec.now.spare d.front d.back)

  -- the elements after the range, which are in the places from `end` up to `total`
  abbrev pub drain_tail : Drain T A → List T
  drain_tail d = filter_map (λ c. c) (slice_range d.vec.now.spare d.end d.total)

  -- how many elements the range of the drain `d` had
  abbrev pub range_len : Drain T A → ℕ
  range_len d = d.end

  -- how many of them were taken from the front
  abbrev pub taken_front : Drain T A → ℕ
  taken_front d = d.front

  -- how many of them were taken from the back
  abbrev pub taken_back : Drain T A → ℕ
  taken_back d = d.end - d.back

  -- the drain `d` takes the elements from the index `a` up to `b` out of `old`, and none was taken
  -- yet
  pub record TakesRange (old : Vector T A) (a b : ℕ) (d : Drain T A) : Type 0 where
    pub becomes : Becomes old (take a old.items) 0 0 (drain_vec d)
    pub rest : drain_remaining d ≡ slice_range old.items a b
    pub tail : drain_tail d ≡ drop b old.items
    pub range : range_len d ≡ b - a
    pub none_front : taken_front d ≡ 0
    pub none_back : taken_back d ≡ 0

  -- the drain `new` has the range and the vector of `old`, but for what remains of the range
  pub record DrainKeeps (old new : Drain T A) : Type 0 where
    pub lender : drain_lender new ≡ drain_lender old
    pub becomes : Becomes (drain_vec old) (drain_vec old).items 0 0 (drain_vec new)
    pub tail : drain_tail new ≡ drain_tail old
    pub range : range_len new ≡ range_len old

  -- `r` was taken from the front of the drain `s`, which is then `t`, or none remained
  abbrev pub drains_first : Drain T A → Option T → Drain T A → Type 0
  drains_first s r t =
      DrainKeeps s t
      × MatchOption r ((drain_remaining s ≡ []) × (t ≡ s))
      (λ x. (drain_remaining s ≡ x ∷ drain_remaining t) × (taken_front t ≡ taken_front s + 1)
      × (taken_back t ≡ taken_back s))

  -- the same from the back
  abbrev pub drains_last : Drain T A → Option T → Drain T A → Type 0
  drains_last s r t =
      DrainKeeps s t
      × MatchOption r ((drain_remaining s ≡ []) × (t ≡ s))
      (λ x. (drain_remaining s ≡ drain_remaining t ++ x ∷ []) × (taken_front t ≡ taken_front s)
      × (taken_back t ≡ taken_back s + 1))

  -- `new` has what is before the range and what is after it; the latter was moved, in one run, if
  -- the range had any element
  abbrev pub Closes : Drain T A → (new : Vector T A) → Type 0
  Closes d new =
      let moved = moved_over (range_len d) (length (drain_tail d)) in
      Becomes (drain_vec d) ((drain_vec d).items ++ drain_tail d) moved (run_count moved) new

  -- `new` has what is before the range, what remains of it, and what is after it. The second was
  -- moved, in one run, if an item was taken from the front, and the third if any was taken
  abbrev pub KeepsRest : Drain T A → (new : Vector T A) → Type 0
  KeepsRest d new =
      let rest = moved_over (taken_front d) (length (drain_remaining d)) in
      let tail = moved_over (taken_front d + taken_back d) (length (drain_tail d)) in
      Becomes (drain_vec d) ((drain_vec d).items ++ (drain_remaining d ++ drain_tail d))
      (rest + tail) (run_count rest + run_count tail) new
