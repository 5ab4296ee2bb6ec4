-- Capacity that the block reserved for a vector.
use Rattle.aa_vec.proofs.Common.{Becomes, Block, Inside, IsFront, IsRun, IsRun-reserved, Reserves, Some, Vector, [], amortized, ap, arith, if◌then◌else◌, insert, len, length, length-inserted, length-run, length-set, min_capacity, moved, nat_tests, refl, run, run-inserted, run-put, run-reserved, run_count, slice_set, vector_in, view_of, with_room, with_written, ℕ, ◌++◌, ◌+◌, ◌-◌, ◌==◌, ◌∙◌, ◌∷◌, ◌≡◌, ◌≤◌}
use Rattle.aa_vec.proofs.Becoming.{Becomes-grows}
use Rattle.aa_vec.proofs.GrowthLemmas.{MakesRoom}

module _ {T A : Type 0} (size : ℕ) (old : Inside T A) (front : IsFront old) (k : ℕ)
    (b : Block T A) where
  -- the vector has the capacity that its block reserved
  pub MakesRoom-block : Reserves size old.block old.len k
      (amortized old.block.growth (length old.block.places) (old.len + k) (min_capacity size)) b
      → (new : Vector T A) → new.capacity ≡ length b.places → new.growth ≡ b.growth → new.grown
      ≡ b.grown → new.alloc ≡ b.alloc → MakesRoom size (view_of old) (len (view_of old)) k new
  MakesRoom-block made new c h g a = grind (arith, nat_tests, length-run)

-- capacity for one more, and one more element in it
pub Becomes-put : {T A : Type 0} (size : ℕ) (old : Inside T A) (front : IsFront old) (b : Block T A)
    (x : T)
    → Reserves size old.block old.len 1
    (amortized old.block.growth (length old.block.places) (old.len + 1) (min_capacity size)) b
    → Becomes (with_room size (view_of old) (len (view_of old)) 1)
    (run old.block.places 0 old.len ++ x ∷ []) 1 1
    (vector_in (with_written b (slice_set b.places old.len (Some x)) 1) (old.len + 1))
Becomes-put {T} {A} size old front b x made =
    let items = run-put b.places old.len x (omega (arith, made.room))
    ∙ ap (λ xs. xs ++ x ∷ []) (run-reserved size old.block old.len 1 _ b made) in
    let room = MakesRoom-block size old front 1 b made _ (length-set b.places old.len (Some x)) refl
    refl refl in
    Becomes-grows _ _ _ _ _ size 1 (record { items = items; room = room })
    (omega (arith, made.written, made.runs))

-- and in the middle, after which the elements are moved up
pub Becomes-inserted : {T A : Type 0} (size : ℕ) (old : Inside T A) (front : IsFront old)
    (b : Block T A) (i : ℕ) (x : T) → i ≤ len (view_of old)
    → Reserves size old.block old.len 1
    (amortized old.block.growth (length old.block.places) (old.len + 1) (min_capacity size)) b
    → Becomes (with_room size (view_of old) (len (view_of old)) 1)
    (insert (run old.block.places 0 old.len) i x) (len (view_of old) - i + 1)
    (run_count (len (view_of old) - i) + 1)
    (vector_in (with_written
    (with_written b (moved b.places i (i + 1) (old.len - i))
    (if i == i + 1 then 0 else old.len - i))
    (slice_set (moved b.places i (i + 1) (old.len - i)) i (Some x)) 1) (old.len + 1))
Becomes-inserted size old front b i x asked made =
    let kept : IsRun b.places 0 old.len = IsRun-reserved size old.block old.len 1 _ b made front in
    let within : i ≤ old.len = omega (arith, asked, length-run old.block.places 0 old.len front) in
    grind (
      arith,
      nat_tests,
      length-run old.block.places 0 old.len front,
      run-inserted b.places old.len kept i x within (omega (arith, made.room)),
      run-reserved size old.block old.len 1 _ b made,
      length-inserted b.places old.len kept i x within (omega (arith, made.room)),
      MakesRoom-block size old front 1 b made,
      Becomes-grows,
    )

-- an element in capacity that was reserved for it
pub ruleset placed_in_room = (Becomes-put, Becomes-inserted)
