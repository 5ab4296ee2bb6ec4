-- The model of an `IntoIter`: its remaining items, and the block that holds them.
use Rattle.std.specs.Prelude.{◌≡◌, ℕ, List, [], ◌∷◌, ◌++◌, length, Option, MatchOption}
use Rattle.aa_raw.specs.Block.{Block, Growths}

-- the model of an iterator over a block: its remaining items, and the capacity, the counters and
-- the allocator of the block
pub record Remaining (X A : Type 0) : Type 0 where
  pub items : List X
  pub capacity : ℕ
  -- what the block's memory has cost, the number of elements written into places, and of calls
  -- that wrote any
  pub grown : Growths
  pub written : ℕ
  pub runs : ℕ
  pub alloc : A

module _ {X A : Type 0} where
  -- an iterator over the block `b` with the remaining items `xs`
  abbrev pub remaining_in : Block X A → List X → Remaining X A
  remaining_in b xs =
      record {
        items = xs;
        capacity = length b.places;
        grown = b.grown;
        written = b.written;
        runs = b.runs;
        alloc = b.alloc;
      }

  -- the iterator `s` with the remaining items `xs`, in the same block
  abbrev pub with_items : Remaining X A → List X → Remaining X A
  with_items s xs =
      record {
        items = xs;
        capacity = s.capacity;
        grown = s.grown;
        written = s.written;
        runs = s.runs;
        alloc = s.alloc;
      }

  -- `r` is the first item of `s`, and `t` is `s` without it; or `s` has no items and is unchanged
  abbrev pub takes_first : Remaining X A → Option X → Remaining X A → Type 0
  takes_first s r t =
      MatchOption r ((s.items ≡ []) × (t ≡ s)) (λ x. (s.items ≡ x ∷ t.items)
      × (t ≡ with_items s t.items))

  -- `r` is the last item of `s`, and `t` is `s` without it; or `s` has no items and is unchanged
  abbrev pub takes_last : Remaining X A → Option X → Remaining X A → Type 0
  takes_last s r t = MatchOption r ((s.items ≡ []) × (t ≡ s))
      (λ x. (s.items ≡ t.items ++ x ∷ []) × (t ≡ with_items s t.items))
