-- What a shelf owns: free blocks of n bytes at alignment a, each of which points to the next. t is
-- the inner allocator's right to free a block.
use Rattle.std.specs.Prelude.{◌≡◌, ℕ, zero, suc, ◌%◌, ◌^◌, ◌<◌, ◌≤◌, Bool, true, false}
use mir.Syntax.{Ty, ty_ptr}
use prog.Memory.{size, align}
use base.Fraction.{full_share}
use base.Fml.{Fml, ftrue, fsep, fex, fwand, fat, froom}
use denote.RawPtr.{Ptr, block_ptr, ptr_val}
use Rattle.std.specs.Allocator.{owned_block}
pub use Rattle.aa_watched.specs.Cells.{holds_at, seen_by_one}

-- blocks of `n` bytes at alignment `a` can be kept: each has room for one or more pointers, and for
-- nothing else
abbrev pub IsKept : ℕ → ℕ → Type 0
IsKept n a = (8 ≤ n) × (n % 8 ≡ 0) × (n < 2 ^ 63) × (a % 8 ≡ 0)

-- the type `τ` has `n` bytes and alignment `a`
abbrev pub HasSizeAndAlign : Ty → ℕ → ℕ → Type 0
HasSizeAndAlign τ n a = (size τ ≡ n) × (align τ ≡ a)

module _ (t : Ty → Ptr → Fml) where
  -- the right to free a block for a `τ` at `p`: it was allocated for a type of the same layout
  abbrev pub right_to : Ty → Ptr → Fml
  right_to τ p = fex Ty (λ σ. fex ((size σ ≡ size τ) × (align σ ≡ align τ)) (λ _. t σ p))

  module _ (n a : ℕ) where
    -- a free block at the place `at`: a pointer `next` to the next one, its other bytes, and the
    -- right to free it
    abbrev pub free_block : ℕ × ℕ → Ptr → Fml
    free_block at next =
        fex Ty (λ σ. fex (HasSizeAndAlign σ n a) (λ _. fsep
        (fat full_share ty_ptr at.0 at.1 (ptr_val next))
        (fsep (fwand (froom ty_ptr at.0 at.1) (froom σ at.0 at.1)) (t σ (block_ptr at.0 at.1)))))

    -- a list of `k` free blocks, the first of them at `p`
    abbrev pub stack : (k : ℕ) → Ptr → Fml
    stack zero p = ftrue
    stack (suc k) p =
        fex (ℕ × ℕ) (λ at. fex (p ≡ block_ptr at.0 at.1) (λ _.
        fex Ptr (λ next. fsep (free_block at next) (stack k next))))

    -- a list of `k` free blocks at `p`, of a layout that can be kept
    abbrev pub kept_blocks : (k : ℕ) → Ptr → Fml
    kept_blocks k p = fex (IsKept n a) (λ _. stack k p)

-- nothing if the block at `p` was put on the shelf, and else the block, for a `τ`
abbrev pub block_unless : Bool → (Ty → Ptr → Fml) → Ty → Ptr → Fml
block_unless true right τ p = ftrue
block_unless false right τ p = owned_block right τ p
