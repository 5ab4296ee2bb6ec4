-- Blocks with a word after them.
use Rattle.std.specs.Prelude.{ℕ, ◌+◌, ◌-◌, ◌^◌, ◌<◌, Bool, max}
use Rattle.std.specs.Int.{from_bool}
use mir.Syntax.{Ty, ty_int, w64}
use mir.Val.{vint}
use prog.Memory.{size, align}
use base.Fraction.{full_share}
use base.Fml.{Fml, ffalse, fsep, fex, fwand, fat, froom}
use denote.RawPtr.{Ptr, null_ptr, block_ptr}
use Rattle.aa_allocators.specs.Choices.{right_of}
use Rattle.aa_allocators.specs.Layers.{IsRequestedFor}

-- the alignment of a block with a word after it, in place of `a`
abbrev pub word_align : ℕ → ℕ
word_align a = max a 8

-- the type `σ` has the layout of a `τ` with a word after it
abbrev pub IsSuffixed : Ty → Ty → Type 0
IsSuffixed τ σ =
    IsRequestedFor (λ n a. n + word_align a) (λ _ a. word_align a) τ σ × (size σ < 2 ^ 63)

-- room for a word, `at` bytes after `p`
abbrev pub word_room : Ptr → ℕ → Fml
word_room null_ptr at = ffalse
word_room (block_ptr b o) at = froom (ty_int w64) b (at + o)

-- the word `w`, `at` bytes after `p`
abbrev pub word_at : ℕ → Ptr → ℕ → Fml
word_at w null_ptr at = ffalse
word_at w (block_ptr b o) at = fat full_share (ty_int w64) b (at + o) (vint w64 w)

-- the right to free a block for a `τ` at `p` with the word `w` after it, where `t` is the inner
-- allocator's right
abbrev pub suffixed_right : ℕ → (Ty → Ptr → Fml) → Ty → Ptr → Fml
suffixed_right w t τ null_ptr = ffalse
suffixed_right w t τ (block_ptr b o) = fex Ty (λ σ. fex (IsSuffixed τ σ) (λ _. fsep
    (fat full_share (ty_int w64) b (size σ - align σ + o) (vint w64 w)) (fsep
    (fwand (froom τ b o) (fwand (froom (ty_int w64) b (size σ - align σ + o)) (froom σ b o)))
    (t σ (block_ptr b o)))))

-- the right to free a block that the first of two allocators allocated, or else the second: the
-- word after it says which
abbrev pub fallback_right : (Ty → Ptr → Fml) → (Ty → Ptr → Fml) → Ty → Ptr → Fml
fallback_right t u τ p =
    fex Bool (λ first. suffixed_right (from_bool first) (right_of first t u) τ p)

-- the word after a guarded block
abbrev pub canary : ℕ
canary = 2 ^ 64 - 166
