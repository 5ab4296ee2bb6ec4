-- Which layout a layer requests in place of another.
use Rattle.std.specs.Prelude.{◌≡◌, ℕ, ◌-◌, ◌^◌, ◌⊎◌, min}
use Rattle.std.specs.Int.{next_multiple_of}
use Rattle.std.specs.Allocator.{HasLayout}
use mir.Syntax.{Ty}
use prog.Memory.{size, align, capped}
use base.Fml.{Fml, fsep, fex, fwand}
use denote.RawPtr.{Ptr, room_for}

-- the alignments that a type can have
abbrev pub IsAlignment : ℕ → Type 0
IsAlignment a = (a ≡ 1) ⊎ (a ≡ 2) ⊎ (a ≡ 4) ⊎ (a ≡ 8) ⊎ (a ≡ 16)

-- what is requested for a layer's size `n` at alignment `a`: the next multiple of `a`, or
-- `usize::MAX` if that is larger
abbrev pub padded : ℕ → ℕ → ℕ
padded n a = min (next_multiple_of n a) (2 ^ 64 - 1)

-- the type `σ` has the layout that is requested in place of that of `τ`
abbrev pub IsRequestedFor : (size_for align_for : ℕ → ℕ → ℕ) → Ty → Ty → Type 0
IsRequestedFor size_for align_for τ σ =
    let n = capped (size τ) in let a = capped (align τ) in
    HasLayout σ (padded (size_for n a) (align_for n a)) (align_for n a)

-- the right to free a block for a `τ` at `p`, where `t` is the inner allocator's right: that of the
-- block which was requested, and the way from room for a `τ` to the whole room
abbrev pub layered_right :
    (size_for align_for : ℕ → ℕ → ℕ) → (Ty → Ptr → Fml) → Ty → Ptr → Fml
layered_right size_for align_for t τ p =
    fex Ty (λ σ. fex (IsRequestedFor size_for align_for τ σ) (λ _.
    fsep (fwand (room_for τ p) (room_for σ p)) (t σ p)))
