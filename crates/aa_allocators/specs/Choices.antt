-- Whose a block is, if two allocators are chosen from by the layout of a request.
use Rattle.std.specs.Prelude.{ℕ, Bool, true, false}
use mir.Syntax.{Ty}
use prog.Memory.{size, align, capped}
use base.Fml.{Fml}
use denote.RawPtr.{Ptr}

-- the first of two rights to free a block if `b` is true, and else the second
abbrev pub right_of : (b : Bool) → (Ty → Ptr → Fml) → (Ty → Ptr → Fml) → Ty → Ptr → Fml
right_of true t u = t
right_of false t u = u

-- the right to free a block for a `τ` at `p`: that of the allocator which `is_first` chooses by the
-- layout of `τ`
abbrev pub chosen_right :
    (is_first : ℕ → ℕ → Bool) → (Ty → Ptr → Fml) → (Ty → Ptr → Fml) → Ty → Ptr → Fml
chosen_right is_first t u τ p = right_of (is_first (capped (size τ)) (capped (align τ))) t u τ p
