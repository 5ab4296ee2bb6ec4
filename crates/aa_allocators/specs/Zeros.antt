-- Bytes of zero, and blocks that are zeroed.
use Rattle.std.specs.Prelude.{ℕ, zero, suc, ◌+◌, ◌^◌, ◌<◌}
use mir.Syntax.{Ty, ty_int, ty_array, w8}
use mir.Val.{vint}
use prog.Memory.{size}
use base.Fraction.{full_share}
use base.Fml.{Fml, ffalse, ftrue, fsep, fex, fat, froom}
use denote.RawPtr.{Ptr, null_ptr, block_ptr}

-- room for `n` bytes at `p`
abbrev pub bytes_room : Ptr → ℕ → Fml
bytes_room null_ptr n = ffalse
bytes_room (block_ptr b o) n = froom (ty_array (ty_int w8) n) b o

-- `n` bytes from the offset `o` on, each of which is zero
abbrev pub zeros : (n b o : ℕ) → Fml
zeros zero b o = ftrue
zeros (suc n) b o = fsep (zeros n b o) (fat full_share (ty_int w8) b (n + o) (vint w8 0))

-- `n` bytes at `p`, each of which is zero
abbrev pub zeros_at : Ptr → ℕ → Fml
zeros_at null_ptr n = ffalse
zeros_at (block_ptr b o) n = zeros n b o

-- the right to free a block for a `τ` at `p`, where `t` is the inner allocator's: a block has at
-- most `isize::MAX` bytes
abbrev pub counted_right : (Ty → Ptr → Fml) → Ty → Ptr → Fml
counted_right t τ p = fex (size τ < 2 ^ 63) (λ _. t τ p)
