-- What a recycler reports of the blocks that it keeps.
use Rattle.std.specs.Prelude.{ℕ, ◌+◌, ◌-◌, ◌*◌, ◌^◌, min}
use Rattle.aa_allocators.specs.Racks.{class_size}
use Rattle.aa_allocators.specs.declared.recycler.Kept.{Kept}

-- `n`, or the greatest number of 64 bits
abbrev pub saturated : ℕ → ℕ
saturated n = min n (2 ^ 64 - 1)

-- the report `k` with `n` blocks more, of the class at `place`
abbrev pub with_blocks : Kept → ℕ → ℕ → Kept
with_blocks k place n = record {
  blocks = saturated (k.blocks + n);
  bytes = saturated (k.bytes + saturated (n * class_size place));
}
