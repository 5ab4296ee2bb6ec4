-- The fields of an `InlineVec`: what holds of them, and what contracts see.
use Rattle.std.specs.Prelude.{◌≡◌, ℕ}
use Rattle.allocator_api2.specs.declared.raw_vec.Growth.TheVariants.{Doubling}
use Rattle.aa_inline.specs.Inlined.{Inlined, block_of, in_place}
use Rattle.aa_inline.specs.declared.inline.Data.{Data}
use Rattle.aa_inline.specs.declared.inline.Data.TheVariants.{InPlace, InBlock}

module _ {T A : Type 0} {N : ℕ} where
  -- the model of a small vector with these items
  abbrev pub view_of : Data T A N → Inlined T A
  view_of (InPlace few alloc) = in_place few alloc
  view_of (InBlock heap) = block_of heap

  -- the block, if there is one, grows by doubling
  abbrev pub Doubles : Data T A N → Type 0
  Doubles (InPlace few alloc) = Unit {0}
  Doubles (InBlock heap) = heap.growth ≡ Doubling
