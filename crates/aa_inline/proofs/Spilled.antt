-- What a small vector is once its items were moved into a block.
use Rattle.std.proofs.Common.{◌≡◌, ℕ, ◌+◌, true, List, ◌++◌, length, ap, ◌∙◌, arith}
use Rattle.std.proofs.lemmas.Bool.Decides.{nat_tests}
use Rattle.allocator_api2.proofs.Callers.{became}
use Rattle.allocator_api2.specs.Vector as Vectors
use Rattle.allocator_api2.specs.Vector.{Vector, len, GrowsTo, IsNew, SameBlock, Writes, Becomes}
use Rattle.aa_inline.specs.Inlined.{block_of, in_block, in_place}

-- the inline items were moved into a new block with capacity for `needed`
pub spilled : {T A : Type 0} (size needed : ℕ) (few : List T) (a : A) (new roomy poured : Vector T A)
    → IsNew size 0 a new → Becomes (Vectors.with_room size new (len new) needed) new.items 0 0 roomy
    → poured.items ≡ roomy.items ++ few → SameBlock roomy poured → Writes roomy (length few) (length few) poured
    → block_of poured ≡ in_block size needed (in_place few a)
unfolding in_block
spilled size needed few a new roomy poured none made items block writes =
    let grows : GrowsTo size new needed new.items roomy = search became in
    let reserved : Writes new 0 0 roomy = search became in
    let room = grows.room in let long = ap length none.items in let there = in_block size needed (in_place few a) in
    let capacity : roomy.capacity ≡ there.block = grind (arith, nat_tests, room, long, none.growth, none.capacity) in
    let grown : roomy.grown ≡ there.grown =
    grind (arith, nat_tests, room, long, none.growth, none.capacity, none.grown) in
    let written : poured.written ≡ 0 + length few = omega (arith, reserved.written, writes.written, none.written) in
    λ i. record {
      items = (items ∙ ap (λ ys. ys ++ few) (grows.items ∙ none.items)) i;
      spilled = true;
      block = (block.capacity ∙ capacity) i;
      grown = (block.grown ∙ grown) i;
      written = written i;
      alloc = (block.alloc ∙ room.alloc ∙ none.alloc) i;
    }
