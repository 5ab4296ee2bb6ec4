-- What is appended within reserved capacity.
use Rattle.std.proofs.Common.{◌≡◌, ℕ, ◌+◌, ◌-◌, ◌≤◌, List, ◌++◌, length, ap, ◌∙◌, arith, append_assoc, length-append}
use Rattle.allocator_api2.proofs.Callers.{callers}
use Rattle.allocator_api2.specs.Vector.{Vector, GrowsTo, Holds, HasRoom}

module _ {T A : Type 0} (size n : ℕ) (old mid : Vector T A) (made : GrowsTo size old n old.items mid) (next : Vector T A) (xs : List T) (first : Holds mid (mid.items ++ xs) next) where
  -- the second of two lists fits, if capacity for both was reserved
  pub HasRoom_second : (ys : List T) → n ≡ length xs + length ys → HasRoom next (length ys)
  HasRoom_second ys e =
      let left : n ≤ mid.capacity - length mid.items = search callers in
      omega (arith, e, left, first.block.capacity, ap length first.items, length-append mid.items xs)

  -- and both are there
  pub GrowsTo_both : (new : Vector T A) (ys zs : List T) → Holds next (next.items ++ ys) new → xs ++ ys ≡ zs → GrowsTo size old n (old.items ++ zs) new
  GrowsTo_both new ys zs second e = record {
    items = second.items ∙ ap (λ ws. ws ++ ys) (first.items ∙ ap (λ ws. ws ++ xs) made.items) ∙ append_assoc old.items xs ys ∙ ap (λ ws. old.items ++ ws) e;
    room = search (callers, made.room, first.block, second.block);
  }

pub ruleset rooms = (HasRoom_second, GrowsTo_both)
