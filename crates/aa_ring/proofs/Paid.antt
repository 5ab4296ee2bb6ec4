-- What growth moves is paid by the items that are put in.
use Rattle.std.proofs.Common.{◌≡◌, ℕ, ◌+◌, List, length, refl, arith}
use Rattle.std.proofs.lemmas.Bool.Decides.{nat_tests}
use Rattle.allocator_api2.specs.declared.raw_vec.Growth.{Growth}
use Rattle.allocator_api2.specs.declared.raw_vec.Growth.TheVariants.{Doubling, InPlace, Sparing}
use Rattle.aa_ring.specs.Paid.{IsPaid}
use Rattle.aa_ring.specs.Ringed.{Growths, Ringed, empty, with_room, with_written}

module _ {T A : Type 0} where
  pub IsPaid-empty : (size c : ℕ) (a : A) → IsPaid {T = T} 0 (empty size c Doubling a)
  IsPaid-empty size c a = record { doubles = refl; items = omega arith; fits = omega arith; moves = omega arith; within = omega arith }

  -- one more, at either end
  doubled : (size n : ℕ) (xs : List T) (items : List T) (c : ℕ) (g : Growth) (grown : Growths) (written : ℕ) (a : A) → g ≡ Doubling
      → let r : Ringed T A = record { items = items; capacity = c; growth = g; grown = grown; written = written; alloc = a } in IsPaid n r → length xs ≡ length items + 1 → IsPaid (n + 1) (with_written (with_room size r 1) xs 1)
  doubled size n xs items c Sparing grown written a e p more = cc
  doubled size n xs items c InPlace grown written a e p more = cc
  doubled size n xs items c Doubling grown written a e p more = record {
    doubles = refl;
    items = let few = p.items in omega (arith, more);
    fits = let fits = p.fits in grind (arith, nat_tests);
    moves = let few = p.items in let moves = p.moves in let within = p.within in grind (arith, nat_tests);
    within = let fits = p.fits in let within = p.within in grind (arith, nat_tests);
  }

  pub IsPaid-push : (size n : ℕ) (r : Ringed T A) (xs : List T) → IsPaid n r → length xs ≡ length r.items + 1 → IsPaid (n + 1) (with_written (with_room size r 1) xs 1)
  IsPaid-push size n r xs p more = doubled size n xs r.items r.capacity r.growth r.grown r.written r.alloc p.doubles p more

pub ruleset paid = (IsPaid-empty, IsPaid-push)
