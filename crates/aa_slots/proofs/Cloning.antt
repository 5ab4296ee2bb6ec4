-- A clone of the slots: the same list of free ones, and the same keys.
use Rattle.aa_slots.proofs.Common.{AreClones, AreHeld, Chain, Free, Held, IsSound, List, Option, Some, State, [], ap, arith, is_some, length, refl, seen, suc, sym, ℕ, ⊤, ◌∙◌, ◌∷◌, ◌≡◌, ◌≤◌}
use Rattle.aa_slots.proofs.Seen.{count-held, seen-same}
use Rattle.std.specs.List.{AllZip}
use Rattle.allocator_api2.specs.Clones.{ClonesAreEqual}
use Rattle.aa_slots.specs.Slotted.{IsClonedSlot}

module _ {T : Type 0} {C : T → T → Type 0} where
  pub clones-held : (ss : List State) (cs ds : List (Option (⊤ × T))) → AreClones C ss cs ds → AreHeld ss ds
  clones-held ss cs ds h i a = let f = h i a in ap is_some f.3

  pub each-cloned : (ss : List State) (cs ds : List (Option (⊤ × T))) → AreClones C ss cs ds
      → AllZip (IsClonedSlot C) (seen ss cs) (seen ss ds)
  each-cloned [] cs ds h = tt
  each-cloned (Free next ∷ ss) [] [] h = (refl, each-cloned ss [] [] (λ i. h (suc i)))
  each-cloned (Free next ∷ ss) [] (d ∷ ds) h = (refl, each-cloned ss [] ds (λ i. h (suc i)))
  each-cloned (Free next ∷ ss) (c ∷ cs) [] h = (refl, each-cloned ss cs [] (λ i. h (suc i)))
  each-cloned (Free next ∷ ss) (c ∷ cs) (d ∷ ds) h = (refl, each-cloned ss cs ds (λ i. h (suc i)))
  each-cloned (Held serial ∷ ss) [] ds h = absurd (let f = (h 0 refl).2 in cc)
  each-cloned (Held serial ∷ ss) (c ∷ cs) [] h = absurd (let f = (h 0 refl).3 in cc)
  each-cloned (Held serial ∷ ss) (c ∷ cs) (d ∷ ds) h =
      let f = h 0 refl in
      (rw (f.2, f.3) (f.1, refl, f.4), each-cloned ss cs ds (λ i. h (suc i)))

  pub same-cloned : ClonesAreEqual C → (ss : List State) (cs ds : List (Option (⊤ × T)))
      → AreClones C ss cs ds → seen ss ds ≡ seen ss cs
  same-cloned equal ss cs ds h = seen-same ss ds cs (λ i a. let f = h i a in f.3 ∙ ap (λ x. Some (tt, x)) (equal f.0 f.1 f.4) ∙ sym f.2)

  pub sound-cloned : (ss : List State) (cs ds : List (Option (⊤ × T))) (free : Chain) (capacity : ℕ)
      → IsSound ss cs free capacity → AreClones C ss cs ds → length ss ≤ length ds
      → IsSound ss ds free (length ss)
  sound-cloned ss cs ds free capacity sound h room = record {
    chain = sound.chain;
    first = sound.first;
    counted = omega (arith, sound.counted, count-held ss cs sound.held, count-held ss ds (clones-held ss cs ds h));
    held = clones-held ss cs ds h;
    within = omega arith;
    room = room;
  }
