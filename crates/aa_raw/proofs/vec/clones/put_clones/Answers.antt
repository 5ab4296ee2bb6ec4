use Rattle.aa_raw.proofs.{AllZip-push, HoldsClones, List, Option, Some, [], ap, arith, length, length-append, length-set, length-take-le, run, slice_set, subst, sym, take, take_at_read, ◌++◌, ◌+◌, ◌<◌, ◌∙◌, ◌∷◌, ◌≡◌}
use Rattle.aa_raw.proofs.Calls.{IsRun-put, run-put}
use Rattle.aa_raw.proofs.vec.clones.put_clones.Goals as goal

-- Clones of elements written into the first places of a block, one after another.
module _ {X : Type 0} (clones : X → X → Type 0) (places : List (Option X)) where
  one-cloned : (xs : List X) (x y : X) → length xs < length places → clones x y
      → HoldsClones clones xs places
      → HoldsClones clones (xs ++ x ∷ []) (slice_set places (length xs) (Some y))
  one-cloned xs x y room c p =
      let more = length-append xs (x ∷ []) in
      record {
        filled = rw more (IsRun-put places (length xs) y room p.filled);
        each =
            rw (more, run-put places (length xs) y room)
            (AllZip-push clones xs (run places 0 (length xs)) x y p.each c);
      }

pub each-preserved : goal.each-preserved
each-preserved g c =
    let i = c.each.put in let places = c.each.block.places in let xs = c.args.source.now in
    let x = c.index-source-put.result in let y = c.in-Ok.copy in let clones = g.T.Clone.is_clone in
    let inv = c.each.invariant in
    let long : length (take i xs) ≡ i = length-take-le i xs (omega (arith, c.each-test.true)) in
    let next : take (i + 1) xs ≡ take i xs ++ x ∷ [] = (take_at_read xs i x c.each-test.true).1
    ∙ ap (λ z. take i xs ++ z ∷ []) (sym c.index-source-put.is) in
    record {
      clones =
          rw (c.put.ensures, next)
          (subst (λ k. HoldsClones clones (take i xs ++ x ∷ []) (slice_set places k (Some y)))
          long
          (one-cloned clones places (take i xs) x y
          (omega (arith, long, inv.long, c.requires.room, c.each-test.true))
          c.in-Ok.ensures.cases inv.clones));
      long = ap (λ b. length b.places) c.put.ensures ∙ length-set places i (Some y) ∙ inv.long;
      grown = ap (λ b. b.grown) c.put.ensures ∙ inv.grown;
      written = omega (arith, ap (λ b. b.written) c.put.ensures, inv.written);
      runs = omega (arith, ap (λ b. b.runs) c.put.ensures, inv.runs);
      alloc = ap (λ b. b.alloc) c.put.ensures ∙ inv.alloc;
    }
