-- Steps of a drain.
use Rattle.std.proofs.Common.{◌≡◌, ℕ, ◌<◌, List, [], ◌∷◌, ◌++◌, length, get_or, refl, ap, ◌∙◌, subst, sym, arith, length-append, Option, Some, None, MatchOption, IfNone}
use Rattle.std.specs.Iterator.{Yields}
use Rattle.std.specs.Iterator.Runs.{YieldsInOrder}
use Rattle.std.proofs.iter.runs.Sources.{from_front, as_is}
use Rattle.std.proofs.lemmas.List.{get_or_append_left}
use Rattle.core.specs.declared.cmp.Ordering.{Ordering}
use Rattle.std_alloc.specs.BinaryHeap.{IsHeap, lt_by_cmp}
use Rattle.allocator_api2.specs.Vector.{Vector}
use Rattle.aa_heap.specs.Drain.{drain_remaining, DrainKeeps, drains_next}
use Rattle.aa_heap.specs.declared.drain.Drain.{Drain}

-- a heap without its last item
pub heap-front : {X : Type 0} (R : X → X → Ordering) (xs ys : List X) (y : X) → xs ≡ ys ++ y ∷ []
    → IsHeap R xs → IsHeap R ys
unfolding IsHeap
heap-front R xs ys y e h = λ p k d lo a b f.
    let same : (i : ℕ) → i < length ys → get_or ys i d ≡ get_or xs i d =
    λ i less. sym (ap (λ l. get_or l i d) e ∙ get_or_append_left ys (y ∷ []) d i less) in
    let long = ap length e ∙ length-append ys (y ∷ []) in
    (λ j. lt_by_cmp R (same p (omega arith) j) (same k f j)) ∙ h p k d lo a b (omega arith)

pub popped-last : {X A : Type 0} (R : X → X → Ordering) (r : Option X) (old new : Vector X A)
    → MatchOption r (old.items ≡ []) (λ y. old.items ≡ new.items ++ y ∷ []) → IfNone r (new ≡ old)
    → IsHeap R old.items → IsHeap R new.items
popped-last R None old new e same h = subst (λ v. IsHeap R v.items) (sym same) h
popped-last R (Some y) old new e same h = heap-front R old.items new.items y e h

module _ {T A : Type 0} where
  -- nothing else is changed along the calls
  keeps-same : (d : Drain T A) → DrainKeeps d d
  keeps-same d = record {
    lender = refl;
    block = record
        { capacity = refl; growth = refl; grown = refl; alloc = refl };
    written = refl;
    runs = refl;
  }

  keeps-then : (d e f : Drain T A) → DrainKeeps d e → DrainKeeps e f → DrainKeeps d f
  keeps-then d e f h k = record {
    lender = k.lender ∙ h.lender;
    block = record {
      capacity = k.block.capacity ∙ h.block.capacity;
      growth = k.block.growth ∙ h.block.growth;
      grown = k.block.grown ∙ h.block.grown;
      alloc = k.block.alloc ∙ h.block.alloc;
    };
    written = k.written ∙ h.written;
    runs = k.runs ∙ h.runs;
  }

  pub keeps-along : (d : Drain T A) (xs : List T) (later : Drain T A)
      → Yields drains_next d xs later → DrainKeeps d later
  keeps-along d [] later y = subst (DrainKeeps d) y (keeps-same d)
  keeps-along d (x ∷ xs) later y = keeps-then d y.0 later y.1.0 (keeps-along y.0 xs later y.2)

  -- what calls of `next` return
  pub runs-in_order : YieldsInOrder (drains_next {T = T} {A = A}) drain_remaining
  runs-in_order p s = as_is p (drain_remaining p.from)
      (from_front (drains_next {T = T} {A = A}) (λ x. x) drain_remaining
      (λ d e h. ap length h.1.0) (λ d x e h. h.1) p s)

pub ruleset drains = (keeps-along, runs-in_order)
