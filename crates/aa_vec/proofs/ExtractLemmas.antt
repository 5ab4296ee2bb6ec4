-- Calls that take elements out of a range.
use Rattle.aa_vec.proofs.Common.{Bool, ClosesExtract, ClosesTwoGaps, ExtractBy, Extracts, ExtractsRange, HasTail, KeepsWhen, List, MayCallInOrder, MutBor, Option, Picks, SetsTail, Vector, [], ap, arith, drop, false, len, length, length-append, not, re_v, refl, rules, run, run-zero, sym, tail_items, take-append-drop, zero-add, ℕ, ◌++◌, ◌+◌, ◌-◌, ◌∙◌, ◌∷◌, ◌≡◌, ◌≤◌}
use Rattle.aa_vec.specs.Drain.{drain_remaining}
use Rattle.aa_vec.specs.Extract.{extract_kept, extract_tail, extract_remaining}
use Rattle.aa_vec.proofs.TailLemmas.{still_tail, still_are, part_tail, later_part}
use Rattle.aa_vec.proofs.DrainLemmas.{range_held, range_drains}
use Rattle.aa_vec.proofs.ExtractRuns.{asked_parts}
use Rattle.aa_vec.proofs.Gaps.{further}
use Rattle.aa_vec.proofs.Tails.{count, first_are}

module _ {F T : Type 0} (Calls : F → T → Bool → F → T → Type 0) (Takes : F → T → Type 0) where
  -- a closure that may be called may be called for either result
  pub may_spare : (f : F) (xs : List T) → MayCallInOrder Calls Takes f xs
      → MayCallInOrder (KeepsWhen false Calls) Takes f xs
  may_spare f [] may = tt
  may_spare f (x ∷ xs) may =
      (may.0, λ stays next y a. may_spare next xs (may.1 (not stays) next y a))

-- a range is taken, between the two ends that `bounds_of` returned, and the closure was not called
-- yet
module _ {T A : Type 0} {old new : Vector T A} {p : ℕ × ℕ} {s e : ℕ} {Known : Type 0} (total : ℕ)
    (same : p ≡ (s, e)) (known : (s ≤ e) × (e ≤ len old) × Known) (count : p.0 + total ≡ len old)
    (sets : SetsTail old p.0 new) where
  pub range_extracts : (lent : MutBor (Vector T A))
      (ordered : (0 ≤ 0) × (0 ≤ p.1 - p.0) × (p.1 - p.0 ≤ total))
      (held : HasTail new 0 0 × HasTail new 0 (total - 0))
      → ExtractsRange old s e
      (record {
        vec = re_v new lent;
        kept = 0;
        front = 0;
        end = p.1 - p.0;
        total = total;
        ordered = ordered;
        held = held;
      })
  unfolding extract_kept extract_remaining extract_tail drain_remaining run
  range_extracts lent ordered held =
      let takes = range_drains total same known count sets lent
      (omega arith, omega arith, ordered.2) (range_held total same known count sets) in
      search (rules, sets, takes, run-zero (drop 0 new.spare) 0)

module _ {T A : Type 0} (e : ExtractBy T A) where
  -- what remains of the range, and what is after it
  pub rest_stand : HasTail e.vec.now e.front (e.end - e.front)
  rest_stand = part_tail e.vec.now e.front (e.total - e.front) e.held.1 e.front (e.end - e.front)
      (omega arith) (omega (arith, e.ordered))

  pub rest_count : length (extract_remaining e) ≡ e.end - e.front
  unfolding extract_remaining run
  rest_count = count e.vec.now e.front (e.end - e.front) rest_stand

  module _ {F : Type 0} (Calls : F → T → Bool → F → T → Type 0) (f : F) (stay next : ℕ)
      (item : Option T) (g : F) (new : Vector T A)
      (picks : Picks Calls f e.vec.now e.kept e.front e.end stay next item g new) where
    pub picked_held : HasTail new 0 (e.kept + stay) × HasTail new next (e.total - next)
    picked_held = (
      picks.has_tail,
      still_tail e.vec.now new next next (e.total - next)
          (part_tail e.vec.now e.front (e.total - e.front) e.held.1 next (e.total - next)
          (omega (arith, picks.within)) (omega (arith, picks.within, e.ordered)))
          (omega (
            arith,
            e.held.1.0,
            ap len picks.becomes,
            ap (λ v. v.capacity) picks.becomes,
            picks.within,
            e.ordered,
          )) picks.above,
    )

    pub picked_extracts : (ordered : (e.kept + stay ≤ next) × (next ≤ e.end) × (e.end ≤ e.total))
        (held : HasTail new 0 (e.kept + stay) × HasTail new next (e.total - next))
        → Extracts Calls f e item g
        (record {
          vec = re_v new e.vec;
          kept = e.kept + stay;
          front = next;
          end = e.end;
          total = e.total;
          ordered = ordered;
          held = held;
        })
    unfolding extract_kept extract_remaining extract_tail run
    picked_extracts ordered held =
        let many : next ≡ e.front + length picks.calls = picks.counts.1 in
        grind (
          arith,
          picks.called,
          asked_parts picks.calls,
          still_are e.vec.now new next next
              (e.end - next) picks.above,
          later_part e.vec.now e.front (length picks.calls)
              (e.end - e.front) (e.end - next) (omega (arith, many, picks.within)) rest_stand,
          still_are e.vec.now new e.end e.end (e.total - e.end)
              (further new.spare e.vec.now.spare next next e.end e.end
              (omega (arith, picks.within)) refl picks.above),
        )

  -- the untested elements and what is after the range are side by side
  closed_parts : tail_items e.vec.now e.front (e.total - e.front) ≡ extract_remaining e
      ++ extract_tail e
  unfolding extract_remaining extract_tail run
  closed_parts =
      let v = e.vec.now in let few : ℕ = e.end - e.front in let total : ℕ = e.total - e.front in
      let there : e.front + few ≡ e.end = omega (arith, e.ordered) in
      cc (
        take-append-drop few (tail_items v e.front total),
        first_are v e.front total e.held.1 few
            (omega (arith, e.ordered)),
        later_part v e.front few total (e.total - e.end)
            (omega (arith, e.ordered)) e.held.1,
        there,
      )

  pub closes_extract : (w : Vector T A)
      → ClosesTwoGaps e.vec.now 0 e.kept e.front (e.total - e.front) w → ClosesExtract e w
  unfolding extract_kept extract_remaining extract_tail run
  closes_extract w closes =
      let front : List T = tail_items e.vec.now e.front (e.end - e.front) in
      let tail : List T = tail_items e.vec.now e.end (e.total - e.end) in
      let moved : length front + length tail ≡ e.total - e.front = sym (length-append front tail)
      ∙ sym (ap length closed_parts) ∙ count e.vec.now e.front (e.total - e.front) e.held.1 in
      rw (moved, ← closed_parts) (simp zero-add at closes)

-- a call that tested some of them
pub ruleset picked = (rest_stand, picked_extracts)
