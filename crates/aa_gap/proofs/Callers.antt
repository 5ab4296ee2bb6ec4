-- What a caller of the gap buffer closes its goals by,
-- `#[tactic(auto, using(aa_gap::proofs::Callers::callers))]`: how much growth has moved in a text
-- that began empty, and what memory it took.
use Rattle.aa_gap.proofs.Common.{Buffer, Doubling, Edit, Edits, FewBlocks, GrowsWithin, Growth, List, Sparing, ap, arith, empty, inserts, len, nat_tests, of_new, subst, ℕ, ◌*◌, ◌+◌, ◌-◌, ◌≡◌, ◌≤◌}
use Rattle.aa_gap.proofs.Pages.{most_held}

-- no memory is needed for no elements
no_memory : (size : ℕ) → ((of_new size 0).blocks ≡ 0) × ((of_new size 0).held ≡ 0)
no_memory size = grind (arith, nat_tests)

module _ {T A : Type 0} {size : ℕ} where
  -- each element was moved twice at most where the block doubles
  pub grown-doubling : (old new : Buffer T A) (edits : List (Edit T)) → old.growth ≡ Doubling
      → Edits size old edits new → new.grown.moved ≤ old.grown.moved + 2 * (len old + inserts edits)
  grown-doubling old new edits g c =
      let q : GrowsWithin Doubling old (inserts edits) new = subst
      (λ g. GrowsWithin g old (inserts edits) new) g c.grown in omega (arith, q.1)

  -- and three times where it grows sparingly
  pub grown-sparing : (old new : Buffer T A) (edits : List (Edit T)) → old.growth ≡ Sparing
      → Edits size old edits new → new.grown.moved ≤ old.grown.moved + 3 * (len old + inserts edits)
  grown-sparing old new edits g c =
      let q : GrowsWithin Sparing old (inserts edits) new = subst
      (λ g. GrowsWithin g old (inserts edits) new) g c.grown in omega (arith, q.1)

  -- in a new block the inserts pay for all
  pub grown-from_empty : (places : ℕ) (alloc : A) (old new : Buffer T A) (edits : List (Edit T))
      → old ≡ empty size places Doubling alloc → Edits size old edits new → new.grown.moved
      ≤ 2 * inserts edits
  grown-from_empty places alloc old new edits e c =
      omega (
        arith,
        grown-doubling old new edits (ap (λ b. b.growth) e) c,
        ap (λ b. b.grown.moved) e,
        ap len e,
      )

  pub grown-from_empty_sparing : (places : ℕ) (alloc : A) (old new : Buffer T A)
      (edits : List (Edit T)) → old ≡ empty size places Sparing alloc → Edits size old edits new
      → new.grown.moved ≤ 3 * inserts edits
  grown-from_empty_sparing places alloc old new edits e c =
      omega (
        arith,
        grown-sparing old new edits (ap (λ b. b.growth) e) c,
        ap (λ b. b.grown.moved) e,
        ap len e,
      )

  -- without a block at first, the inserts allocate few
  module _ (g : Growth) (alloc : A) (old new : Buffer T A) (edits : List (Edit T))
      (e : old ≡ empty size 0 g alloc) (c : Edits size old edits new) where
    longest : len old + inserts edits ≡ inserts edits
    longest = omega (arith, ap len e)

    few_blocks : FewBlocks g new.grown.blocks (inserts edits)
    few_blocks =
        let all : new.grown.blocks - old.grown.blocks
        ≡ new.grown.blocks = omega (arith, ap (λ b. b.grown.blocks) e, no_memory size) in
        rw (ap (λ b. b.growth) e, all, longest) at c.blocks

    few_held : new.grown.held ≤ most_held g (inserts edits)
    few_held = omega (
      arith,
      rw (ap (λ b. b.growth) e, longest) at c.held,
      ap (λ b. b.grown.held) e,
      no_memory size,
    )

  pub blocks-from_empty : (alloc : A) (old new : Buffer T A) (edits : List (Edit T)) → old
      ≡ empty size 0 Doubling alloc → Edits size old edits new
      → FewBlocks Doubling new.grown.blocks (inserts edits)
  blocks-from_empty = few_blocks Doubling

  pub blocks-from_empty_sparing : (alloc : A) (old new : Buffer T A) (edits : List (Edit T)) → old
      ≡ empty size 0 Sparing alloc → Edits size old edits new
      → FewBlocks Sparing new.grown.blocks (inserts edits)
  blocks-from_empty_sparing = few_blocks Sparing

  -- and few places are held at once
  pub held-from_empty : (alloc : A) (old new : Buffer T A) (edits : List (Edit T)) → old
      ≡ empty size 0 Doubling alloc → Edits size old edits new → new.grown.held
      ≤ most_held Doubling (inserts edits)
  held-from_empty = few_held Doubling

  pub held-from_empty_sparing : (alloc : A) (old new : Buffer T A) (edits : List (Edit T)) → old
      ≡ empty size 0 Sparing alloc → Edits size old edits new → new.grown.held
      ≤ most_held Sparing (inserts edits)
  held-from_empty_sparing = few_held Sparing

pub ruleset callers = (
  grown-doubling,
  grown-sparing,
  grown-from_empty,
  grown-from_empty_sparing,
  blocks-from_empty,
  blocks-from_empty_sparing,
  held-from_empty,
  held-from_empty_sparing,
)
