-- The remaining items of an iterator over the places of a table.
use Rattle.std.specs.Prelude.{◌≡◌, ℕ, ◌-◌, ◌≤◌, List, Option, None, length, get_or}
use Rattle.allocator_api2.specs.Places.{run}
use Rattle.aa_table.specs.Places.{AreHeldBetween}
use Rattle.aa_table.specs.Slots.{tag_at}
use Rattle.aa_table.specs.Walks.{IsWalk}
use Rattle.aa_table.specs.declared.walk.Walk.{Walk}

module _ {K V : Type 0} where
  -- the entries in the places `cs` from `from` on and before `end`
  abbrev pub remaining_in : List (Option (K × V)) → (from end : ℕ) → List (K × V)
  remaining_in cs from end = run cs from (end - from)

  -- the slots that the walk `w` has not passed, before `end`, have `left` entries, one for each tag
  -- in `ts`
  pub record IsRemaining (ts : List ℕ) (cs : List (Option (K × V))) (w : Walk)
      (end left : ℕ) : Type 0 where
    pub walk : IsWalk ts w
    pub within : end ≤ length ts
    pub places : end ≤ length cs
    pub held : AreHeldBetween ts cs w.from end
    pub free : (s : ℕ) → tag_at ts s ≡ 0 → get_or cs s None ≡ None
    pub count : left ≡ length (remaining_in cs w.from end)
