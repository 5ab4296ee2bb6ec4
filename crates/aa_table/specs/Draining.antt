-- What contracts see of a `Drain`: the borrowed table, which has the entries that remain.
use Rattle.std.specs.Prelude.{◌≡◌, List, [], ◌∷◌, Option, MatchOption, IsPermutation}
use Rattle.std.specs.Borrow.{GName}
use Rattle.aa_table.specs.Contents.{TableView}
use Rattle.aa_table.specs.declared.table.drain.Drain.{Drain}

module _ {K V S A H : Type 0} where
  -- the name of the reference to the table of the drain `d`
  abbrev pub drain_lender : Drain K V S A H → GName
  drain_lender d = d.table.ghost_name

  -- the table of the drain `d` while it is borrowed: its entries are those that remain
  abbrev pub drain_table : Drain K V S A H → TableView K V S
  drain_table d = d.table.now

  -- the entries that remain
  abbrev pub drain_remaining : Drain K V S A H → List (K × V)
  drain_remaining d = d.table.now.entries

  -- `r` was removed from the table of the drain `d`, which is then `e`, or none remained; only the
  -- order of the others may change
  pub record DrainsEntry (d : Drain K V S A H) (r : Option (K × V))
      (e : Drain K V S A H) : Type 0 where
    pub lender : drain_lender e ≡ drain_lender d
    pub capacity : (drain_table e).capacity ≡ (drain_table d).capacity
    pub resizes : (drain_table e).resizes ≡ (drain_table d).resizes
    pub builder : (drain_table e).builder ≡ (drain_table d).builder
    pub entries : MatchOption r ((drain_remaining d ≡ []) × (drain_remaining e ≡ []))
        (λ x. IsPermutation (drain_remaining d) (x ∷ drain_remaining e))
