-- The final state of a table after a mutable borrow of a value through one of its entries has ended.
use Rattle.std.specs.Prelude.{◌≡◌, Result}
use Rattle.std.specs.Borrow.{Fml, RattleType, MutBor, Lends, LendsSoOk}
use Rattle.std.specs.declared.alloc.Allocator as alloc
use Rattle.std.specs.declared.cmp.PartialEq as eq
use Rattle.std.specs.declared.hash.Hash as hash
use Rattle.std.specs.declared.hash.Hasher as hasher
use Rattle.std.specs.declared.hash.BuildHasher as builder
use Rattle.aa_table.specs.Entry.{entry_table, with_value, Writes}
use Rattle.aa_table.specs.contracts.table.Table.{the_row}
use Rattle.aa_table.specs.declared.table.entry.Entry.{Entry}
use Rattle.aa_table.specs.declared.table.entry.OccupiedEntry.{OccupiedEntry}

module _ (K V S A H : RattleType) {g : eq.Ghosts K.Denot} {h : hash.Ghosts K.Denot}
    {b : builder.Ghosts S.Denot H.Denot} {w : hasher.Ghosts H.Denot} (a : alloc.Ghosts A.Denot) where
  -- the final state of the table of the entry `e`: its key has the last value written through `r`, or
  -- the table is unchanged if `r` is an error
  abbrev pub lends_entry : {E : Type 0} → Entry K.Denot V.Denot S.Denot A.Denot H.Denot g h b w
      → Result (MutBor V.Denot) E → Fml
  lends_entry e r =
      LendsSoOk (the_row K V S A H g h b w a) V (entry_table e) r (λ u x. Writes e x u)
      (λ u. u ≡ (entry_table e).now)

  -- the final state of the table of the occupied entry `o`: its key has the last value written
  -- through `r`
  abbrev pub lends_occupied : OccupiedEntry K.Denot V.Denot S.Denot A.Denot H.Denot g h b w
      → MutBor V.Denot → Fml
  lends_occupied o r =
      Lends (the_row K V S A H g h b w a) V o.table r (with_value g.eq o.table.now o.key)
