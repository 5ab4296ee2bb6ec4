-- What contracts see of a `PeekMut`: the item that was taken out, and the borrowed heap of the others.
use Rattle.std.specs.Prelude.{◌≡◌, Bool, [], Option}
use Rattle.std.specs.Borrow.{Fml, GName, RattleType, MutBor, Lends, RestsIfNone}
use Rattle.std.specs.declared.alloc.Allocator as alloc
use Rattle.std.specs.declared.cmp.Ordering.{Ordering}
use mir.Syntax.{named}
use Rattle.allocator_api2.specs.Vector.{Vector}
use Rattle.aa_heap.specs.declared.peek.PeekMut.{PeekMut}
use Rattle.aa_heap.specs.contracts.heap.Heap as heap
use Rattle.aa_heap.specs.contracts.peek.PeekMut as guard

module _ {T A : Type 0} where
  -- the item of the guard `g`
  abbrev pub peeked : PeekMut T A → T
  peeked g = g.item

  -- the name of the reference to the heap of the guard `g`
  abbrev pub peek_lender : PeekMut T A → GName
  peek_lender g = g.heap.ghost_name

  -- the heap of the guard `g` while it is borrowed: all items but the one that was taken out
  abbrev pub peek_heap : PeekMut T A → Vector T A
  peek_heap g = g.heap.now

  -- the guard `g` with the item `x`
  abbrev pub with_item : PeekMut T A → T → PeekMut T A
  with_item g x = record { heap = g.heap; item = x }

-- equality and order of the items, as a clause names them `T.Ord`
abbrev pub OfItems : Type 0 → Type 0
OfItems T =
    record { partial_cmp : T → T → Option Ordering; eq : T → T → Bool; cmp : T → T → Ordering }

module _ (T A : RattleType) (o : OfItems T.Denot) (a : alloc.Ghosts A.Denot) where
  -- the heap that `m` borrows is unchanged if `r` is `None`; else the guard in `r` borrows it
  abbrev pub rests_if_empty : MutBor (Vector T.Denot A.Denot) → Option (PeekMut T.Denot A.Denot)
      → Fml
  rests_if_empty m r =
      RestsIfNone (heap.the_row T A (record { cmp = o.cmp }) (record { eq = o.eq })
      (record { partial_cmp = o.partial_cmp }) a) m peek_lender r (λ h. h ≡ m.now)

  -- the item of the guard `g` is the last one written through `r`
  abbrev pub lends_item : MutBor (PeekMut T.Denot A.Denot) → MutBor T.Denot → Fml
  lends_item g r =
      Lends (guard.the_row (record { mir = named 1; lft = [] }) T A (record { cmp = o.cmp })
      (record { eq = o.eq }) (record { partial_cmp = o.partial_cmp }) a) T g r (with_item g.now)
