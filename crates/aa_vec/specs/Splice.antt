-- What contracts see of a `Splice`: the range, as a `Drain` has it, and the iterator whose items
-- replace it.
use Rattle.std.specs.Prelude.{◌≡◌, slice_range, filter_map, Option}
use Rattle.std.specs.declared.iter.Iterator.{Ghosts}
use Rattle.aa_vec.specs.Drain.{drains_first, drains_last}
use Rattle.aa_vec.specs.SpliceItems.{Gapped}
use Rattle.aa_vec.specs.declared.vec.drain.Drain.{Drain}
use Rattle.aa_vec.specs.declared.vec.splice.Splice.{Splice}

module _ {I A T : Type 0} {g : Ghosts I T} where
  -- the range of the splice `s`, as a drain of it
  abbrev pub splice_range : Splice I A T g → Drain T A
  splice_range s = record {
    vec = s.vec;
    front = s.front;
    back = s.back;
    end = s.end;
    total = s.total;
    ordered = s.ordered;
    held = s.held;
  }

  -- the iterator whose items replace the range
  abbrev pub splice_iter : Splice I A T g → I
  splice_iter s = s.iter

  -- the vector without the range: the elements before it, which are the items of the vector, how
  -- many places the range had, and the elements after it, in the places from `end` up to `total`
  abbrev pub splice_gap : Splice I A T g → Gapped T A
  splice_gap s =
      record {
        block = s.vec.now;
        head = s.vec.now.items;
        gap = s.end;
        tail = filter_map (λ c. c) (slice_range s.vec.now.spare s.end s.total);
      }

  -- `r` was taken from the front of the range of the splice `s`, which is then `t`, or none
  -- remained
  abbrev pub splices_first : Splice I A T g → Option T → Splice I A T g → Type 0
  splices_first s r t =
      drains_first (splice_range s) r (splice_range t) × (splice_iter t ≡ splice_iter s)

  -- the same from the back
  abbrev pub splices_last : Splice I A T g → Option T → Splice I A T g → Type 0
  splices_last s r t =
      drains_last (splice_range s) r (splice_range t) × (splice_iter t ≡ splice_iter s)
