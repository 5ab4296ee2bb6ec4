use Rattle.std.proofs.Common.{◌≡◌, ◌<◌, ◌+◌, ◌-◌, length}
use Rattle.aa_raw.specs.EntriesMut.{borrow_name, places_left}
use Rattle.aa_ordered.specs.IterMut.{entries_in, IsLending}
use Rattle.aa_ordered.proofs.iter_mut.IterMutIterator.next.Given as goal

-- the remaining entries are unchanged, and there are some
abbrev pub invariant-list : goal.invariant-list
invariant-list g l =
    let it = l.self-inside in let cs = places_left it.entries in record {
      some : 0 < it.left;
      lending : IsLending cs it.heads.now it.at it.end it.from it.until it.left;
      entries : entries_in cs it.heads.now it.at it.end it.from it.until ≡ l.fn.self.entries;
      borrow : borrow_name it.entries ≡ l.fn.self.borrow;
    }

abbrev pub decreases-list : goal.decreases-list
decreases-list g l =
    let it = l.self-inside in length it.heads.now + (it.until - it.from)
