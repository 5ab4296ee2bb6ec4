use Rattle.aa_vec.proofs.Common.{◌++◌, take, drop, Holds, WritesAtMost}
use Rattle.aa_vec.proofs.vec.copies.with_own_copies.Given as goal

abbrev pub invariant-each : goal.invariant-each
invariant-each g l = Holds l.fn.list (l.fn.list.items ++ take l.at (drop l.from l.fn.list.items))
    l.list × WritesAtMost l.fn.list l.at l.list
