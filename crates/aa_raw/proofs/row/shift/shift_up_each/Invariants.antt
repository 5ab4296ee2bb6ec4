use Rattle.aa_raw.proofs.{moved, ◌+◌, ◌-◌, ◌≡◌}
use Rattle.aa_raw.proofs.row.shift.shift_up_each.Given as goal

abbrev pub invariant-up : goal.invariant-up
invariant-up g l = (l.row.ptr ≡ l.fn.row.ptr)
    × (l.row.places ≡ moved l.fn.row.places (l.count - l.i) (l.by + (l.count - l.i)) l.i)
