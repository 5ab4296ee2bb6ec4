use Rattle.aa_raw.proofs.{moved, ◌≡◌}
use Rattle.aa_raw.proofs.row.shift.shift_down_each.Given as goal

abbrev pub invariant-down : goal.invariant-down
invariant-down g l = (l.row.ptr ≡ l.fn.row.ptr) × (l.row.places ≡ moved l.fn.row.places l.by 0 l.i)
