use Rattle.aa_raw.proofs.{moved, ◌-◌, ◌≡◌, ◌≤◌}
use Rattle.aa_raw.proofs.row.shift.shift_down_in_arrays_of.Given as goal

abbrev pub invariant-down : goal.invariant-down
invariant-down g l = (l.at ≤ l.count) × (l.row.ptr ≡ l.fn.row.ptr)
    × (l.row.places ≡ moved l.fn.row.places l.by 0 l.at)

abbrev pub decreases-down : goal.decreases-down
decreases-down g l = l.count - l.at
