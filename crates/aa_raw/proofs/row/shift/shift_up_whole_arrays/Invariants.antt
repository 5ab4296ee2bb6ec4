use Rattle.aa_raw.proofs.{moved, ◌+◌, ◌-◌, ◌≡◌, ◌≤◌}
use Rattle.aa_raw.proofs.row.shift.shift_up_whole_arrays.Given as goal

abbrev pub invariant-up : goal.invariant-up
invariant-up g l = (l.left ≤ l.count) × (l.row.ptr ≡ l.fn.row.ptr)
    × (l.row.places ≡ moved l.fn.row.places l.left (l.by + l.left) (l.count - l.left))

abbrev pub decreases-up : goal.decreases-up
decreases-up g l = l.left
