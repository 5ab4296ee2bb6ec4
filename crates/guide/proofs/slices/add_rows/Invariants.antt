use Rattle.std.proofs.Common.{◌≡◌, ◌+◌, sum, map}
use Rattle.std.specs.Slice.Iter.{iter_rest}
use Rattle.guide.proofs.slices.add_rows.Given as goal

-- the total and the numbers that remain come to the sum
abbrev pub invariant-loop-row : goal.invariant-loop-row
invariant-loop-row g l =
    (goal.iterator-loop-row g).can_next l.row-iterator
    × (goal.iterator-loop-row g).is_finite l.row-iterator
    × (l.total + sum (map (λ r. sum r.items) (iter_rest l.row-iterator))
    ≡ sum (map (λ r. sum r.items) l.rows.items))

abbrev pub invariant-loop-x : goal.invariant-loop-x
invariant-loop-x g l =
    (goal.iterator-loop-x g).can_next l.x-iterator × (goal.iterator-loop-x g).is_finite l.x-iterator
    × (l.total + sum (iter_rest l.x-iterator)
    + sum (map (λ r. sum r.items) (iter_rest l.row-iterator))
    ≡ sum (map (λ r. sum r.items) l.rows.items))
