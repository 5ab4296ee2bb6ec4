use Rattle.std.proofs.Common.{◌≡◌, ◌++◌}
use Rattle.std.specs.Prelude.{flat_map}
use Rattle.guide.proofs.moved.join_rows.Given as goal

-- what was moved, and what is still to come
abbrev pub invariant-loop-row : goal.invariant-loop-row
invariant-loop-row g l =
    l.to.items ++ flat_map (λ r. r.items) l.row-iterator.items ≡ l.fn.to.items ++ flat_map (λ r. r.items) l.fn.rows.items
