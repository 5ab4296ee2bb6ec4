use Rattle.aa_raw.proofs.{None, drop, replicate, take, with_run, ◌-◌, ◌≡◌, ◌≤◌}
use Rattle.aa_raw.proofs.row.across.move_across_in_parts.Given as goal

abbrev pub invariant-parts : goal.invariant-parts
invariant-parts g l = record {
  within : l.at ≤ l.count;
  here : (l.row.ptr ≡ l.fn.row.ptr)
      × (l.row.places ≡ with_run l.fn.row.places l.to l.at
      (take l.at (drop l.from l.fn.source.places)));
  there : (l.source.ptr ≡ l.fn.source.ptr)
      × (l.source.places ≡ with_run l.fn.source.places l.from l.at (replicate l.at None));
}

abbrev pub decreases-parts : goal.decreases-parts
decreases-parts g l = l.count - l.at
