use Rattle.allocator_api2.proofs.Common.{◌-◌, ◌*◌, ◌<◌, ◌≤◌, length, repeat, Holds, WritesAtMost}
use Rattle.allocator_api2.proofs.slice.put_repeated.Given as goal

abbrev pub invariant-each : goal.invariant-each
invariant-each g l = (0 < l.done) × (l.done ≤ l.n) × Holds l.fn.made (repeat l.done l.source) l.made
    × WritesAtMost l.fn.made (l.done * length l.source) l.made

abbrev pub decreases-each : goal.decreases-each
decreases-each g l = l.n - l.done
