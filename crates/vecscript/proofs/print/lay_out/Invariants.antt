use Rattle.vecscript.proofs.Common.{◌≡◌, ◌++◌, ◌<◌, ◌≤◌, length, drop, decimal}
use Rattle.vecscript.proofs.print.lay_out.Given as goal

-- the last digits precede what is kept, and there is space for the first ones and the blank
abbrev pub invariant-digits : goal.invariant-digits
invariant-digits l =
    (decimal l.x ++ drop l.end l.fn.buffer ≡ decimal l.rest ++ drop l.at l.buffer) × (length (decimal l.rest) < l.at)
    × (l.at ≤ l.end) × (l.rest ≤ l.x)

abbrev pub decreases-digits : goal.decreases-digits
decreases-digits l = l.rest
