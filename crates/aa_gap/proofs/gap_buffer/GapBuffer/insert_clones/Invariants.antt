use Rattle.aa_gap.proofs.{List, length, ◌+◌, ◌++◌, ◌-◌, ◌≡◌}
use Rattle.std.proofs.Common.{take}
use Rattle.std.specs.List.{AllZip}
use Rattle.aa_gap.specs.Buffer.{HasRoom, with_parts}
use Rattle.aa_gap.proofs.gap_buffer.GapBuffer.insert_clones.Given as goal

-- clones of the first ones are before the cursor, and the others fit
abbrev pub invariant-each : goal.invariant-each
invariant-each g l =
    let old = l.fn.self in
    (added : List _) × AllZip g.T.Clone.is_clone (take l.i l.source) added
    × (l.self ≡ record (with_parts old (old.before ++ added) old.after)
    { written = old.written + l.i; runs = old.runs + l.i })
    × HasRoom l.self (length l.source - l.i)
