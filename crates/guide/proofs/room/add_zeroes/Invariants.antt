use Rattle.std.proofs.Common.{◌≡◌, ◌++◌, ◌-◌, replicate}
use Rattle.allocator_api2.specs.Vector.{HasRoom}
use Rattle.guide.proofs.room.add_zeroes.Given as goal

-- as many zeroes as turns; the others fit
abbrev pub invariant-each : goal.invariant-each
invariant-each g l = (l.v.items ≡ l.fn.v.items ++ replicate l._i 0) × HasRoom l.v (l.count - l._i)
