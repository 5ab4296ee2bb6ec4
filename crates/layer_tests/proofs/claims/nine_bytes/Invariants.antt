use Rattle.std.proofs.Common.{◌≡◌}
use Rattle.aa_raw.specs.declared.raw_vec.Growth.TheVariants.{Doubling}
use Rattle.aa_vec.specs.Vector.{len, with_growth}
use Rattle.layer_tests.proofs.claims.nine_bytes.Given as goal

-- the vector has one element for each push, in eight places
abbrev pub invariant-each : goal.invariant-each
invariant-each g l = (len l.v ≡ l.x) × (l.v.growth ≡ Doubling) × (l.v.capacity ≡ 8) × (l.v.grown ≡ with_growth l.fn.v.grown 0 0 8)
