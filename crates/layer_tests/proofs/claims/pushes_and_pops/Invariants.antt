use Rattle.std.proofs.Common.{◌≡◌, ◌⊎◌}
use Rattle.aa_raw.specs.declared.raw_vec.Growth.TheVariants.{Doubling}
use Rattle.aa_vec.specs.Vector.{len, with_growth}
use Rattle.layer_tests.proofs.Claimed.{IsPushed}
use Rattle.layer_tests.proofs.claims.pushes_and_pops.Given as goal

abbrev pub invariant-fill : goal.invariant-fill
invariant-fill g l = IsPushed Doubling l.fn.v l.x l.v

-- it has four elements, and has grown once more at the first push
abbrev pub invariant-each : goal.invariant-each
invariant-each g l = let four = with_growth l.fn.v.grown 0 0 4 in (len l.v ≡ 4) × (l.v.growth ≡ Doubling) × (((l.x ≡ 0) × (l.v.capacity ≡ 4) × (l.v.grown ≡ four)) ⊎ ((l.v.capacity ≡ 8) × (l.v.grown ≡ with_growth four 4 4 8)))
