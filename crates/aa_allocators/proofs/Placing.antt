-- The shelf for a size is found by its logarithm.
--     is_place      the logarithm e of the size, or of 16 if that is more, leads to the shelf p
use Rattle.std.proofs.Common.{◌≡◌, ℕ, ◌+◌, ◌-◌, ◌*◌, ◌<◌, ◌≤◌, ◌^◌, suc, arith, max, pow_mono, pow-suc}
use Rattle.std.specs.Prelude.{min}
use Rattle.aa_allocators.specs.Racks.{IsPlace}

pub is_place : (s m e d p : ℕ) → m ≡ max s 16 → 2 ^ e ≤ m → m < 2 * 2 ^ e → d ≡ e - 4 → p ≡ min d 20 → IsPlace s p
is_place s m e d p most low high off least = (
  omega (arith, least),
  (λ some. let up : 2 ^ (p + 4) ≤ 2 ^ e = pow_mono (omega (arith, off, least, some)) in
      let five : 32 ≤ 2 ^ e = pow_mono {i = 5} {j = e} (omega (arith, off, least, some)) in omega (arith, most, low, up, five)),
  (λ few. let up : 2 ^ suc e ≤ 2 ^ (p + 5) = pow_mono (omega (arith, off, least, few)) in
      let double : 2 ^ suc e ≡ 2 ^ e * 2 = pow-suc 2 e in omega (arith, most, high, up, double)),
)
