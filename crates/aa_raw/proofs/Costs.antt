-- How many blocks growth allocates while elements are added, and how many places it holds.
use Rattle.aa_raw.proofs.Common.{amortized, ap, arith, max, mul-le-mul_left, mul_assoc, pow-succ', ℕ, ◌*◌, ◌+◌, ◌<◌, ◌^◌, ◌∙◌, ◌≡◌, ◌≤◌}
use Rattle.aa_raw.specs.Growths.{FewBlocks}
use Rattle.aa_raw.specs.declared.raw_vec.Growth.{Growth}
use Rattle.aa_raw.specs.declared.raw_vec.Growth.TheVariants.{Doubling, Sparing, InPlace}

-- `blocks` growths from nothing led to `c` places, or to more
abbrev pub FewPlaces : Growth → (blocks c : ℕ) → Type 0
FewPlaces Doubling blocks c = 2 ^ blocks ≤ max 1 (2 * c)
FewPlaces Sparing blocks c = 2 * 3 ^ blocks ≤ 2 ^ blocks * max 2 (3 * c)
FewPlaces InPlace blocks c = 2 ^ blocks ≤ max 1 (2 * c)

pub FewPlaces-none : (G : Growth) (c : ℕ) → FewPlaces G 0 c
FewPlaces-none Doubling c = omega arith
FewPlaces-none Sparing c = omega arith
FewPlaces-none InPlace c = omega arith

more-pow : (n k : ℕ) → n ^ (k + 1) ≡ n * n ^ k
more-pow n k = ap (λ i. n ^ i) (omega arith) ∙ pow-succ' n k

twice : (k w : ℕ) → 2 ^ (k + 1) * w ≡ 2 * (2 ^ k * w)
twice k w = ap (λ i. i * w) (more-pow 2 k) ∙ mul_assoc 2 (2 ^ k) w

-- twice the value of a power of 3 is at most `m` times that of 2, so three times that is at most
-- `w` times
scaled : (x y m w : ℕ) → 2 * y ≤ x * m → 3 * m ≤ w → 6 * y ≤ x * w
scaled x y m w h l = omega (arith, h, mul-le-mul_left x l)

-- one growth more
pub FewPlaces-grows : (G : Growth) (blocks c required least : ℕ) → c < required
    → FewPlaces G blocks c → FewPlaces G (blocks + 1) (amortized G c required least)
FewPlaces-grows Doubling blocks c required least more h = omega (arith, more-pow 2 blocks, h)
FewPlaces-grows Sparing blocks c required least more h =
    let to = max 2 (3 * amortized Sparing c required least) in
    omega (
      arith,
      twice blocks to,
      more-pow 3 blocks,
      scaled (2 ^ blocks) (3 ^ blocks)
          (max 2 (3 * c)) (2 * to) h (omega arith),
    )
FewPlaces-grows InPlace blocks c required least more h = omega (arith, more-pow 2 blocks, h)

-- which a list of `n` elements needed
pub FewBlocks-grows : (G : Growth) (blocks c n : ℕ) → c < n → FewPlaces G blocks c
    → FewBlocks G (blocks + 1) n
FewBlocks-grows Doubling blocks c n more h = omega (arith, more-pow 2 blocks, h)
FewBlocks-grows Sparing blocks c n more h =
    let to = max 4 (9 * n) in
    omega (
      arith,
      twice blocks to,
      more-pow 3 blocks,
      scaled (2 ^ blocks) (3 ^ blocks)
          (max 2 (3 * c)) to h (omega arith),
    )
FewBlocks-grows InPlace blocks c n more h = omega (arith, more-pow 2 blocks, h)

pub FewBlocks-none : (G : Growth) (n : ℕ) → FewBlocks G 0 n
FewBlocks-none Doubling n = omega arith
FewBlocks-none Sparing n = omega arith
FewBlocks-none InPlace n = omega arith

-- and which more elements need, too
pub FewBlocks-more : (G : Growth) (blocks m n : ℕ) → m ≤ n → FewBlocks G blocks m
    → FewBlocks G blocks n
FewBlocks-more Doubling blocks m n le h = omega (arith, le, h)
FewBlocks-more Sparing blocks m n le h =
    omega (
      arith,
      h,
      mul-le-mul_left {m = max 4 (9 * m)} {n = max 4 (9 * n)} (2 ^ blocks)
          (omega (arith, le)),
    )
FewBlocks-more InPlace blocks m n le h = omega (arith, le, h)
