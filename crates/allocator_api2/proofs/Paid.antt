-- What a vector was moved by growth, and the blocks that it took, are paid for by what was added to
-- it.
use Rattle.allocator_api2.proofs.Common.{Doubling, FewBlocks, FewBlocks-grows, FewBlocks-more, FewPlaces, FewPlaces-grows, Growth, Growths, InPlace, MakesRoom, MakesRoom-fits, MakesRoom-grows, MakesRoom-rises, None, Option, Sparing, Vector, amortized, ap, arith, len, max, min, min_capacity, moves_each, rules, sym, ℕ, ◌*◌, ◌+◌, ◌-◌, ◌/◌, ◌<◌, ◌∙◌, ◌≡◌, ◌≤◌}
use Rattle.aa_gap.proofs.Pages.{min_capacity-le}
use Rattle.allocator_api2.proofs.Added.{moves_each-le}
use Rattle.allocator_api2.proofs.Steps.{Change, Moves, grown, kept}

-- c places were not enough for `needed` elements: of what was moved by then, the new capacity pays
-- all but the last move
grown_pays : (G : Growth) (paid g c n needed m : ℕ) → n ≤ c → c < needed
    → g ≤ paid + (moves_each G - 1) * c → g + n ≤ paid + (moves_each G - 1) * amortized G c needed m
grown_pays G paid g c n needed m h lt p = grind arith

all_pays : (G : Growth) (paid g c n k : ℕ) → n ≤ k → c ≤ k → g ≤ paid + (moves_each G - 1) * c
    → g + n ≤ paid + moves_each G * k
all_pays G paid g c n k h lt p = grind arith

-- the most places that a growth requests, from fewer than `most`, if no more than `most` are needed
abbrev pub places_for : Growth → (most : ℕ) → ℕ
places_for G most = amortized G (most - 1) most 8

pub places_for-le : (G : Growth) (most : ℕ) → places_for G most ≤ max 8 (2 * most)
places_for-le G most = grind arith

pub places_for-sparing : (most : ℕ) → places_for Sparing most ≤ max 8 (most + most / 2 - 1)
places_for-sparing most = omega arith

amortized-within : (G : Growth) (c needed m most : ℕ) → c < needed → needed ≤ most → m ≤ 8
    → amortized G c needed m ≤ places_for G most
amortized-within G c needed m most lt h e = grind arith

places_for-more : (G : Growth) (most k : ℕ) → most ≤ k → places_for G most ≤ places_for G k
places_for-more G most k le = grind arith

-- beside what was moved and allocated before, `n` added elements pay for what was moved and
-- allocated by now
pub record Pays (G : Growth) (before : Growths) (n : ℕ) (growth : Growth) (capacity : ℕ)
    (now : Growths) : Type 0 where
  pub same : growth ≡ G
  pub places : now.moved ≤ before.moved + (moves_each G - 1) * capacity
  pub moved : now.moved ≤ before.moved + moves_each G * n
  pub since : before.blocks ≤ now.blocks
  pub for_places : FewPlaces G (now.blocks - before.blocks) capacity
  pub few : FewBlocks G (now.blocks - before.blocks) n

-- a block has no more places than a growth makes for the greatest length; and no more than these
-- beside a block one shorter were held at once, or `before`
pub record HasFew (G : Growth) (before most : ℕ) (growth : Growth) (capacity now : ℕ) : Type 0 where
  pub same : growth ≡ G
  pub places : capacity ≤ places_for G most
  pub held : now ≤ max before (most - 1 + places_for G most)

Pays-more : {G : Growth} {before : Growths} (n k : ℕ) {growth : Growth} {c : ℕ} {now : Growths}
    → n ≤ k → Pays G before n growth c now → Pays G before k growth c now
Pays-more {G} {before} n k {now = now} le p =
    let moved = moves_each-le G now.moved before.moved n k le p.moved in
    let few = FewBlocks-more G (now.blocks - before.blocks) n k le p.few in search rules

module _ {T A : Type 0} (size : ℕ) where
  Moves-rises : {hint : Option ℕ} {needed : ℕ} {u v : Vector T A} → Moves size hint needed u v
      → u.capacity ≤ v.capacity
  Moves-rises (kept b) = omega (arith, b.capacity)
  Moves-rises {u = u} (grown {mid = mid} n more w some lt few m r) =
      omega (arith, MakesRoom-rises size n more u mid m, Moves-rises r)

  module _ (G : Growth) (before : Growths) where
    pub record IsPaid (n : ℕ) (v : Vector T A) : Type 0 where
      pub fits : len v ≤ v.capacity
      pub counted : len v ≤ n
      pub pays : Pays G before n v.growth v.capacity v.grown

    -- a growth is paid by what is there at the end
    Pays-grows : (n more k : ℕ) {u v : Vector T A} → n ≤ u.capacity → u.capacity < n + more
        → u.capacity < k → MakesRoom size u n more v
        → Pays G before k u.growth u.capacity u.grown → Pays G before k v.growth v.capacity v.grown
    Pays-grows n more k {u} {v} w some few m p =
        let b = MakesRoom-grows size n more u v m (omega (arith, w, some)) in
        let least = min_capacity size in
        let places : v.capacity ≡ amortized G u.capacity (n + more) least = b.0
        ∙ ap (λ x. amortized x u.capacity (n + more) least) p.same in
        let moved = ap (λ (g : Growths). g.moved) b.1 in
        let blocks = ap (λ (g : Growths). g.blocks) b.1 in
        let next : v.grown.blocks - before.blocks
        ≡ u.grown.blocks - before.blocks + 1 = omega (arith, p.since, blocks) in
        grind (
          arith,
          p,
          m.growth,
          places,
          moved,
          blocks,
          next,
          grown_pays,
          all_pays,
          FewPlaces-grows,
          FewBlocks-grows,
        )

    -- and so are all of them
    all_paid : {hint : Option ℕ} {needed : ℕ} (k : ℕ) {u v : Vector T A}
        → Moves size hint needed u v → min needed v.capacity ≤ k
        → Pays G before k u.growth u.capacity u.grown → Pays G before k v.growth v.capacity v.grown
    all_paid k (kept b) h p = rw (b.growth, b.capacity, b.grown) p
    all_paid k {u} {v} (grown {mid = mid} n more w some lt told m r) h p =
        let few : u.capacity
        < k = omega (
          arith,
          h,
          lt,
          some,
          w,
          Moves-rises r,
          MakesRoom-fits size n more u mid m
              (omega (arith, w, MakesRoom-rises size n more u mid m)),
        ) in
        all_paid k r h (Pays-grows n more k w some few m p)

    pub IsPaid-change : (hint : Option ℕ) (n k : ℕ) (old new : Vector T A) → IsPaid n old
        → Change size hint old k new → IsPaid (n + k) new
    IsPaid-change hint n k old new p c =
        let more = Pays-more n (n + k) (omega arith) p.pays in let fits = c.fits p.fits in
        let pays = all_paid (n + k) (c.moves p.fits) (omega (arith, c.full, c.longest, p.counted))
        more in search rules

  module _ (G : Growth) (before : ℕ) where
    pub record IsPlaced (most : ℕ) (v : Vector T A) : Type 0 where
      pub fits : len v ≤ v.capacity
      pub few : HasFew G before most v.growth v.capacity v.grown.held

    -- a command without a hint requests no more than it needs
    all_placed : {hint : Option ℕ} {needed : ℕ} (most : ℕ) {u v : Vector T A} → hint ≡ None
        → Moves size hint needed u v → min needed v.capacity ≤ most
        → HasFew G before most u.growth u.capacity u.grown.held
        → HasFew G before most v.growth v.capacity v.grown.held
    all_placed most none (kept b) h p = rw (b.growth, b.capacity, b.grown) p
    all_placed most {u} none (grown {mid = mid} n more w some lt told m r) h p =
        let few : n + more
        ≤ most = omega (
          arith,
          h,
          told none,
          Moves-rises r,
          MakesRoom-fits size n more u mid m
              (omega (arith, w, MakesRoom-rises size n more u mid m)),
        ) in
        let b = MakesRoom-grows size n more u mid m (omega (arith, w, some)) in
        let least = min_capacity size in
        let places : mid.capacity ≡ amortized G u.capacity (n + more) least = b.0
        ∙ ap (λ x. amortized x u.capacity (n + more) least) p.same in
        let within : mid.capacity
        ≤ places_for G most =
        rw places (amortized-within G u.capacity (n + more) least most some few
        (min_capacity-le size)) in
        let held : mid.grown.held
        ≡ max u.grown.held (u.capacity + mid.capacity) = ap (λ (g : Growths). g.held) b.1
        ∙ ap (λ c. max u.grown.held (u.capacity + c)) (sym b.0) in
        all_placed most none r h
        (record {
          same = m.growth ∙ p.same;
          places = within;
          held = omega (arith, held, within, some, few, p.held);
        })

    pub IsPlaced-change : (hint : Option ℕ) → hint ≡ None → (most k : ℕ) (old new : Vector T A)
        → IsPlaced most old → Change size hint old k new → IsPlaced (max most (len new)) new
    IsPlaced-change hint none most k old new p c =
        let more = places_for-more G most (max most (len new)) (omega arith) in
        let few : HasFew G before (max most (len new)) old.growth old.capacity old.grown.held =
        record {
          same = p.few.same;
          places = omega (arith, p.few.places, more);
          held = omega (arith, p.few.held, more);
        } in
        record {
          fits = c.fits p.fits;
          few = all_placed (max most (len new)) none (c.moves p.fits)
              (omega (arith, c.full)) few;
        }
