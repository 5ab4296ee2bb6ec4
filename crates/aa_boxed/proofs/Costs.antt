-- What a block costs that doubles while items come and is then shrunk to them.
use Rattle.aa_raw.proofs.Costs.{FewBlocks-grows, FewBlocks-more, FewBlocks-none, FewPlaces, FewPlaces-grows, FewPlaces-none}
use Rattle.aa_boxed.proofs.Common.{Bool, CollectCost, Doubling, FewBlocks, Growths, amortized, ap, arith, false, if◌then◌else◌, inl, inr, max, min_capacity, nat_tests, new_capacity, of_new, pow-succ', refl, subst, suc, sym, true, with_growth, with_shrink, zero, ℕ, ◌*◌, ◌+◌, ◌-◌, ◌<◌, ◌==◌, ◌^◌, ◌≡◌, ◌≢◌, ◌≤◌}

-- no block was allocated
abbrev free : Growths
free = record { moved = 0; blocks = 0; held = 0 }

of_new-none : (size : ℕ) → of_new size 0 ≡ free
of_new-none size = grind (arith, nat_tests)

min_capacity-le : (size : ℕ) → min_capacity size ≤ 8
min_capacity-le size = grind (arith, nat_tests)

-- one block less needs no more
pow-less : (b m : ℕ) → 2 ^ b ≤ m → 2 ^ (b - 1) ≤ m
pow-less zero m h = h
pow-less (suc b) m h =
    let same : 2 ^ (suc b - 1) ≡ 2 ^ b = ap (λ i. 2 ^ i) (omega arith) in
    omega (arith, h, same, pow-succ' 2 b)

-- a shrink to some places allocates one
one_more : (n b : ℕ) → 0 < n → b + (if n == 0 then 0 else 1) - 1 ≡ b
one_more n b some = grind (arith, nat_tests)

-- a block of `c` places for items of `size` bytes has cost `g` and doubled while `n` items came, of
-- at most `most`
pub record Doubled (size c n most : ℕ) (g : Growths) : Type 0 where
  pub zst : size ≡ 0 → g ≡ free
  pub none : n ≡ 0 → (g ≡ free) × (c ≡ new_capacity size 0)
  pub places : FewPlaces Doubling g.blocks c
  pub blocks : FewBlocks Doubling g.blocks n
  pub moved : g.moved ≤ c
  pub twice : g.moved ≤ 2 * n
  pub held : g.held ≤ most + max 8 (2 * most)
  pub few : 0 < size → c ≤ max 8 (2 * most)

module _ (size : ℕ) where
  pub Doubled-start : (most : ℕ) → Doubled size (new_capacity size 0) 0 most (of_new size 0)
  Doubled-start most = subst (λ g. Doubled size (new_capacity size 0) 0 most g)
      (sym (of_new-none size)) (record {
        zst = λ z. refl;
        none = λ z. (refl, refl);
        places = FewPlaces-none Doubling (new_capacity size 0);
        blocks = FewBlocks-none Doubling 0;
        moved = omega arith;
        twice = omega arith;
        held = omega arith;
        few = λ some. grind (arith, nat_tests);
      })

  module _ (c n most : ℕ) (g : Growths) (p : Doubled size c n most g) where
    -- one more item had a place
    pub Doubled-put : Doubled size c (n + 1) most g
    Doubled-put = record {
      zst = p.zst;
      none = λ z. absurd (omega (arith, z));
      places = p.places;
      blocks = FewBlocks-more Doubling g.blocks n (n + 1) (omega arith) p.blocks;
      moved = p.moved;
      twice = omega (arith, p.twice);
      held = p.held;
      few = p.few;
    }

    -- or the block grew for it and for others, of at most as many as were still to come
    pub Doubled-grows : (k : ℕ) → n ≡ c → 0 < size → 0 < k → n + k ≤ most
        → let d = amortized Doubling c (n + k) (min_capacity size) in
        Doubled size d (n + 1) most (with_growth g n c d)
    Doubled-grows k full some more within =
        let few = min_capacity-le size in
        record {
          zst = λ z. absurd (omega (arith, z, some));
          none = λ z. absurd (omega (arith, z));
          places = FewPlaces-grows Doubling g.blocks c (n + k) (min_capacity size)
              (omega (arith, full, more)) p.places;
          blocks = FewBlocks-grows Doubling g.blocks c (n + 1) (omega (arith, full)) p.places;
          moved = omega (arith, p.moved, full);
          twice = omega (arith, p.moved, full);
          held = omega (arith, p.held, full, more, within, few);
          few = λ _. omega (arith, full, more, within, few);
        }

    -- at the end, the block is that of the items, or is shrunk to them
    costs-kept : CollectCost size n most g
    costs-kept = record {
      nothing = λ z. elim z [ inl e ↦ p.zst e | inr e ↦ (p.none e).0 ];
      blocks = pow-less g.blocks _ p.blocks;
      moved = p.twice;
      held = p.held;
    }

    costs-cut : 0 < size → n ≢ c → n ≤ most → CollectCost size n most (with_shrink g c n)
    costs-cut some other within =
        let is_some : 0 < n = grind (arith, nat_tests, p.none) in
        record {
          nothing = λ z. absurd
              (elim z [ inl e ↦ omega (arith, e, some) | inr e ↦ omega (arith, e, is_some) ]);
          blocks = subst (λ k. 2 ^ k ≤ max 1 (4 * n)) (sym (one_more n g.blocks is_some)) p.blocks;
          moved = p.twice;
          held = omega (arith, p.held, p.few some, within);
        }

    pub costs_to_collect : n ≤ most
        → CollectCost size n most
        (if size == 0 then g else (if n == c then g else with_shrink g c n))
    costs_to_collect within = cut (size == 0) (n == c) refl refl
      where
        cut : (is_zst is_same : Bool) → (size == 0) ≡ is_zst → (n == c) ≡ is_same
            → CollectCost size n most
            (if is_zst then g else (if is_same then g else with_shrink g c n))
        cut true is_same z e = costs-kept
        cut false true z e = costs-kept
        cut false false z e =
            costs-cut (grind (arith, nat_tests, z)) (λ same. grind (arith, nat_tests, e, same))
            within
