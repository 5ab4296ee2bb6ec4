-- What worked examples come to, in numbers.
use Rattle.std.proofs.Common.{◌≡◌, ℕ, Bool, true, false, nat_lt, zero, suc, ◌+◌, ◌-◌, ◌*◌, ◌<◌, ◌≤◌, List, [], ◌∷◌, ◌++◌, length, take, drop, Option, Some, None, Ok, refl, length-append, sym, ap, ◌∙◌, subst, arith}
use Rattle.std.specs.Prelude.{slice_range, if◌then◌else◌, ◌==◌, ◌^◌, min, max}
use Rattle.std.proofs.lemmas.List.{take_at}
use Rattle.std.proofs.lemmas.Bool.Decides.{nat_tests}
use Rattle.aa_raw.specs.declared.raw_vec.Growth.{Growth}
use Rattle.aa_raw.specs.declared.raw_vec.Growth.TheVariants.{Doubling, Sparing}
use Rattle.aa_raw.specs.Growth.{amortized, usize_max}
use Rattle.aa_raw.specs.Growths.{Growths, with_growth}
use Rattle.aa_vec.specs.Vector.{Vector, len, Becomes, Holds, with_room}
use Rattle.aa_vec.specs.Extend.{GrowsInSteps, unchanged as no_more, grows as once_more, Extends, RemainingItems, takes_item, lower_bound_of, LowerExactly, Takes}
use Rattle.aa_vec.specs.Drain.{TakesRange, KeepsRest, drain_vec, drain_remaining, drain_tail, range_len, taken_front, taken_back, drains_first, drains_last}
use Rattle.aa_vec.specs.SpliceItems.{SplicesAll, tail_moves}
use Rattle.aa_vec.specs.declared.vec.drain.Drain.{Drain}
use Rattle.aa_vec.proofs.GrowthLemmas.{MakesRoom, MakesRoomTwice, MakesRoom-unchanged, MakesRoom-grows, Extends-fits, GrowsInSteps-fits, SameBlock-refl, SameBlock-trans, asks, grown_by, grown_room}
use Rattle.aa_vec.proofs.Becoming.{GrowsTo-becomes, SameBlock-becomes}
use Rattle.aa_vec.proofs.Counted.{items_lower, ExtendsAll-items, ExtendsAll-counted}
use Rattle.aa_vec.proofs.DrainLemmas.{keeps-then}
use Rattle.aa_vec.proofs.SpliceByItems.{SplicesByAll, SplicesAll-items, cut_off, items-written}

module _ {T A : Type 0} {g : Growth} (v w : Vector T A) (c n k : ℕ) (places : v.capacity ≡ c) (grows : v.growth ≡ g) (room : MakesRoom 4 v n k w) where
  -- room that is there is kept
  pub kept_at : k ≤ c - n → (w.capacity ≡ c) × (w.growth ≡ g) × (w.grown ≡ v.grown)
  kept_at fits = let b = MakesRoom-unchanged 4 n k v w room (omega (arith, fits, places)) in (b.capacity ∙ places, b.growth ∙ grows, b.grown)

  -- and else a block of elements of 4 bytes grows, or takes what is needed
  pub grows_to : c - n < k → let to = amortized g c (n + k) 4 in (w.capacity ≡ to) × (w.growth ≡ g) × (w.grown ≡ with_growth v.grown n c to)
  grows_to lacks =
      let b = MakesRoom-grows 4 n k v w room (omega (arith, lacks, places)) in
      let to : ℕ → Growth → ℕ = λ m h. amortized h m (n + k) 4 in let cost : ℕ → Growth → Growths = λ m h. with_growth v.grown n m (to m h) in
      (b.0 ∙ ap (to v.capacity) grows ∙ ap (λ m. to m g) places, room.growth ∙ grows, b.1 ∙ ap (cost v.capacity) grows ∙ ap (λ m. cost m g) places)

-- the two in the middle of four, in four places, are replaced by three, of which h are told once two are placed
module _ {A : Type 0} {old : Vector ℕ A} {iter given : RemainingItems ℕ} {d : Drain ℕ A} {new : Vector ℕ A} (drains : TakesRange old 1 3 d)
    (s : SplicesByAll takes_item (LowerExactly items_lower) 4 iter (cut_off (drain_vec d) (range_len d) (drain_tail d)) new) (same : iter ≡ given)
    (was : (old.items ≡ 1 ∷ 2 ∷ 3 ∷ 4 ∷ []) × (old.capacity ≡ 4) × (old.growth ≡ Doubling)) (new_items : given.items ≡ 7 ∷ 8 ∷ 9 ∷ []) where
  come : iter.items ≡ 7 ∷ 8 ∷ 9 ∷ []
  come = ap (λ i. i.items) same ∙ new_items

  before : (drain_vec d).items ≡ 1 ∷ []
  before = ap (λ v. v.items) drains.becomes ∙ ap (take 1) was.0

  spare : drain_tail d ≡ 4 ∷ []
  spare = drains.tail ∙ ap (drop 3) was.0

  spliced : SplicesAll 4 (lower_bound_of iter.hint) (cut_off (drain_vec d) (range_len d) (drain_tail d)) iter.items new
  spliced = SplicesAll-items iter 4 (drain_vec d) (range_len d) (drain_tail d) new s

  pub five_there : new.items ≡ 1 ∷ 7 ∷ 8 ∷ 9 ∷ 4 ∷ []
  five_there = spliced.items ∙ (λ i. before i ++ (come i ++ spare i))

  three : length iter.items ≡ 3
  three = ap length come

  left_one : length iter.items - range_len d ≡ 1
  left_one = omega (arith, three, drains.range)

  module _ (h : ℕ) (told : lower_bound_of iter.hint 1 ≡ h) where
    tells : lower_bound_of iter.hint (length iter.items - range_len d) ≡ h
    tells = ap (lower_bound_of iter.hint) left_one ∙ told

    pub five_written : new.written ≡ old.written + (3 + tail_moves 2 h 3 * 1)
    five_written =
        let P : ℕ → Type 0 = λ n. new.written ≡ (drain_vec d).written + (n + tail_moves 2 h n * 1) in
        let moved : ℕ → ℕ → ℕ → Type 0 = λ g k t. new.written ≡ (drain_vec d).written + (length iter.items + tail_moves g k (length iter.items) * t) in
        let first : moved (range_len d) h (length (drain_tail d)) = subst (λ k. moved (range_len d) k (length (drain_tail d))) tells (items-written iter 4 (drain_vec d) (range_len d) (drain_tail d) new s) in
        let second : moved 2 h (length (drain_tail d)) = subst (λ g. moved g h (length (drain_tail d))) drains.range first in
        let third : moved 2 h 1 = subst (λ t. moved 2 h t) (ap length spare) second in
        let fourth : P 3 = subst P three third in
        fourth ∙ ap (λ w. w + (3 + tail_moves 2 h 3 * 1)) (omega (arith, ap (λ v. v.written) drains.becomes))

    pub five_room : MakesRoomTwice 4 (drain_vec d) 4 h (1 - h) new
    five_room =
        let all : len (drain_vec d) + range_len d + length (drain_tail d) ≡ 4 = omega (arith, ap length before, ap length spare, drains.range) in
        rw (all, tells, left_one) at (spliced.beyond (omega (arith, ap length spare)) (omega (arith, three, drains.range)))

    pub places : (drain_vec d).capacity ≡ 4
    places = ap (λ v. v.capacity) drains.becomes ∙ was.1

    pub doubles : (drain_vec d).growth ≡ Doubling
    doubles = ap (λ v. v.growth) drains.becomes ∙ was.2

  -- some: as many as there are, or a hundred
  pub told_some : (hint : Option ℕ) (h c : ℕ) → given.hint ≡ hint → lower_bound_of hint 1 ≡ h → 0 < h → amortized Doubling 4 (4 + h) 4 ≡ c → 4 + h ≤ c → (new.capacity ≡ c) × (new.written ≡ old.written + (3 + tail_moves 2 h 3 * 1))
  told_some hint h c has told some is enough =
      let at_two : lower_bound_of iter.hint 1 ≡ h = ap (λ i. lower_bound_of i.hint 1) same ∙ ap (λ m. lower_bound_of m 1) has ∙ told in
      let roomy : Vector ℕ A = with_room 4 (drain_vec d) 4 h in
      let mid = grows_to (drain_vec d) roomy 4 4 h (places h at_two) (doubles h at_two) (SameBlock-refl roomy) (omega (arith, some)) in
      ((kept_at roomy new c (4 + h) (1 - h) (mid.0 ∙ is) mid.1 (five_room h at_two) (omega (arith, some, enough))).0, five_written h at_two)

  -- none
  pub told_none : given.hint ≡ Some 0 → (new.capacity ≡ 8) × (new.written ≡ old.written + 4)
  told_none has =
      let at_two : lower_bound_of iter.hint 1 ≡ 0 = ap (λ i. lower_bound_of i.hint 1) same ∙ ap (λ m. lower_bound_of m 1) has in
      let roomy : Vector ℕ A = with_room 4 (drain_vec d) 4 0 in
      let mid = kept_at (drain_vec d) roomy 4 4 0 (places 0 at_two) (doubles 0 at_two) (SameBlock-refl roomy) (omega arith) in
      ((grows_to roomy new 4 4 1 mid.0 mid.1 (five_room 0 at_two) (omega arith)).0, five_written 0 at_two)

-- how many places k pushes onto an empty vector of elements of 4 bytes lead to, and what its memory has cost then, if it cost `before`
abbrev pub reached : Growth → (before : Growths) → ℕ → ℕ × Growths
reached g before zero = (0, before)
reached g before (suc k) = let r = reached g before k in let to = amortized g r.0 (k + 1) 4 in if nat_lt k r.0 then r else (to, with_growth r.1 k r.0 to)

module _ {T A : Type 0} (g : Growth) (old : Vector T A) where
  -- v is old after k pushes
  pub record IsPushed (k : ℕ) (v : Vector T A) : Type 0 where
    pub count : len v ≡ k
    pub growth : v.growth ≡ g
    pub capacity : v.capacity ≡ (reached g old.grown k).0
    pub grown : v.grown ≡ (reached g old.grown k).1

  -- one more
  pub pushed_next : (k : ℕ) (v w : Vector T A) (x : T) → IsPushed k v → Becomes (with_room 4 v (len v) 1) (v.items ++ x ∷ []) 1 1 w → IsPushed (k + 1) w
  pushed_next k v w x p pushed = subst (λ n. IsPushed n w) (omega arith) (by_test (nat_lt k before.0) refl)
    where
      before : ℕ × Growths
      before = reached g old.grown k

      room : MakesRoom 4 v (len v) 1 w
      room = (GrowsTo-becomes v (v.items ++ x ∷ []) 1 1 w 4 1 pushed).room

      counts : len w ≡ suc k
      counts = let count = p.count in omega (arith, ap (λ u. length u.items) pushed, length-append v.items (x ∷ []))

      by_test : (b : Bool) → nat_lt k before.0 ≡ b → IsPushed (suc k) w
      by_test true e =
          let fits : 1 ≤ before.0 - len v = let count = p.count in grind (arith, nat_tests) in
          let d = kept_at v w before.0 (len v) 1 p.capacity p.growth room fits in
          record { count = counts; growth = d.1; capacity = rw e d.0; grown = rw e (d.2 ∙ p.grown) }
      by_test false e =
          let lacks : before.0 - len v < 1 = let count = p.count in grind (arith, nat_tests) in
          let d = grows_to v w before.0 (len v) 1 p.capacity p.growth room lacks in
          let to : ℕ → ℕ = λ n. amortized g before.0 (n + 1) 4 in let cost : Growths → ℕ → Growths = λ h n. with_growth h n before.0 (to n) in
          record { count = counts; growth = d.1; capacity = rw e (d.0 ∙ ap to p.count); grown = rw e (d.2 ∙ ap (λ h. cost h (len v)) p.grown ∙ ap (cost before.1) p.count) }

module _ {T A : Type 0} (old v : Vector T A) (k : ℕ) where
  -- what seventeen pushes by doubling lead to
  pub seventeen_pushed : IsPushed Doubling old k v → k ≡ 17 → (v.capacity ≡ 32) × (v.grown.moved ≡ old.grown.moved + 28) × (v.grown.blocks ≡ old.grown.blocks + 4) × (v.grown.held ≡ max old.grown.held 48)
  seventeen_pushed p e =
      let all : IsPushed Doubling old 17 v = subst (λ n. IsPushed Doubling old n v) e p in
      let cost : v.grown ≡ with_growth (with_growth (with_growth (with_growth old.grown 0 0 4) 4 4 8) 8 8 16) 16 16 32 = all.grown in
      (all.capacity, omega (arith, ap (λ h. h.moved) cost), omega (arith, ap (λ h. h.blocks) cost), omega (arith, ap (λ h. h.held) cost))

  -- and fifteen sparing ones
  pub fifteen_pushed : IsPushed Sparing old k v → k ≡ 15 → (v.capacity ≡ 21) × (v.grown.moved ≡ old.grown.moved + 33) × (v.grown.blocks ≡ old.grown.blocks + 5) × (v.grown.held ≡ max old.grown.held 35)
  fifteen_pushed p e =
      let all : IsPushed Sparing old 15 v = subst (λ n. IsPushed Sparing old n v) e p in
      let cost : v.grown ≡ with_growth (with_growth (with_growth (with_growth (with_growth old.grown 0 0 4) 4 4 6) 6 6 9) 9 9 14) 14 14 21 = all.grown in
      (all.capacity, omega (arith, ap (λ h. h.moved) cost), omega (arith, ap (λ h. h.blocks) cost), omega (arith, ap (λ h. h.held) cost))

-- a full vector of c places that asks for room for 6 more
grows_once : {T A : Type 0} (lower : ℕ → ℕ) (needed c : ℕ) (v w : Vector T A) → v.capacity ≡ c → v.growth ≡ Doubling → c < needed → ((n : ℕ) → min (lower (n - 1) + 1) (2 ^ 64 - 1) ≡ 6) → needed ≤ w.capacity → GrowsInSteps 4 lower needed v w
    → let to = amortized Doubling c (c + 6) 4 in (mid : Vector T A) × (mid.capacity ≡ to) × (mid.growth ≡ Doubling) × (mid.grown ≡ with_growth v.grown c c to) × GrowsInSteps 4 lower needed mid w
grows_once lower needed c v w is doubles short six enough (no_more b) = absurd (omega (arith, ap (λ u. u.capacity) b, is, short, enough))
grows_once lower needed c v w is doubles short six enough (once_more h r) =
    let more : ℕ = asks 4 lower needed v in let mid : Vector _ _ = grown_by 4 lower needed v in
    let d = grows_to v mid c v.capacity more is doubles (grown_room 4 lower needed v) (omega (arith, is, six (needed - v.capacity))) in
    let to : ℕ → ℕ → ℕ = λ n k. amortized Doubling c (n + k) 4 in let cost : ℕ → ℕ → Growths = λ n k. with_growth v.grown n c (to n k) in let asked = six (needed - v.capacity) in
    (mid, d.0 ∙ ap (λ n. to n more) is ∙ ap (to c) asked, d.1, d.2 ∙ ap (λ n. cost n more) is ∙ ap (cost c) asked, r)

-- what growths to 6, 12 and 24 places cost, each of which moves what is full
three_steps : (h i j k l : Growths) → i ≡ with_growth h 0 0 6 → j ≡ with_growth i 6 6 12 → k ≡ with_growth j 12 12 24 → l ≡ k → (l.moved ≡ h.moved + 18) × (l.blocks ≡ h.blocks + 3) × (l.held ≡ max h.held 36)
three_steps h i j k l a b c d = (
  omega (arith, ap (λ g. g.moved) a, ap (λ g. g.moved) b, ap (λ g. g.moved) c, ap (λ g. g.moved) d),
  omega (arith, ap (λ g. g.blocks) a, ap (λ g. g.blocks) b, ap (λ g. g.blocks) c, ap (λ g. g.blocks) d),
  omega (arith, ap (λ g. g.held) a, ap (λ g. g.held) b, ap (λ g. g.held) c, ap (λ g. g.held) d),
)

-- an empty vector is extended by 17, of which 5 are told to be left each time
pub seventeen_told : {A : Type 0} (old new : Vector ℕ A) (iter : RemainingItems ℕ) → old.items ≡ [] → old.capacity ≡ 0 → old.growth ≡ Doubling → length iter.items ≡ 17 → iter.hint ≡ Some 5
    → Extends 4 (lower_bound_of iter.hint) old old.items iter.items (Ok tt) new → (new.capacity ≡ 24) × (new.grown.moved ≡ old.grown.moved + 18) × (new.grown.blocks ≡ old.grown.blocks + 3) × (new.grown.held ≡ max old.grown.held 36)
seventeen_told old new iter none places doubles count five x =
    let five_each : ℕ → ℕ = lower_bound_of (Some 5) in
    let needed : length old.items + length iter.items ≡ 17 = omega (arith, ap length none, count) in
    let in_steps : GrowsInSteps 4 five_each 17 old new =
    subst (λ n. GrowsInSteps 4 five_each n old new) needed (subst (λ h. GrowsInSteps 4 (lower_bound_of h) (length old.items + length iter.items) old new) five x.in_steps) in
    let enough : 17 ≤ new.capacity = omega (arith, needed, Extends-fits x) in
    let a = grows_once five_each 17 0 old new places doubles (omega arith) (λ n. refl) enough in_steps in
    let b = grows_once five_each 17 6 a.0 new a.1 a.2 (omega arith) (λ n. refl) enough a.4 in
    let d = grows_once five_each 17 12 b.0 new b.1 b.2 (omega arith) (λ n. refl) enough b.4 in
    let same = GrowsInSteps-fits 4 five_each 17 d.4 (omega (arith, d.1)) in
    let cost = three_steps old.grown a.0.grown b.0.grown d.0.grown new.grown a.3 b.3 d.3 same.grown in
    (omega (arith, same.capacity, d.1), cost.0, cost.1, cost.2)

-- a vector without places for all items, of which their hint says how many there are, grows once
pub counted_once : {T A : Type 0} (size : ℕ) (iter after : RemainingItems T) (old new : Vector T A) → old.capacity < len old + length iter.items → iter.hint ≡ None → new.capacity ≤ usize_max
    → Takes takes_item (LowerExactly items_lower) iter (λ lower xs last. takes_item last None after × Extends size lower old old.items xs (Ok tt) new) → new.grown.blocks ≡ old.grown.blocks + 1
counted_once size iter after old new short counted most e =
    let fits = Extends-fits (ExtendsAll-items size iter after old new e) in
    let room = ExtendsAll-counted size iter after old new e counted (omega (arith, fits, most)) in
    ap (λ h. h.blocks) (MakesRoom-grows size old.capacity (len old + length iter.items - old.capacity) old new room (omega (arith, short))).1

-- an item from the front, and one from the back of two
one_front : {T A : Type 0} (d e : Drain T A) (r : Option T) → drains_first d r e → (x : T) (xs : List T) → drain_remaining d ≡ x ∷ xs → (drain_remaining e ≡ xs) × (taken_front e ≡ taken_front d + 1) × (taken_back e ≡ taken_back d)
one_front d e None h x xs rest = absurd (omega (arith, ap length (sym rest ∙ h.1.0)))
one_front d e (Some y) h x xs rest = (ap (drop 1) (sym h.1.0 ∙ rest), h.1.1, h.1.2)

one_back : {T A : Type 0} (d e : Drain T A) (r : Option T) → drains_last d r e → (x y : T) → drain_remaining d ≡ x ∷ y ∷ [] → (drain_remaining e ≡ x ∷ []) × (taken_front e ≡ taken_front d) × (taken_back e ≡ taken_back d + 1)
one_back d e None h x y rest = absurd (omega (arith, ap length (sym rest ∙ h.1.0)))
one_back d e (Some z) h x y rest =
    let all : drain_remaining e ++ z ∷ [] ≡ x ∷ y ∷ [] = sym h.1.0 ∙ rest in
    let one : length (drain_remaining e) ≡ 1 = omega (arith, ap length all, length-append (drain_remaining e) (z ∷ [])) in
    (sym (take_at (drain_remaining e) (z ∷ []) 1 one) ∙ ap (take 1) all, h.1.1, h.1.2)

-- of the middle half of six one is taken from each end, and the other is kept
pub middle_stays : {A : Type 0} (old new : Vector ℕ A) (d e f : Drain ℕ A) (r q : Option ℕ) → old.items ≡ 0 ∷ 1 ∷ 2 ∷ 3 ∷ 4 ∷ 5 ∷ [] → TakesRange old 1 4 d → drains_first d r e → drains_last e q f → KeepsRest f new
    → Holds old (0 ∷ 2 ∷ 4 ∷ 5 ∷ []) new × (new.written ≡ old.written + 3)
middle_stays old new d e f r q items drains first last kept =
    let a = one_front d e r first 1 (2 ∷ 3 ∷ []) (drains.rest ∙ ap (λ xs. slice_range xs 1 4) items) in
    let b = one_back e f q last 2 3 a.0 in
    let keeps = keeps-then d e f first.0 last.0 in
    let head : (drain_vec f).items ≡ 0 ∷ [] = ap (λ v. v.items) keeps.becomes ∙ ap (λ v. v.items) drains.becomes ∙ ap (take 1) items in
    let tail : drain_tail f ≡ 4 ∷ 5 ∷ [] = keeps.tail ∙ drains.tail ∙ ap (drop 4) items in
    let front : taken_front f ≡ 1 = b.1 ∙ a.1 ∙ ap (λ n. n + 1) drains.none_front in
    let back : taken_back f ≡ 1 = b.2 ∙ ap (λ n. n + 1) (a.2 ∙ drains.none_back) in
    let P : ℕ → ℕ → ℕ → ℕ → Type 0 = λ i j m n. new.written ≡ (drain_vec f).written + ((if i == 0 then 0 else m) + (if i + j == 0 then 0 else n)) in
    let w : P 1 1 1 2 =
    subst (λ i. P i 1 1 2) front (subst (λ j. P (taken_front f) j 1 2) back (subst (λ m. P (taken_front f) (taken_back f) m 2) (ap length b.0) (subst (λ n. P (taken_front f) (taken_back f) (length (drain_remaining f)) n) (ap length tail) (ap (λ v. v.written) kept)))) in (
      record {
        items = ap (λ v. v.items) kept ∙ (λ i. head i ++ (b.0 i ++ tail i));
        block = SameBlock-trans (SameBlock-becomes _ _ _ _ _ drains.becomes) (SameBlock-trans (SameBlock-becomes _ _ _ _ _ keeps.becomes) (SameBlock-becomes _ _ _ _ _ kept));
      },
      omega (arith, w, ap (λ v. v.written) keeps.becomes, ap (λ v. v.written) drains.becomes),
    )
