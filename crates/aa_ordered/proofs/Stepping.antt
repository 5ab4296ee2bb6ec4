-- Steps of a search that pass over entries that a key reaches.
use Rattle.std.proofs.Common.{◌+◌, ◌-◌, ◌*◌, ◌<◌, ◌≤◌, ℕ, suc, zero, List, [], ◌∷◌, arith, take, drop}
use Rattle.std.proofs.Math.Nat.{mul-le-mul_right}
use Rattle.std.proofs.lemmas.List.Elements.{All-cons, All-drop, All-head, All-nil, All-tail}
use Rattle.std.specs.declared.cmp.Ordering.{Ordering}
use Rattle.aa_ordered.specs.Entries.{AreGreater, AreLess}
use Rattle.aa_ordered.proofs.Order.{IsAbove, IsBelow}

module _ {K V : Type 0} (order : K → Ordering) where
  -- fewer entries
  pub less-fewer : (es : List (K × V)) (m n : ℕ) → m ≤ n → AreLess order (take n es) → AreLess order (take m es)
  less-fewer es zero n h a = All-nil (IsBelow order)
  less-fewer [] (suc m) n h a = All-nil (IsBelow order)
  less-fewer (x ∷ es) (suc m) zero h a = absurd (omega (arith, h))
  less-fewer (x ∷ es) (suc m) (suc n) h a = All-cons (IsBelow order) x (take m es) (All-head (IsBelow order) x (take n es) a) (less-fewer es m n (omega (arith, h)) (All-tail (IsBelow order) x (take n es) a))

  pub greater-fewer : (es : List (K × V)) (m n : ℕ) → m ≤ n → AreGreater order (drop m es) → AreGreater order (drop n es)
  greater-fewer es zero n h a = All-drop (IsAbove order) n es a
  greater-fewer [] (suc m) n h a = All-drop (IsAbove order) n [] (All-nil (IsAbove order))
  greater-fewer (x ∷ es) (suc m) zero h a = absurd (omega (arith, h))
  greater-fewer (x ∷ es) (suc m) (suc n) h a = greater-fewer es m n (omega (arith, h)) a

  -- one step
  pub less-one : (es : List (K × V)) (low r : ℕ) → r ≤ 1 → AreLess order (take low es) → (0 < r → AreLess order (take (low + 1) es)) → AreLess order (take (low + r) es)
  less-one es low zero h a f = less-fewer es (low + 0) low (omega arith) a
  less-one es low (suc r) h a f = less-fewer es (low + suc r) (low + 1) (omega (arith, h)) (f (omega arith))

  pub greater-one : (es : List (K × V)) (low r n : ℕ) → 1 < n → AreGreater order (drop (low + n) es) → (r < 1 → AreGreater order (drop (low + 1) es)) → AreGreater order (drop (low + r + (n - 1)) es)
  greater-one es low zero n h a f = greater-fewer es (low + 1) (low + 0 + (n - 1)) (omega (arith, h)) (f (omega arith))
  greater-one es low (suc r) n h a f = greater-fewer es (low + n) (low + suc r + (n - 1)) (omega (arith, h)) a

  -- three steps of `q` entries
  pub less-three : (es : List (K × V)) (low q a b c : ℕ) → a ≤ 1 → b ≤ 1 → c ≤ 1 → AreLess order (take low es) → (0 < a → AreLess order (take (low + q) es)) → (0 < b → AreLess order (take (low + 2 * q) es)) → (0 < c → AreLess order (take (low + 3 * q) es))
      → AreLess order (take (low + (a + b + c) * q) es)
  less-three es low q a b (suc c) ha hb hc p f g h =
      let m : (a + b + suc c) * q ≤ 3 * q = mul-le-mul_right q (omega (arith, ha, hb, hc)) in
      less-fewer es (low + (a + b + suc c) * q) (low + 3 * q) (omega (arith, m)) (h (omega arith))
  less-three es low q a (suc b) zero ha hb hc p f g h =
      let m : (a + suc b + 0) * q ≤ 2 * q = mul-le-mul_right q (omega (arith, ha, hb)) in
      less-fewer es (low + (a + suc b + 0) * q) (low + 2 * q) (omega (arith, m)) (g (omega arith))
  less-three es low q (suc a) zero zero ha hb hc p f g h =
      let m : (suc a + 0 + 0) * q ≤ 1 * q = mul-le-mul_right q (omega (arith, ha)) in
      less-fewer es (low + (suc a + 0 + 0) * q) (low + q) (omega (arith, m)) (f (omega arith))
  less-three es low q zero zero zero ha hb hc p f g h = less-fewer es (low + (0 + 0 + 0) * q) low (omega arith) p

  pub greater-three : (es : List (K × V)) (low q n a b c : ℕ) → 4 * q ≤ n → AreGreater order (drop (low + n) es) → (a < 1 → AreGreater order (drop (low + q) es)) → (b < 1 → AreGreater order (drop (low + 2 * q) es)) → (c < 1 → AreGreater order (drop (low + 3 * q) es))
      → AreGreater order (drop (low + (a + b + c) * q + (n - 3 * q)) es)
  greater-three es low q n zero b c hn p f g h =
      let m : 0 * q ≤ (0 + b + c) * q = mul-le-mul_right q (omega arith) in
      greater-fewer es (low + q) (low + (0 + b + c) * q + (n - 3 * q)) (omega (arith, m, hn)) (f (omega arith))
  greater-three es low q n (suc a) zero c hn p f g h =
      let m : 1 * q ≤ (suc a + 0 + c) * q = mul-le-mul_right q (omega arith) in
      greater-fewer es (low + 2 * q) (low + (suc a + 0 + c) * q + (n - 3 * q)) (omega (arith, m, hn)) (g (omega arith))
  greater-three es low q n (suc a) (suc b) zero hn p f g h =
      let m : 2 * q ≤ (suc a + suc b + 0) * q = mul-le-mul_right q (omega arith) in
      greater-fewer es (low + 3 * q) (low + (suc a + suc b + 0) * q + (n - 3 * q)) (omega (arith, m, hn)) (h (omega arith))
  greater-three es low q n (suc a) (suc b) (suc c) hn p f g h =
      let m : 3 * q ≤ (suc a + suc b + suc c) * q = mul-le-mul_right q (omega arith) in
      greater-fewer es (low + n) (low + (suc a + suc b + suc c) * q + (n - 3 * q)) (omega (arith, m, hn)) p
