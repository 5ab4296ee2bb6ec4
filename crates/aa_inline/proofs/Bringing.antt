-- Items of a small vector that are moved before others, and items that are moved from its end to another.
use Rattle.std.proofs.Common.{◌≡◌, ℕ, ◌+◌, ◌-◌, ◌≤◌, Bool, true, false, List, [], ◌∷◌, ◌++◌, length, take, drop, refl, sym, ap, ◌∙◌, arith, append_assoc, drop-drop, length-append, length-drop}
use Rattle.std.specs.Prelude.{if◌then◌else◌, reverse, Result, Ok, Err, IfErr, OnOk}
use Rattle.std.specs.List.{refill, slice_range}
use Rattle.std.proofs.lemmas.List.{append-nil, drop-append-le, drop_all, drop_at, length-reverse, length-take-le, reverse-append, take-append-le, take_all, take_at}
use Rattle.aa_inline.specs.Extending.{with_tail_at}
use Rattle.aa_inline.specs.Inlined.{Inlined, with_written, HasRoom}
use Rattle.aa_inline.specs.Lends.{written}
use Rattle.aa_inline.proofs.Extending.{with_written-with_written, with_written-none}

module _ {X : Type 0} where
  -- those from n on, rotated to i
  pub with_tail_at-is : (xs : List X) (i n : ℕ) → i ≤ n → take i xs ++ (drop (n - i) (drop i xs) ++ take (n - i) (drop i xs)) ≡ with_tail_at i n xs
  with_tail_at-is xs i n h =
      let all : i + (n - i) ≡ n = omega arith in
      ap (λ ys. take i xs ++ (ys ++ slice_range xs i n)) (drop-drop (n - i) i xs ∙ ap (λ k. drop k xs) all) ∙ sym (append_assoc (take i xs) (drop n xs) (slice_range xs i n))

  pub length-with_tail_at : (xs : List X) (i n : ℕ) → i ≤ n → n ≤ length xs → length (with_tail_at i n xs) ≡ length xs
  length-with_tail_at xs i n h few =
      let back = drop i xs in
      omega (arith, h, few, length-append (take i xs ++ drop n xs) (slice_range xs i n), length-append (take i xs) (drop n xs), length-take-le i xs (omega arith), length-drop n xs, length-drop i xs, length-take-le (n - i) back (omega (arith, length-drop i xs)))

  -- ys were appended to xs, and moved before the one at i
  pub with_tail_at-append : (xs ys : List X) (i n : ℕ) → i ≤ n → n ≡ length xs → with_tail_at i n (xs ++ ys) ≡ take i xs ++ (ys ++ drop i xs)
  with_tail_at-append xs ys i n h e =
      rw (take-append-le i xs ys (omega arith), drop_at xs ys n (sym e), drop-append-le i xs ys (omega arith), take_at (drop i xs) ys (n - i) (omega (arith, e, length-drop i xs)))
      (append_assoc (take i xs) ys (drop i xs))

  -- the range was moved to the end: what is before it there, and the range
  module _ (xs : List X) (i n k : ℕ) (k-is : k ≡ length xs - (n - i)) (h : i ≤ n) (few : n ≤ length xs) where
    others-count : length (take i xs ++ drop n xs) ≡ k
    others-count = omega (arith, k-is, h, few, length-append (take i xs) (drop n xs), length-take-le i xs (omega arith), length-drop n xs)

    pub take-others : take k (with_tail_at i n xs) ≡ take i xs ++ drop n xs
    take-others = take_at (take i xs ++ drop n xs) (slice_range xs i n) k others-count

    pub drop-others : drop k (with_tail_at i n xs) ≡ slice_range xs i n
    drop-others = drop_at (take i xs ++ drop n xs) (slice_range xs i n) k others-count

  -- and it was removed there
  pub range-left : (xs ys zs : List X) (i n : ℕ) → with_tail_at i n xs ≡ ys ++ reverse zs → length ys ≡ length xs - (n - i) → i ≤ n → n ≤ length xs → ys ≡ take i xs ++ drop n xs
  range-left xs ys zs i n e long h few =
      sym (take_at ys (reverse zs) (length ys) refl) ∙ ap (take (length ys)) (sym e) ∙ take-others xs i n (length ys) long h few

  pub range-taken : (xs ys zs : List X) (i n : ℕ) → with_tail_at i n xs ≡ ys ++ reverse zs → length ys ≡ length xs - (n - i) → i ≤ n → n ≤ length xs → reverse zs ≡ slice_range xs i n
  range-taken xs ys zs i n e long h few =
      sym (drop_at ys (reverse zs) (length ys) refl) ∙ ap (drop (length ys)) (sym e) ∙ drop-others xs i n (length ys) long h few

  -- a range to the end
  pub range-to_end : (xs : List X) (i n : ℕ) → n ≡ length xs → slice_range xs i n ≡ drop i xs
  range-to_end xs i n e = take_all (n - i) (drop i xs) (omega (arith, e, length-drop i xs))

  pub none-after : (xs : List X) (i n : ℕ) → n ≡ length xs → take i xs ++ drop n xs ≡ take i xs
  none-after xs i n e = ap (λ ys. take i xs ++ ys) (drop_all n xs (omega (arith, e))) ∙ append-nil (take i xs)

  pub length-range : (xs : List X) (i n : ℕ) → i ≤ n → n ≤ length xs → length (slice_range xs i n) ≡ n - i
  length-range xs i n h few = length-take-le (n - i) (drop i xs) (omega (arith, few, length-drop i xs))

  -- one more of the items was moved
  pub moved-on : (ys ws zs os : List X) (x : X) → ys ++ reverse zs ≡ os → ys ≡ ws ++ x ∷ [] → ws ++ reverse (zs ++ x ∷ []) ≡ os
  moved-on ys ws zs os x e f =
      ap (λ l. ws ++ l) (reverse-append zs (x ∷ [])) ∙ sym (append_assoc ws (x ∷ []) (reverse zs)) ∙ ap (λ l. l ++ reverse zs) (sym f) ∙ e

-- as many items as there were are what they are written as
rewritten_by : {X : Type 0} (b : Bool) (n : ℕ) (xs ws : List X) → length ws ≡ n → (if b then refill n xs ws else ws) ≡ ws
rewritten_by true n xs ws e = take_at ws (drop (length ws) xs) n e
rewritten_by false n xs ws e = refl

module _ {T A : Type 0} where
  pub written-same : (s : Inlined T A) (ws : List T) → length ws ≡ length s.items → written s ws ≡ ws
  written-same s ws e = rewritten_by s.spilled (length s.items) s.items ws e

  -- the items that were appended to an empty one, so far
  pub put-none : (s : Inlined T A) → s.items ≡ [] → s ≡ with_written s s.items (length s.items)
  put-none s e = sym (with_written-none s) ∙ ap (λ n. with_written s s.items n) (sym (ap length e))

  pub put-on : (old mid new : Inlined T A) (x : T) → mid ≡ with_written old mid.items (length mid.items) → new ≡ with_written mid (mid.items ++ x ∷ []) 1 → new ≡ with_written old new.items (length new.items)
  put-on old mid new x e f =
      let items : mid.items ++ x ∷ [] ≡ new.items = ap (λ s. s.items) (sym f) in
      let count : length mid.items + 1 ≡ length new.items = omega (arith, length-append mid.items (x ∷ []), ap length items) in
      f ∙ ap (λ s. with_written s (mid.items ++ x ∷ []) 1) e ∙ with_written-with_written old mid.items (mid.items ++ x ∷ []) (length mid.items) 1 ∙ (λ t. with_written old (items t) (count t))

  pub room-on : (N : ℕ) (old new : Inlined T A) (x : T) (m n : ℕ) → new ≡ with_written old (old.items ++ x ∷ []) 1 → HasRoom N old m → n + 1 ≡ m → HasRoom N new n
  room-on N old new x m n e room one = rw e (omega (arith, length-append old.items (x ∷ []), room, one))

module _ {T A E : Type 0} (s new : Inlined T A) (f : Inlined T A → Inlined T A) (is : new ≡ f s) where
  -- what holds of one is said of the one that it came from
  pub done-of : (r : Result Unit E) (P : Inlined T A → Type 0) → OnOk r (P s) → OnOk r ((x : Inlined T A) × P x × (new ≡ f x))
  done-of (Ok u) P p = (s, p, is)
  done-of (Err e) P p = tt

  pub failed-of : (r : Result Unit E) (P : E → Inlined T A → Type 0) → IfErr r (λ e. P e s) → IfErr r (λ e. (x : Inlined T A) × P e x × (new ≡ f x))
  failed-of (Ok u) P p = tt
  failed-of (Err e) P p = (s, p, is)

-- the items that were appended are inserted at `i`
pub came-in : {S T E : Type 0} (r : Result Unit E) (P : S → Type 0) (D : S → List T → Type 0) (old mid new : List T) (i n : ℕ) → i ≤ n → n ≡ length old → new ≡ with_tail_at i n mid
    → OnOk r ((it : S) × P it × (xs : List T) × D it xs × (mid ≡ old ++ xs)) → OnOk r ((it : S) × P it × (xs : List T) × D it xs × (new ≡ take i old ++ (xs ++ drop i old)))
came-in (Ok u) P D old mid new i n h e is p = (p.0, p.1, p.2, p.3, is ∙ ap (with_tail_at i n) p.4 ∙ with_tail_at-append old p.2 i n h e)
came-in (Err x) P D old mid new i n h e is p = tt

pub ruleset bringing = (with_tail_at-is, length-drop, length-with_tail_at, length-reverse, written-same)

pub ruleset moving = (moved-on, put-none, put-on, room-on, length-append)

pub ruleset ranging = (length-with_tail_at, with_tail_at-append, range-left, range-taken, length-range)

pub ruleset draining = (take-others, drop-others, length-with_tail_at, length-range)

pub ruleset splitting = (range-to_end, none-after)

pub ruleset gathering = (length-append, append_assoc)
