-- What calls of a `Few` need: items at the first places of an array, and a value that is carried through a list.
use Rattle.std.proofs.Common.{◌≡◌, ℕ, zero, suc, ◌+◌, ◌-◌, ◌<◌, ◌≤◌, List, [], ◌∷◌, ◌++◌, length, take, drop, get_or, Some, refl, sym, ap, ap₂, ◌∙◌, arith, length-set, length-take-le, take-take, length-append, length-drop}
use Rattle.std.specs.Iterator.{MakesProgress, item_count}
use Rattle.std.specs.Prelude.{None, Option, MatchOption, insert, remove, slice_get, slice_set, swap_remove}
use Rattle.aa_inline.specs.FewInner.{in_front}
use Rattle.std.proofs.lemmas.Bool.Decides.{nat_tests}
use Rattle.std.proofs.Math.Seq.{get_or-append_seam}
use Rattle.std.proofs.lemmas.Grind.{take-set_at}
use Rattle.std.proofs.lemmas.Option.{get_or_from_slice_get}
use Rattle.std.proofs.lemmas.List.{take_at, drop-append-le, drop-set-lt, drop_all, drop_more, take_all, take_more, take-set-le}

module _ {X : Type 0} where
  pub front : (xs : List X) (m n : ℕ) → length xs ≡ m → n ≤ m → in_front m n xs ≡ take n xs
  front xs m n e h = ap (λ k. take k xs) (omega (arith, e, h))

  pub front-none : (xs : List X) (m : ℕ) → length xs ≡ m → in_front m 0 xs ≡ []
  front-none xs m e = front xs m 0 e (omega arith)

  -- the borrowed ones, written anew
  pub front-lent : (xs ys : List X) (m n : ℕ) → length xs ≡ m → n ≤ m → in_front m n (ys ++ drop n xs) ≡ ys
  front-lent xs ys m n e h = take_at ys (drop n xs) (length (ys ++ drop n xs) - (m - n)) (omega (arith, e, h, length-append ys (drop n xs), length-drop n xs))

  -- items that fill all places are the places
  pub front-full : (xs : List X) (m n : ℕ) → length xs ≡ m → n ≤ m → length (in_front m n xs) ≡ m → xs ≡ in_front m n xs
  front-full xs m n e h full =
      let all : n ≡ m = omega (arith, sym (length-take-le n xs (omega (arith, e, h))), sym (ap length (front xs m n e h)), full) in
      sym (front xs m n e h ∙ take_all n xs (omega (arith, all, e)))

  -- one more of the first, and one of them written anew
  pub take-push : (xs : List X) (n : ℕ) (x : X) → n < length xs → take (n + 1) (slice_set xs n x) ≡ take n xs ++ x ∷ []
  take-push xs n x room = take-set_at xs n (n + 1) x refl room

  pub take-set_in : (xs : List X) (n i : ℕ) (x : X) → i < n → take n (slice_set xs i x) ≡ slice_set (take n xs) i x
  take-set_in xs zero i x h = absurd (omega (arith, h))
  take-set_in [] (suc n) i x h = refl
  take-set_in (y ∷ xs) (suc n) zero x h = refl
  take-set_in (y ∷ xs) (suc n) (suc i) x h = ap (λ ys. y ∷ ys) (take-set_in xs n i x (omega (arith, h)))

  pub get-in_front : (xs : List X) (n i : ℕ) (x : X) → i < n → n ≤ length xs → x ≡ get_or xs i x → slice_get (take n xs) i ≡ Some x
  get-in_front xs zero i x h few e = absurd (omega (arith, h))
  get-in_front [] (suc n) i x h few e = absurd (omega (arith, few))
  get-in_front (y ∷ xs) (suc n) zero x h few e = ap Some (sym e)
  get-in_front (y ∷ xs) (suc n) (suc i) x h few e = get-in_front xs n i x (omega (arith, h)) (omega (arith, few)) e

  -- the last of them taken, where a blank takes its place
  pub take-pop : (xs : List X) (n : ℕ) (x b : X) → 0 < n → n ≤ length xs → x ≡ get_or xs (n - 1) x → take n xs ≡ take (n - 1) (slice_set xs (n - 1) b) ++ x ∷ []
  take-pop xs n x b some few e =
      let next : n - 1 + 1 ≡ n = omega arith in
      (λ t. take (sym next t) xs) ∙ take_more xs (n - 1) x (omega arith) ∙ ap (λ y. take (n - 1) xs ++ y ∷ []) (sym e) ∙ ap (λ ys. ys ++ x ∷ []) (sym (take-set-le (n - 1) xs (n - 1) b (omega arith)))

  -- the last of them taken, and put in the place of the one at i
  pub swap-removed : (xs ys : List X) (x d : X) (i : ℕ) → xs ≡ ys ++ x ∷ [] → i < length ys → slice_set ys i x ≡ swap_remove xs i d
  swap-removed xs ys x d i e few =
      let n : length xs - 1 ≡ length ys = omega (arith, ap length e, length-append ys (x ∷ [])) in
      let last : get_or xs (length ys) d ≡ x = ap (λ zs. get_or zs (length ys) d) e ∙ get_or-append_seam ys x [] d in
      let front : take (length ys) xs ≡ ys = ap (take (length ys)) e ∙ take_at ys (x ∷ []) (length ys) refl in
      sym (ap (λ k. take k (slice_set xs i (get_or xs k d))) n ∙ take-set_in xs (length ys) i (get_or xs (length ys) d) few ∙ (λ t. slice_set (front t) i (last t)))

  -- one more of a list that another one ends as
  pub read_ahead : (xs ys : List X) (i : ℕ) (x d : X) → i < length ys → length ys ≡ length xs → drop i ys ≡ drop i xs → x ≡ get_or ys i d → take (i + 1) xs ≡ take i xs ++ x ∷ []
  read_ahead xs ys i x d few same e is =
      let here : get_or xs i d ≡ get_or ys i d = ap (λ zs. get_or zs 0 d) (sym (drop_more xs i d (omega (arith, few, same))) ∙ sym e ∙ drop_more ys i d few) in
      take_more xs i d (omega (arith, few, same)) ∙ ap (λ y. take i xs ++ y ∷ []) (here ∙ sym is)

  -- the items after the first i, if the next one is taken, and if the last one is
  pub left-next : (xs : List X) (i : ℕ) (x b : X) → i < length xs → slice_get xs i ≡ Some x → drop i xs ≡ x ∷ drop (i + 1) (slice_set xs i b)
  left-next xs i x b few e = drop_more xs i x few ∙ (λ t. get_or_from_slice_get xs i x x e t ∷ sym (drop-set-lt (i + 1) xs i b (omega arith)) t)

  pub left-last : (xs ys : List X) (i : ℕ) (x : X) → i < length xs → xs ≡ ys ++ x ∷ [] → drop i xs ≡ drop i ys ++ x ∷ []
  left-last xs ys i x some e = ap (drop i) e ∙ drop-append-le i ys (x ∷ []) (omega (arith, some, ap length e, length-append ys (x ∷ [])))

  -- the remaining items, if the last one, where there is one, is taken
  pub left-back : (seen xs ys : List X) (i : ℕ) (r : Option X) → drop i xs ≡ seen → i < length xs → MatchOption r ((xs ≡ []) × (ys ≡ [])) (λ x. xs ≡ ys ++ x ∷ []) → MatchOption r ((seen ≡ []) × (drop i ys ≡ [])) (λ x. seen ≡ drop i ys ++ x ∷ [])
  left-back seen xs ys i None e some p = absurd (omega (arith, some, ap length p.0))
  left-back seen xs ys i (Some x) e some p = sym e ∙ left-last xs ys i x some p

  pub fewer-back : (can : List X → Type 0) (may : (s : List X) → can s) (seen rest : List X) (r : Option X) → MatchOption r ((seen ≡ []) × (rest ≡ [])) (λ x. seen ≡ rest ++ x ∷ []) → MakesProgress can (item_count (λ s. s)) seen r rest
  fewer-back can may seen rest None p = record { on = λ f. tt; keeps = tt; rests = λ f. f }
  fewer-back can may seen rest (Some x) p = record { on = λ f. (may rest, f, omega (arith, ap length p, length-append rest (x ∷ []))); keeps = may rest; rests = λ f. tt }

  pub fewer-front : (can : List X → Type 0) (may : (s : List X) → can s) (seen rest : List X) (x : X) → seen ≡ x ∷ rest → MakesProgress can (item_count (λ s. s)) seen (Some x) rest
  fewer-front can may seen rest x p = record { on = λ f. (may rest, f, omega (arith, ap length p)); keeps = may rest; rests = λ f. tt }

  pub none-left : (xs : List X) (i : ℕ) → length xs ≤ i → drop i xs ≡ []
  none-left xs i h = drop_all i xs h

  -- the value at k is carried on, after the carried one replaced it
  pub carry : (xs : List X) (k : ℕ) (c x : X) → slice_get xs k ≡ Some x → insert (slice_set xs k c) (suc k) x ≡ insert xs k c
  carry [] k c x e = cc
  carry (y ∷ xs) zero c x e = cc
  carry (y ∷ xs) (suc k) c x e = ap (λ ys. y ∷ ys) (carry xs k c x e)

  -- the same, back
  pub carry_back : (xs : List X) (k : ℕ) (c x : X) → slice_get xs k ≡ Some x → insert xs (suc k) c ≡ insert (slice_set xs k c) k x
  carry_back [] k c x e = cc
  carry_back (y ∷ xs) zero c x e = cc
  carry_back (y ∷ xs) (suc k) c x e = ap (λ ys. y ∷ ys) (carry_back xs k c x e)

  pub insert-end : (xs : List X) (k : ℕ) (x : X) → length xs ≤ k → insert xs k x ≡ xs ++ x ∷ []
  insert-end xs k x h = ap₂ (λ p q. p ++ x ∷ q) (take_all k xs h) (drop_all k xs h)

  pub get-insert : (xs : List X) (k : ℕ) (x : X) → k ≤ length xs → slice_get (insert xs k x) k ≡ Some x
  get-insert [] k x h = let e : k ≡ 0 = omega arith in rw e
  get-insert (y ∷ xs) zero x h = refl
  get-insert (y ∷ xs) (suc k) x h = get-insert xs k x (omega arith)

  pub remove-insert : (xs : List X) (k : ℕ) (x : X) → k ≤ length xs → remove (insert xs k x) k ≡ xs
  remove-insert [] k x h = let e : k ≡ 0 = omega arith in rw e
  remove-insert (y ∷ xs) zero x h = refl
  remove-insert (y ∷ xs) (suc k) x h = ap (λ ys. y ∷ ys) (remove-insert xs k x (omega arith))

pub ruleset in_places = (front, front-none, front-full, front-lent, nat_tests, length-set, length-take-le, take-push, take-set_in, get-in_front, take-pop)

pub ruleset carried = (insert-end, get-insert, remove-insert)

pub ruleset left = (nat_tests, left-next, left-last, none-left, length-drop, length-set)

pub ruleset cut = (take-set-le, take-take, length-set)
