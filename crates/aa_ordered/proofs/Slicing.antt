-- A slice of a list, one item shorter at either end.
use Rattle.std.proofs.Common.{◌≡◌, ◌+◌, ◌-◌, ◌≤◌, ◌<◌, ◌++◌, ℕ, suc, List, [], ◌∷◌, ap, sym, arith, length, take, drop, get_or, ◌∙◌, length-drop}
use Rattle.std.specs.Prelude.{slice_range}
use Rattle.std.proofs.lemmas.List.{drop_more, take_more, drop-drop, drop-take, get_or-drop, get_or-take, take-take, length-take-le}

module _ {X : Type 0} (xs : List X) where
  pub slice-length : (f e : ℕ) → f ≤ e → e ≤ length xs → length (slice_range xs f e) ≡ e - f
  slice-length f e h l = length-take-le (e - f) (drop f xs) (omega (arith, length-drop f xs))

  pub slice-drop : (f e n : ℕ) → f + n ≤ e → slice_range xs (f + n) e ≡ drop n (slice_range xs f e)
  slice-drop f e n h =
      let more : e - f ≡ n + (e - (f + n)) = omega arith in
      sym (rw more (drop-take n (e - (f + n)) (drop f xs) ∙ ap (take (e - (f + n))) (drop-drop n f xs)))

  pub slice-take : (f e n : ℕ) → f + n ≤ e → slice_range xs f (f + n) ≡ take n (slice_range xs f e)
  slice-take f e n h =
      let is : f + n - f ≡ n = omega arith in
      rw is (sym (take-take n (e - f) (drop f xs) (omega arith)))

  pub slice-get : (f e i : ℕ) (d : X) → f + i < e → get_or (slice_range xs f e) i d ≡ get_or xs (f + i) d
  slice-get f e i d h = get_or-take (e - f) (drop f xs) i d (omega arith) ∙ get_or-drop f xs i d

  pub slice-first : (f e : ℕ) (x : X) → f < e → e ≤ length xs → x ≡ get_or xs f x → slice_range xs f e ≡ x ∷ slice_range xs (f + 1) e
  slice-first f e x h l is =
      let more : e - f ≡ suc (e - (f + 1)) = omega arith in
      rw more (ap (take (suc (e - (f + 1)))) (drop_more xs f x (omega (arith, l, h))) ∙ ap (λ y. y ∷ take (e - (f + 1)) (drop (f + 1) xs)) (sym is))

  pub slice-last : (f e : ℕ) (x : X) → f < e → e ≤ length xs → x ≡ get_or xs (e - 1) x → slice_range xs f e ≡ slice_range xs f (e - 1) ++ x ∷ []
  slice-last f e x h l is =
      let more : e - f ≡ (e - 1 - f) + 1 = omega arith in
      let at : f + (e - 1 - f) ≡ e - 1 = omega arith in
      rw more (take_more (drop f xs) (e - 1 - f) x (omega (arith, length-drop f xs, l, h))
      ∙ ap (λ y. take (e - 1 - f) (drop f xs) ++ y ∷ []) (get_or-drop f xs (e - 1 - f) x ∙ ap (λ i. get_or xs i x) at ∙ sym is))
