-- Items that are moved from one end of a ring to the other, one by one.
use Rattle.std.proofs.Common.{◌≡◌, ℕ, ◌+◌, ◌-◌, ◌<◌, ◌≤◌, List, [], ◌∷◌, ◌++◌, length, take, drop, get_or, sym, ap, ◌∙◌, arith, append_assoc}
use Rattle.std.specs.Prelude.{reverse}
use Rattle.std.proofs.lemmas.Bool.Decides.{nat_tests}
use Rattle.std.proofs.lemmas.List.{append-nil, drop_all, drop_more, reverse-append, reverse-reverse, take_all, take_more}
use Rattle.aa_ring.proofs.Rings.{length-turned}

module _ {X : Type 0} where
  -- the first is moved to the back
  pub turned_on : (xs ys : List X) (i : ℕ) (x : X) → i < length xs → drop i xs ++ take i xs ≡ x ∷ ys → ys ++ x ∷ [] ≡ drop (i + 1) xs ++ take (i + 1) xs
  turned_on xs ys i x few e =
      let a : X = get_or xs i x in let b : List X = drop (i + 1) xs in let c : List X = take i xs in
      let whole : a ∷ (b ++ c) ≡ x ∷ ys = ap (λ zs. zs ++ c) (sym (drop_more xs i x few)) ∙ e in
      let head : a ≡ x = ap (λ zs. get_or zs 0 x) whole in let tail : b ++ c ≡ ys = ap (drop 1) whole in
      (λ t. sym tail t ++ sym head t ∷ []) ∙ append_assoc b c (a ∷ []) ∙ ap (λ zs. b ++ zs) (sym (take_more xs i x few))

  -- and the last to the front
  pub turned_back : (xs ys : List X) (n : ℕ) (x : X) → 0 < n → n ≤ length xs → drop n xs ++ take n xs ≡ ys ++ x ∷ [] → x ∷ ys ≡ drop (n - 1) xs ++ take (n - 1) xs
  turned_back xs ys n x some few e =
      let i : ℕ = n - 1 in let next : i + 1 ≡ n = omega arith in
      let a : X = get_or xs i x in let b : List X = drop (i + 1) xs in let c : List X = take i xs in
      let whole : (b ++ c) ++ a ∷ [] ≡ ys ++ x ∷ [] =
      append_assoc b c (a ∷ []) ∙ ap (λ zs. b ++ zs) (sym (take_more xs i x (omega arith))) ∙ (λ t. drop (next t) xs ++ take (next t) xs) ∙ e in
      let flip : a ∷ reverse (b ++ c) ≡ x ∷ reverse ys = sym (reverse-append (b ++ c) (a ∷ [])) ∙ ap reverse whole ∙ reverse-append ys (x ∷ []) in
      let head : a ≡ x = ap (λ zs. get_or zs 0 x) flip in
      let tail : b ++ c ≡ ys = sym (reverse-reverse (b ++ c)) ∙ ap (λ zs. reverse (drop 1 zs)) flip ∙ reverse-reverse ys in
      (λ t. sym head t ∷ sym tail t) ∙ ap (λ zs. zs ++ c) (sym (drop_more xs i x (omega arith)))

pub ruleset turning = (nat_tests, turned_on, turned_back, append-nil, drop_all, take_all, length-turned)
