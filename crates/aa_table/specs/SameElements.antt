-- The laws of `==` of sets, whose elements are compared in any order.
use Rattle.std.specs.Prelude.{◌≡◌, Bool, true, false, ◌&&◌, ◌||◌, List, [], ◌∷◌}
use Rattle.std.proofs.Common.{ap, refl, sym, true≢false, ◌∙◌}
use Rattle.std.specs.Cmp.{IsEquivalence, equiv, first_so, second_so}
use Rattle.std.specs.List.{list_all}
use Rattle.std.specs.Set.{is_member}
use Rattle.aa_table.specs.SetContents.{same_elements}

and-turned : (a b : Bool) → (a && b) ≡ (b && a)
and-turned true true = refl
and-turned true false = refl
and-turned false true = refl
and-turned false false = refl

or-second : (a b : Bool) → b ≡ true → (a || b) ≡ true
or-second true b e = refl
or-second false b e = e

module _ {T : Type 0} {eq : T → T → Bool} (E : IsEquivalence eq) where
  member-alike : (ys : List T) (q x : T) → eq q x ≡ true → is_member eq ys q ≡ is_member eq ys x
  member-alike [] q x e = refl
  member-alike (y ∷ ys) q x e = λ i. E.congr q x y e i || member-alike ys q x e i

  within : (xs ys : List T) → list_all (is_member eq ys) xs ≡ true → (q : T)
      → is_member eq xs q ≡ true → is_member eq ys q ≡ true
  within [] ys h q m = absurd (true≢false (sym m))
  within (x ∷ xs) ys h q m =
      by (within xs ys (second_so (is_member eq ys x) _ h) q) (eq q x) refl m
    where
      by : (is_member eq xs q ≡ true → is_member eq ys q ≡ true) → (b : Bool) → eq q x ≡ b
          → (b || is_member eq xs q) ≡ true → is_member eq ys q ≡ true
      by rest true e n = member-alike ys q x e ∙ first_so (is_member eq ys x) _ h
      by rest false e n = rest n

  all-within : (xs ys : List T) → ((q : T) → is_member eq xs q ≡ true → is_member eq ys q ≡ true)
      → list_all (is_member eq ys) xs ≡ true
  all-within [] ys h = refl
  all-within (x ∷ xs) ys h =
      let first = h x (ap (λ b. b || is_member eq xs x) (E.refl x)) in
      let others = all-within xs ys (λ q m. h q (or-second (eq q x) (is_member eq xs q) m)) in
      λ i. first i && others i

  pub same-equiv : IsEquivalence (same_elements eq)
  same-equiv =
      equiv (record {
        symm = λ xs ys. and-turned (list_all (is_member eq ys) xs) (list_all (is_member eq xs) ys);
        trans = λ xs ys zs h k.
            let there = all-within xs zs (λ q m. within ys zs (first_so _ _ k) q
            (within xs ys (first_so _ _ h) q m)) in
            let back = all-within zs xs (λ q m. within ys xs
            (second_so (list_all (is_member eq ys) xs) _ h) q
            (within zs ys (second_so (list_all (is_member eq zs) ys) _ k) q m)) in
            λ i. there i && back i;
      })
      (λ xs i. all-within xs xs (λ q m. m) i && all-within xs xs (λ q m. m) i)
