-- The laws of `==` of tables, whose entries are compared as maps.
use Rattle.std.specs.Prelude.{◌≡◌, Bool, true, false, cond, ◌&&◌, ◌⊎◌, List, [], ◌∷◌, Option, None, Some}
use Rattle.std.proofs.Common.{inl, inr, refl, sym, true≢false, ◌∙◌}
use Rattle.std.specs.Cmp.{IsEquivalence, IsPartialEquivalence, equiv, first_so, partial_equiv_from_equiv, second_so}
use Rattle.std.specs.List.{list_all}
use Rattle.std.specs.Option.{option_eq}
use Rattle.aa_table.specs.Contents.{agree, same_entries, value}

all-of : {X : Type 0} (t : X → Bool) → ((x : X) → t x ≡ true) → (xs : List X) → list_all t xs ≡ true
all-of t h [] = refl
all-of t h (x ∷ xs) = (λ i. h x i && list_all t xs) ∙ all-of t h xs

and-turned : (a b : Bool) → (a && b) ≡ (b && a)
and-turned true true = refl
and-turned true false = refl
and-turned false true = refl
and-turned false false = refl

module _ {V : Type 0} (like : V → V → Bool) where
  pub turned : ((x y : V) → like x y ≡ like y x) → (o p : Option V) → option_eq like o p
      ≡ option_eq like p o
  turned s None None = refl
  turned s None (Some y) = refl
  turned s (Some x) None = refl
  turned s (Some x) (Some y) = s x y

  chained : ((x y z : V) → like x y ≡ true → like y z ≡ true → like x z ≡ true)
      → (o p q : Option V) → option_eq like o p ≡ true → option_eq like p q ≡ true
      → option_eq like o q ≡ true
  chained t None None q a b = b
  chained t None (Some y) q a b = absurd (true≢false (sym a))
  chained t (Some x) None q a b = absurd (true≢false (sym a))
  chained t (Some x) (Some y) None a b = b
  chained t (Some x) (Some y) (Some z) a b = t x y z a b

  itself : ((x : V) → like x x ≡ true) → (o : Option V) → option_eq like o o ≡ true
  itself r None = refl
  itself r (Some x) = r x

module _ {K V : Type 0} (eq : K → K → Bool) (like : V → V → Bool) (E : IsEquivalence eq) where
  value-alike : (es : List (K × V)) (q k : K) → eq q k ≡ true → value eq es q ≡ value eq es k
  value-alike [] q k e = refl
  value-alike (x ∷ es) q k e = λ i. cond (E.congr q k x.0 e i) (Some x.1) (value-alike es q k e i)

  agree-alike : (es fs : List (K × V)) (q k : K) → eq q k ≡ true → agree eq like es fs q
      ≡ agree eq like es fs k
  agree-alike es fs q k e = λ i. option_eq like (value-alike es q k e i) (value-alike fs q k e i)

  -- the key `q` has no value in `part`, or both agree at it
  pub none-or-agree : (es fs part : List (K × V)) (q : K)
      → list_all (λ e. agree eq like es fs e.0) part ≡ true
      → (value eq part q ≡ None) ⊎ (agree eq like es fs q ≡ true)
  none-or-agree es fs [] q h = inl refl
  none-or-agree es fs (e ∷ part) q h =
      by (eq q e.0) refl (none-or-agree es fs part q (second_so (agree eq like es fs e.0) _ h))
    where
      by : (b : Bool) → eq q e.0 ≡ b
          → (value eq part q ≡ None) ⊎ (agree eq like es fs q ≡ true)
          → (value eq (e ∷ part) q ≡ None) ⊎ (agree eq like es fs q ≡ true)
      by true t r =
          inr (agree-alike es fs q e.0 t ∙ first_so (agree eq like es fs e.0) _ h)
      by false f (inl n) = inl ((λ i. cond (f i) (Some e.1) (value eq part q)) ∙ n)
      by false f (inr a) = inr a

  none-in-both : (es fs : List (K × V)) (q : K)
      → (value eq es q ≡ None) ⊎ (agree eq like es fs q ≡ true)
      → (value eq fs q ≡ None) ⊎ (agree eq like es fs q ≡ true) → agree eq like es fs q ≡ true
  none-in-both es fs q (inr a) s = a
  none-in-both es fs q (inl n) (inr a) = a
  none-in-both es fs q (inl n) (inl m) = λ i. option_eq like (n i) (m i)

  agree-all : (es fs : List (K × V)) → same_entries eq like es fs ≡ true → (q : K)
      → agree eq like es fs q ≡ true
  agree-all es fs h q =
      none-in-both es fs q (none-or-agree es fs es q (first_so _ _ h))
      (none-or-agree es fs fs q (second_so (list_all (λ e. agree eq like es fs e.0) es) _ h))

  same-from : (es fs : List (K × V)) → ((q : K) → agree eq like es fs q ≡ true)
      → same_entries eq like es fs ≡ true
  same-from es fs h =
      let all = all-of (λ (e : K × V). agree eq like es fs e.0) (λ e. h e.0) in
      λ i. all es i && all fs i

  pub same-per : IsPartialEquivalence like → IsPartialEquivalence (same_entries eq like)
  same-per v = record {
    symm = λ es fs.
        let each = λ (e : K × V). turned like v.symm (value eq es e.0) (value eq fs e.0) in
        and-turned (list_all (λ e. agree eq like es fs e.0) es)
        (list_all (λ e. agree eq like es fs e.0) fs)
        ∙ (λ i. list_all (λ e. each e i) fs && list_all (λ e. each e i) es);
    trans = λ es fs gs h k. same-from es gs (λ q.
        chained like v.trans (value eq es q) (value eq fs q) (value eq gs q)
        (agree-all es fs h q) (agree-all fs gs k q));
  }

  pub same-equiv : IsEquivalence like → IsEquivalence (same_entries eq like)
  same-equiv v =
      equiv (same-per (partial_equiv_from_equiv v))
      (λ es. same-from es es (λ q. itself like v.refl (value eq es q)))
