-- One look-up for each entry decides whether two tables are equal.
use Rattle.std.proofs.Common.{All, Bool, List, None, Option, Some, [], ap, arith, false, inl, inr, length, refl, sym, true, true≢false, ◌∙◌, ◌∷◌, ◌≡◌, ◌≢◌}
use Rattle.std.specs.Prelude.{is_some, ◌&&◌}
use Rattle.std.specs.Cmp.{IsEquivalence, IsPartialEquivalence, first_so, second_so}
use Rattle.std.specs.List.{list_all}
use Rattle.std.specs.Option.{option_eq}
use Rattle.std.proofs.lemmas.List.Elements.{All-cons, All-head, All-nil, All-tail}
use Rattle.aa_table.specs.Contents.{agree, keys_like, same_entries, value, IsMap}
use Rattle.aa_table.specs.SameEntries.{none-or-agree, turned}
use Rattle.aa_table.proofs.Matching.{as-many, covered, covers}
use Rattle.aa_table.proofs.Maps.{keys-cons}

module _ {X : Type 0} where
  all-alike : (t u : X → Bool) (xs : List X) → All (λ x. t x ≡ u x) xs → list_all t xs ≡ list_all u xs
  all-alike t u [] h = refl
  all-alike t u (x ∷ xs) h = grind (arith, All-head (λ y. t y ≡ u y) x xs h, all-alike t u xs (All-tail (λ y. t y ≡ u y) x xs h))

module _ {K V : Type 0} (eq : K → K → Bool) (like : V → V → Bool) (E : IsEquivalence eq) where
  -- the entry is what its key has
  abbrev Owns : List (K × V) → K × V → Type 0
  Owns es e = value eq es e.0 ≡ Some e.1

  owns-later : (e : K × V) (es part : List (K × V)) → keys_like eq e.0 part ≡ 0 → All (Owns es) part → All (Owns (e ∷ es)) part
  owns-later e es [] n h = All-nil (Owns (e ∷ es))
  owns-later e es (f ∷ part) n h =
      let own : Owns es f = All-head (Owns es) f part h in
      let apart : eq f.0 e.0 ≡ false = grind (arith, n, keys-cons eq e.0 f part, E.symm f.0 e.0) in
      All-cons (Owns (e ∷ es)) f part (grind (arith, own, apart)) (owns-later e es part (omega (arith, n, keys-cons eq e.0 f part)) (All-tail (Owns es) f part h))

  owns : (es : List (K × V)) → IsMap eq es → All (Owns es) es
  owns [] m = All-nil (Owns [])
  owns (e ∷ es) m =
      let none : keys_like eq e.0 es ≡ 0 = grind (arith, m e.0, keys-cons eq e.0 e es, E.refl e.0) in
      let first : Owns (e ∷ es) e = grind (arith, E.refl e.0) in
      All-cons (Owns (e ∷ es)) e es first (owns-later e es es none (owns es (λ q. omega (arith, m q, keys-cons eq q e es))))

  -- an entry of `es` is looked up in `fs`
  abbrev has : List (K × V) → K × V → Bool
  has fs e = option_eq like (Some e.1) (value eq fs e.0)

  alike-of : (es fs part : List (K × V)) → All (Owns es) part → All (λ e. agree eq like es fs e.0 ≡ has fs e) part
  alike-of es fs [] h = All-nil (λ e. agree eq like es fs e.0 ≡ has fs e)
  alike-of es fs (e ∷ part) h =
      let own : Owns es e = All-head (Owns es) e part h in
      All-cons (λ e. agree eq like es fs e.0 ≡ has fs e) e part (rw own refl) (alike-of es fs part (All-tail (Owns es) e part h))

  by-entries : (es fs : List (K × V)) → IsMap eq es → list_all (λ e. agree eq like es fs e.0) es ≡ list_all (has fs) es
  by-entries es fs m = all-alike (λ e. agree eq like es fs e.0) (has fs) es (alike-of es fs es (owns es m))

  pub decided : IsPartialEquivalence like → (es fs : List (K × V)) → IsMap eq es → IsMap eq fs → (list_all (has fs) es && list_all (has es) fs) ≡ same_entries eq like es fs
  decided v es fs m n =
      let each = λ (e : K × V). turned like v.symm (value eq fs e.0) (value eq es e.0) in
      let back : list_all (has es) fs ≡ list_all (λ e. agree eq like es fs e.0) fs = sym (by-entries fs es n) ∙ (λ i. list_all (λ e. each e i) fs) in
      λ i. sym (by-entries es fs m) i && back i

  pub unlike : IsPartialEquivalence like → (es fs : List (K × V)) → IsMap eq es → IsMap eq fs → list_all (has fs) es ≡ false → false ≡ same_entries eq like es fs
  unlike v es fs m n e = (λ i. sym e i && list_all (has es) fs) ∙ decided v es fs m n

  some-of : (x : V) (o : Option V) → option_eq like (Some x) o ≡ true → is_some o ≡ true
  some-of x None h = h
  some-of x (Some y) h = refl

  covers-of : (fs part : List (K × V)) → list_all (has fs) part ≡ true → covers eq E fs part ≡ true
  covers-of fs [] h = refl
  covers-of fs (e ∷ part) h =
      let first = some-of e.1 (value eq fs e.0) (first_so (has fs e) (list_all (has fs) part) h) in
      let later = covers-of fs part (second_so (has fs e) (list_all (has fs) part) h) in
      λ i. first i && later i

  agreeing : (es fs part : List (K × V)) → list_all (λ e. agree eq like es fs e.0) es ≡ true → covers eq E es part ≡ true → list_all (λ e. agree eq like es fs e.0) part ≡ true
  agreeing es fs [] h c = refl
  agreeing es fs (f ∷ part) h c =
      let some = first_so (is_some (value eq es f.0)) (covers eq E es part) c in
      let first : agree eq like es fs f.0 ≡ true = elim (none-or-agree eq like E es fs es f.0 h) [
        | inl n ↦ absurd (true≢false (sym some ∙ ap is_some n))
        | inr a ↦ a
      ] in
      let later = agreeing es fs part h (second_so (is_some (value eq es f.0)) (covers eq E es part) c) in
      λ i. first i && later i

  -- of as many entries, those of one table decide
  pub decided-once : IsPartialEquivalence like → (es fs : List (K × V)) → IsMap eq es → IsMap eq fs → length es ≡ length fs → list_all (has fs) es ≡ same_entries eq like es fs
  decided-once v es fs m n l = by (list_all (has fs) es) refl
    where
      by : (b : Bool) → list_all (has fs) es ≡ b → b ≡ same_entries eq like es fs
      by true t =
          let here = by-entries es fs m ∙ t in
          let there = agreeing es fs fs here (covered eq E es fs m l (covers-of fs es t)) in
          λ i. sym here i && sym there i
      by false f = unlike v es fs m n f

  pub unlike-many : IsPartialEquivalence like → (es fs : List (K × V)) → IsMap eq es → IsMap eq fs → length es ≢ length fs → false ≡ same_entries eq like es fs
  unlike-many v es fs m n l = by (same_entries eq like es fs) refl
    where
      by : (b : Bool) → same_entries eq like es fs ≡ b → false ≡ b
      by true t =
          let both = decided v es fs m n ∙ t in
          let here = as-many eq E es fs m (covers-of fs es (first_so (list_all (has fs) es) (list_all (has es) fs) both)) in
          let there = as-many eq E fs es n (covers-of es fs (second_so (list_all (has fs) es) (list_all (has es) fs) both)) in
          absurd (l (omega (arith, here, there)))
      by false f = refl
