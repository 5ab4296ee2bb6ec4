-- Where each key of some entries is a key of as many others, both have the same keys.
use Rattle.std.proofs.Common.{Bool, true, false, cond, List, Some, [], ap, arith, length, refl, suc, sym, ◌∙◌, ◌∷◌, ◌≡◌, ◌≤◌}
use Rattle.std.specs.Prelude.{is_some, ◌&&◌}
use Rattle.std.specs.Cmp.{IsEquivalence, first_so, second_so}
use Rattle.std.specs.List.{list_all}
use Rattle.aa_table.specs.Contents.{keys_like, value, IsMap}
use Rattle.aa_table.proofs.Maps.{keys-cons}

module _ {K V : Type 0} (eq : K → K → Bool) (E : IsEquivalence eq) where
  -- each entry of `part` has a key of `fs`
  abbrev pub covers : (fs part : List (K × V)) → Bool
  covers fs part = list_all (λ e. is_some (value eq fs e.0)) part

  -- the entries without the first whose key is equal to `k`
  abbrev less : K → List (K × V) → List (K × V)
  less k [] = []
  less k (f ∷ fs) = cond (eq k f.0) fs (f ∷ less k fs)

  length-less : (k : K) (fs : List (K × V)) → is_some (value eq fs k) ≡ true → length fs ≡ suc (length (less k fs))
  length-less k [] s = absurd cc
  length-less k (f ∷ fs) s = by (eq k f.0) s (length-less k fs)
    where
      by : (b : Bool) → is_some (cond b (Some f.1) (value eq fs k)) ≡ true → (is_some (value eq fs k) ≡ true → length fs ≡ suc (length (less k fs)))
          → suc (length fs) ≡ suc (length (cond b fs (f ∷ less k fs)))
      by true s rest = refl
      by false s rest = ap suc (rest s)

  value-less : (q k : K) (fs : List (K × V)) → eq q k ≡ false → value eq (less k fs) q ≡ value eq fs q
  value-less q k [] n = refl
  value-less q k (f ∷ fs) n = by (eq k f.0) refl (value-less q k fs n)
    where
      by : (b : Bool) → eq k f.0 ≡ b → value eq (less k fs) q ≡ value eq fs q → value eq (cond b fs (f ∷ less k fs)) q ≡ value eq (f ∷ fs) q
      by true t rest =
          let apart : eq q f.0 ≡ false = E.symm q f.0 ∙ E.congr f.0 k q (E.symm f.0 k ∙ t) ∙ E.symm k q ∙ n in
          λ i. cond (sym apart i) (Some f.1) (value eq fs q)
      by false t rest = λ i. cond (eq q f.0) (Some f.1) (rest i)

  covers-less : (k : K) (fs part : List (K × V)) → keys_like eq k part ≡ 0 → covers fs part ≡ true → covers (less k fs) part ≡ true
  covers-less k fs [] n h = refl
  covers-less k fs (e ∷ part) n h =
      let apart : eq e.0 k ≡ false = grind (arith, n, keys-cons eq k e part, E.symm e.0 k) in
      let first = ap is_some (value-less e.0 k fs apart) ∙ first_so (is_some (value eq fs e.0)) (covers fs part) h in
      let later = covers-less k fs part (omega (arith, n, keys-cons eq k e part)) (second_so (is_some (value eq fs e.0)) (covers fs part) h) in
      λ i. first i && later i

  back : (k : K) (t : K × V → Bool) (fs : List (K × V)) → ((g : K × V) → eq k g.0 ≡ true → t g ≡ true) → list_all t (less k fs) ≡ true → list_all t fs ≡ true
  back k t [] here h = refl
  back k t (f ∷ fs) here h = by (eq k f.0) refl h (back k t fs here)
    where
      by : (b : Bool) → eq k f.0 ≡ b → list_all t (cond b fs (f ∷ less k fs)) ≡ true → (list_all t (less k fs) ≡ true → list_all t fs ≡ true) → list_all t (f ∷ fs) ≡ true
      by true e h rest = λ i. here f e i && h i
      by false e h rest = λ i. first_so (t f) (list_all t (less k fs)) h i && rest (second_so (t f) (list_all t (less k fs)) h) i

  covers-more : (e : K × V) (es part : List (K × V)) → covers es part ≡ true → covers (e ∷ es) part ≡ true
  covers-more e es [] h = refl
  covers-more e es (g ∷ part) h =
      let first = by (eq g.0 e.0) (first_so (is_some (value eq es g.0)) (covers es part) h) in
      let later = covers-more e es part (second_so (is_some (value eq es g.0)) (covers es part) h) in
      λ i. first i && later i
    where
      by : (b : Bool) → is_some (value eq es g.0) ≡ true → is_some (cond b (Some e.1) (value eq es g.0)) ≡ true
      by true s = refl
      by false s = s

  module _ (e : K × V) (es : List (K × V)) (m : IsMap eq (e ∷ es)) where
    once : keys_like eq e.0 es ≡ 0
    once = grind (arith, m e.0, keys-cons eq e.0 e es, E.refl e.0)

    map-later : IsMap eq es
    map-later q = omega (arith, m q, keys-cons eq q e es)

  -- there are as many others at least
  pub as-many : (es fs : List (K × V)) → IsMap eq es → covers fs es ≡ true → length es ≤ length fs
  as-many [] fs m h = omega arith
  as-many (e ∷ es) fs m h =
      let first = first_so (is_some (value eq fs e.0)) (covers fs es) h in
      let later = second_so (is_some (value eq fs e.0)) (covers fs es) h in
      omega (arith, length-less e.0 fs first, as-many es (less e.0 fs) (map-later e es m) (covers-less e.0 fs es (once e es m) later))

  -- and where there are just as many, each of them has a key of these
  pub covered : (es fs : List (K × V)) → IsMap eq es → length es ≡ length fs → covers fs es ≡ true → covers es fs ≡ true
  covered [] [] m l h = refl
  covered [] (f ∷ fs) m l h = absurd (omega (arith, l))
  covered (e ∷ es) fs m l h =
      let first = first_so (is_some (value eq fs e.0)) (covers fs es) h in
      let later = second_so (is_some (value eq fs e.0)) (covers fs es) h in
      let rest = covered es (less e.0 fs) (map-later e es m) (omega (arith, l, length-less e.0 fs first)) (covers-less e.0 fs es (once e es m) later) in
      back e.0 (λ g. is_some (value eq (e ∷ es) g.0)) fs (λ g t. λ i. is_some (cond ((E.symm g.0 e.0 ∙ t) i) (Some e.1) (value eq es g.0))) (covers-more e es (less e.0 fs) rest)
