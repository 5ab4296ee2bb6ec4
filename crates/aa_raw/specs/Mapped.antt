-- Places whose values are changed one by one: as many are in the same places, in the same order.
--     none_over, first_none_over, others_over      no value is there, or none in the first n
--                                                  places, or none after them
--     first_over                         the first place has the changed value
--     run_over                           the values of a run are the changed ones
--     IsRun-over, IsRun-under, IsRun-once      the places of a run hold values where they did, of
--                                              which there is one proof
--     nothing_held, first_held, run_held      a former counts no value in places without one, and
--                                        that of the first place or those of a run if no other
--                                        place is filled
use Rattle.std.specs.Prelude.{◌≡◌, ℕ, zero, suc, ◌+◌, ◌≤◌, true, get_or, List, [], ◌∷◌, map, length, take, drop, Option, Some, None, is_some, is_none}
use Rattle.std.specs.List.{list_all, take-map, drop-map}
use Rattle.std.specs.Option.{option_map}
use Rattle.std.proofs.Common.{true≢false, arith}
use mathlib.Core.Path.{refl, sym, ap, subst, ◌∙◌}
use mathlib.Core.Bool.{Bool-set}
use mathlib.Core.HLevel.{×_prop}
use mathlib.Core.Former.{none_left, one_more, this, list}
use native.Mathlib.Bridge.{le_prop}
use lib.ListN.{length-map}
use denote.Model.Placed as placed
use Rattle.aa_raw.specs.Held.{option, slots}
use Rattle.aa_raw.specs.Places.{run, somes, IsRun}

module _ {X Y : Type 0} (k : X → Y) where
  pub none_over : (cs : List (Option X))
      → list_all is_none (map (option_map k) cs) ≡ list_all is_none cs
  none_over [] = refl
  none_over (None ∷ cs) = none_over cs
  none_over (Some x ∷ cs) = refl

  pub first_none_over : (n : ℕ) (cs : List (Option X))
      → list_all is_none (take n (map (option_map k) cs)) ≡ list_all is_none (take n cs)
  first_none_over n cs =
      ap (list_all is_none) (take-map (option_map k) n cs) ∙ none_over (take n cs)

  pub others_over : (n : ℕ) (cs : List (Option X))
      → list_all is_none (drop n (map (option_map k) cs)) ≡ list_all is_none (drop n cs)
  others_over n cs = ap (list_all is_none) (drop-map (option_map k) n cs) ∙ none_over (drop n cs)

  pub first_over : (cs : List (Option X))
      → get_or (map (option_map k) cs) 0 None ≡ option_map k (get_or cs 0 None)
  first_over [] = refl
  first_over (c ∷ cs) = refl

  some_over : (cs : List (Option X))
      → list_all is_some (map (option_map k) cs) ≡ list_all is_some cs
  some_over [] = refl
  some_over (None ∷ cs) = refl
  some_over (Some x ∷ cs) = some_over cs

  somes_over : (cs : List (Option X)) → somes (map (option_map k) cs) ≡ map k (somes cs)
  somes_over [] = refl
  somes_over (None ∷ cs) = somes_over cs
  somes_over (Some x ∷ cs) = ap (λ l. k x ∷ l) (somes_over cs)

  cut_over : (from n : ℕ) (cs : List (Option X))
      → take n (drop from (map (option_map k) cs)) ≡ map (option_map k) (take n (drop from cs))
  cut_over from n cs =
      ap (take n) (drop-map (option_map k) from cs) ∙ take-map (option_map k) n (drop from cs)

  pub run_over : (from n : ℕ) (cs : List (Option X))
      → run (map (option_map k) cs) from n ≡ map k (run cs from n)
  unfolding run
  run_over from n cs = ap somes (cut_over from n cs) ∙ somes_over (take n (drop from cs))

  filled_over : (from n : ℕ) (cs : List (Option X))
      → list_all is_some (take n (drop from (map (option_map k) cs)))
      ≡ list_all is_some (take n (drop from cs))
  filled_over from n cs =
      ap (list_all is_some) (cut_over from n cs) ∙ some_over (take n (drop from cs))

  pub IsRun-over : (from n : ℕ) (cs : List (Option X)) → IsRun cs from n
      → IsRun (map (option_map k) cs) from n
  IsRun-over from n cs r = (
    subst (λ (m : ℕ). from + n ≤ m) (sym (length-map cs (option_map k))) r.0,
    filled_over from n cs ∙ r.1,
  )

  pub IsRun-under : (from n : ℕ) (cs : List (Option X)) → IsRun (map (option_map k) cs) from n
      → IsRun cs from n
  IsRun-under from n cs r = (
    subst (λ (m : ℕ). from + n ≤ m) (length-map cs (option_map k)) r.0,
    sym (filled_over from n cs) ∙ r.1,
  )

module _ {X : Type 0} where
  pub IsRun-once : (from n : ℕ) (cs : List (Option X)) → IsProp (IsRun cs from n)
  IsRun-once from n cs = ×_prop le_prop (Bool-set _ _)

  pub nothing_held : (cs : List (Option X)) → list_all is_none cs ≡ true
      → ◌≡◌ {A = placed.Held X} (none_left, tt) (placed.held (slots this) X cs)
  nothing_held [] e = refl
  nothing_held (None ∷ cs) e = nothing_held cs e
  nothing_held (Some x ∷ cs) e = absurd (true≢false (sym e))

  pub first_held : (cs : List (Option X)) → list_all is_none (drop 1 cs) ≡ true
      → placed.held (option this) X (get_or cs 0 None) ≡ placed.held (slots this) X cs
  first_held [] e = refl
  first_held (None ∷ cs) e = nothing_held cs e
  first_held (Some x ∷ cs) e =
      ap {B = placed.Held X} (λ (u : placed.Held X). (one_more u.0, (x, u.1))) (nothing_held cs e)

  front_held : (n : ℕ) (cs : List (Option X)) → list_all is_some (take n cs) ≡ true
      → list_all is_none (drop n cs) ≡ true
      → placed.held (list this) X (somes (take n cs)) ≡ placed.held (slots this) X cs
  front_held zero cs e o = nothing_held cs o
  front_held (suc n) [] e o = refl
  front_held (suc n) (None ∷ cs) e o = absurd (true≢false (sym e))
  front_held (suc n) (Some x ∷ cs) e o =
      ap {B = placed.Held X} (λ (u : placed.Held X). (one_more u.0, (x, u.1))) (front_held n cs e o)

  between_held : (from n to : ℕ) (cs : List (Option X)) → from + n ≡ to → from + n ≤ length cs
      → list_all is_none (take from cs) ≡ true → list_all is_some (take n (drop from cs)) ≡ true
      → list_all is_none (drop to cs) ≡ true
      → placed.held (list this) X (somes (take n (drop from cs))) ≡ placed.held (slots this) X cs
  between_held zero n to cs e within before filled after =
      front_held n cs filled
      (subst (λ k. list_all is_none (drop k cs) ≡ true) (omega (arith, e)) after)
  between_held (suc from) n to [] e within before filled after = absurd (omega (arith, within))
  between_held (suc from) n zero (c ∷ cs) e within before filled after = absurd (omega (arith, e))
  between_held (suc from) n (suc to) (None ∷ cs) e within before filled after =
      between_held from n to cs (omega (arith, e)) (omega (arith, within)) before filled after
  between_held (suc from) n (suc to) (Some x ∷ cs) e within before filled after =
      absurd (true≢false (sym before))

  pub run_held : (from n to : ℕ) (cs : List (Option X)) → from + n ≡ to
      → list_all is_none (take from cs) ≡ true → IsRun cs from n
      → list_all is_none (drop to cs) ≡ true
      → placed.held (list this) X (run cs from n) ≡ placed.held (slots this) X cs
  unfolding run
  run_held from n to cs e before filled after =
      between_held from n to cs e filled.0 before filled.1 after
