-- The row of a `RawBox`: it has one place, or `usize::MAX`, and only its first may be filled.
--     one_or_zst      how many places there are, by the bounds of the claim
--     no_others       of new places, all after the first are empty
--     alone           the places are new ones, but for the first
--     run-as_block, IsRun-as_block      the box as a block, if its place is filled
use Rattle.aa_raw.specs.Single.{Single, as_block}
use Rattle.aa_raw.proofs.Beyond.{none-at, none-fresh, none_there}
use Rattle.aa_raw.proofs.Calls.{IsRun-put}
use Rattle.aa_raw.proofs.Common.{IsRun, List, None, Option, Some, [], ap, arith, cases_eq, drop, empty_places, ext_get_or, get_or, get_or-drop, get_or-set_other, get_or-set_same, is_none, le-mul_of_pos_right, length, length-set, list_all, nat_tests, new_capacity, places, refl, replicate, run, slice_set, subst, suc, sym, true, usize_max, zero, ℕ, ◌*◌, ◌+◌, ◌-◌, ◌<◌, ◌^◌, ◌∙◌, ◌∷◌, ◌≡◌, ◌≢◌, ◌≤◌, drop-replicate}
use Rattle.aa_raw.proofs.Places.{endless-empty, length-empty_places, lengths, new_capacity-empty, same_or_not}
use Rattle.aa_raw.proofs.Runs.{IsRun-nil, run-set-same}

pub one_or_zst : (size n : ℕ) → (n ≢ 1 → n ≡ usize_max) → n * size < 2 ^ 63
    → (size ≡ 0 → usize_max ≤ n) → n ≡ new_capacity size 1
one_or_zst size n long few zst = grind (arith, nat_tests, same_or_not, le-mul_of_pos_right)

pub no_others : (X : Type 0) (n : ℕ)
    → list_all is_none (drop 1 (replicate {A = Option X} n None)) ≡ true
no_others X n = ap (list_all is_none) (drop-replicate 1 n None) ∙ none_there X (n - 1)

module _ {X : Type 0} where
  -- places of which only the first may be filled are empty ones, but for it
  first_alone : (cs ds : List (Option X)) → length ds ≡ length cs → 0 < length cs
      → list_all is_none (drop 1 cs) ≡ true
      → list_all is_none ds ≡ true → cs ≡ slice_set ds 0 (get_or cs 0 None)
  first_alone cs ds same some rest none =
      let after : (i : ℕ) → get_or cs (1 + i) None ≡ None = λ i. sym (get_or-drop 1 cs i None)
      ∙ none-at (drop 1 cs) i rest in
      ext_get_or None _ _ (omega (arith, same, length-set ds 0 (get_or cs 0 None)))
      (λ i h. grind (
        arith,
        cases_eq i 0,
        after (i - 1),
        get_or-set_same,
        get_or-set_other,
        none-at ds i none,
      ))

  pub alone : (size : ℕ) (cs : List (Option X)) → length cs ≡ new_capacity size 1
      → list_all is_none (drop 1 cs) ≡ true
      → cs ≡ slice_set (empty_places size 1) 0 (get_or cs 0 None)
  alone size cs long e =
      first_alone cs (empty_places size 1) (length-empty_places X size 1 ∙ sym long)
      (grind (arith, nat_tests, long)) e (none-fresh X size 1)

-- a raw box that holds x, as a block: its first place does
module _ {X A : Type 0} (size : ℕ) (s : Single X A) (x : X) (held : s.place ≡ Some x) where
  abbrev start : List (Option X)
  start = empty_places size 1

  pub run-as_block : run (as_block size s).places 0 1 ≡ x ∷ []
  run-as_block = grind
      (arith, nat_tests, held, run-set-same start 0 x, length-empty_places X size 1)

  pub IsRun-as_block : IsRun (as_block size s).places 0 1
  IsRun-as_block =
      rw held (IsRun-put start 0 x (grind (arith, nat_tests, length-empty_places X size 1))
      (IsRun-nil start 0 (omega arith)))

pub ruleset of_one = (nat_tests, lengths, one_or_zst, no_others, alone)
