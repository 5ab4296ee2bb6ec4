-- Places of which those before a run, or those after it, hold no value, and what the calls of a
-- block do to that.
--     none_there         new places hold none
--     at_sides           take at an end of the run
--     none-before-with, none-after-with      other values in the run
--     none-forgotten     what was after the run is forgotten
--     grown_at_end     values put after the run, and a block that grows or shrinks
--     emptied     drop_run, take_array, transfer and forget_from, before the block is dropped
use Rattle.aa_raw.proofs.Common.{AreEmpty, Block, Bool, Err, IsRun, List, None, Ok, Option, ReserveResult, Reserves, Result, Some, TryReserveError, [], ap, append_assoc, arith, cases_lt, cut_to, drop, drop-set, drop-set-lt, drop_all, drop_at, empty_places, false, get_or, get_or-drop, if◌then◌else◌, is_none, length, length-append, length-replicate, length-take, length-take-le, list_all, list_all-append, list_all_at, nat_tests, places, refl, replicate, slice_set, subst, suc, sym, take, take-set-le, take_at, take_more_set, true, usize_max, with_places, with_run, without, zero, zero-add, zst_places, ℕ, ◌&&◌, ◌++◌, ◌+◌, ◌-◌, ◌<◌, ◌==◌, ◌∙◌, ◌∷◌, ◌≡◌, ◌≤◌}
use Rattle.aa_raw.proofs.Calls.{IsRun-with-below}
use Rattle.aa_raw.proofs.Places.{length-with_run}
use Rattle.aa_raw.proofs.Runs.{all-each, drop-with}

pub none_there : (X : Type 0) (n : ℕ) → list_all {X = Option X} is_none (replicate n None) ≡ true
none_there X zero = refl
none_there X (suc n) = none_there X n

module _ {X : Type 0} where
  abbrev None_in : List (Option X) → Type 0
  None_in cs = AreEmpty cs

  -- places of which each holds none
  pub none-each : (cs : List (Option X)) → ((i : ℕ) → i < length cs → get_or cs i None ≡ None)
      → None_in cs
  none-each cs none = all-each is_none cs (λ i h. ap is_none (none i h))

  pub none-at : (cs : List (Option X)) (i : ℕ) → None_in cs → get_or cs i None ≡ None
  none-at cs i e = grind (arith, places, list_all_at is_none cs i None)

  -- the first of a run taken
  pub none-before_taken : (cs : List (Option X)) (front : ℕ) → front < length cs
      → None_in (take front cs) → None_in (take (front + 1) (slice_set cs front None))
  none-before_taken cs front some e = ap (list_all is_none) (take_more_set cs front None some)
      ∙ list_all-append is_none (take front cs) (None ∷ []) ∙ (λ i. e i && true)

  pub none-after_kept : (cs : List (Option X)) (back i : ℕ) → i < back → None_in (drop back cs)
      → None_in (drop back (slice_set cs i None))
  none-after_kept cs back i below e = ap (list_all is_none) (drop-set-lt back cs i None below) ∙ e

  -- and the last
  pub none-after_taken : (cs : List (Option X)) (back : ℕ) → 0 < back → back ≤ length cs
      → None_in (drop back cs) → None_in (drop (back - 1) (slice_set cs (back - 1) None))
  none-after_taken cs back some within e = grind (arith, drop-set cs (back - 1) None)

  pub none-before_kept : (cs : List (Option X)) (front i : ℕ) → front ≤ i → None_in (take front cs)
      → None_in (take front (slice_set cs i None))
  none-before_kept cs front i above e = ap (list_all is_none) (take-set-le front cs i None above)
      ∙ e

  pub ruleset at_sides = (none-before_taken, none-after_kept, none-after_taken, none-before_kept)

  module _ (cs : List (Option X)) (from n : ℕ) (within : from + n ≤ length cs) where
    pub none-before-with : (ys : List (Option X)) → None_in (take from cs)
        → None_in (take from (with_run cs from n ys))
    unfolding with_run
    none-before-with ys e =
        ap (list_all is_none)
        (take_at (take from cs) (ys ++ drop (from + n) cs) from
        (length-take-le from cs (omega (arith, within)))) ∙ e

    pub none-after-with : (ys : List (Option X)) (to : ℕ) → length ys ≡ n → from + n ≡ to
        → None_in (drop to cs) → None_in (drop to (with_run cs from n ys))
    none-after-with ys to long e none = grind (arith, drop-with cs from n ys within long)

  pub none-forgotten : (cs : List (Option X)) (n m : ℕ) → n + m ≡ length cs
      → None_in (drop n (with_run cs n m (replicate m None)))
  unfolding with_run
  none-forgotten cs n m all =
      grind (arith, drop_at (take n cs), length-take, drop_all, list_all-append, none_there)

  -- other values in a run
  pub ruleset around_run = (none-before-with, none-after-with)

  -- the values of a run moved out or dropped, where the places before it and after it hold none
  none-in_run : (cs : List (Option X)) (from n : ℕ) → None_in (take from cs)
      → None_in (drop (from + n) cs) → None_in (with_run cs from n (replicate n None))
  unfolding with_run
  none-in_run cs from n before after = simp (list_all-append, before, none_there, after)

  pub none-emptied : (cs : List (Option X)) (front back : ℕ) → front ≤ back
      → None_in (take front cs) → None_in (drop back cs)
      → None_in (with_run cs front (back - front) (replicate (back - front) None))
  none-emptied cs front back h before after = grind (arith, none-in_run cs front (back - front))

  -- the first values, where those are all
  pub none-emptied_first : (cs : List (Option X)) (n : ℕ) → None_in (drop n cs)
      → None_in (with_run cs 0 n (replicate n None))
  none-emptied_first cs n after =
      none-in_run cs 0 n refl (subst (λ k. None_in (drop k cs)) (sym (zero-add n)) after)

  -- all from one on forgotten, where those before it hold none
  pub none-forgotten_from : (cs : List (Option X)) (n : ℕ) → n ≤ length cs → None_in (take n cs)
      → None_in (with_run cs n (length cs - n) (replicate (length cs - n) None))
  none-forgotten_from cs n h before =
      none-emptied cs n (length cs) h before
      (ap (list_all is_none) (drop_all (length cs) cs (omega arith)))

  -- the runs of a block one after another, up to its end
  pub none-further : (cs : List (Option X)) (from to : ℕ) → from ≤ to → to ≤ length cs
      → None_in (take from cs)
      → None_in (take to (with_run cs from (to - from) (replicate (to - from) None)))
  unfolding with_run
  none-further cs from to h within before =
      let ys : List (Option X) = replicate (to - from) None in
      grind (
        arith,
        append_assoc,
        take_at (take from cs ++ ys) (drop (from + (to - from)) cs) to,
        list_all-append,
        none_there,
        before,
        length-append,
        length-take,
        length-replicate,
      )

  pub none-last : (cs : List (Option X)) (from n : ℕ) → from + n ≡ length cs
      → None_in (take from cs) → None_in (with_run cs from n (replicate n None))
  none-last cs from n all before =
      none-in_run cs from n before
      (ap (list_all is_none) (drop_all (from + n) cs (omega (arith, all))))

  pub none-first_emptied : (cs : List (Option X)) (n : ℕ)
      → None_in (take n (with_run cs 0 n (replicate n None)))
  unfolding with_run
  none-first_emptied cs n = grind (arith, take_at, length-replicate, none_there)

  pub within-emptied : (cs : List (Option X)) (n : ℕ)
      → n ≤ length (with_run cs 0 n (replicate n None))
  unfolding with_run
  within-emptied cs n =
      omega (
        arith,
        length-append (replicate n None) (drop (0 + n) cs),
        length-replicate {A = Option X} n None,
      )

-- a new block
none-new : (X : Type 0) (is_zst : Bool) (n : ℕ)
    → list_all {X = Option X} is_none (if is_zst then zst_places else replicate n None) ≡ true
unfolding zst_places
none-new X true n = none_there X usize_max
none-new X false n = none_there X n

pub none-fresh : (X : Type 0) (size n : ℕ) → list_all {X = Option X} is_none (empty_places size n)
    ≡ true
none-fresh X size n = none-new X (size == 0) n

-- and one without memory
pub none-unallocated : (X : Type 0) (size : ℕ)
    → list_all {X = Option X} is_none (empty_places size 0) ≡ true
none-unallocated X size = none-fresh X size 0

module _ {X : Type 0} where
  none-after_more : (cs : List (Option X)) (n k : ℕ) → None_in (drop n cs)
      → None_in (drop (n + k) cs)
  none-after_more cs n k e =
      none-each (drop (n + k) cs) (λ i h. grind (arith, get_or-drop, none-at (drop n cs) (k + i) e))

  -- values written after the first n
  pub none-after_put : (cs : List (Option X)) (n : ℕ) (c : Option X) → None_in (drop n cs)
      → None_in (drop (n + 1) (slice_set cs n c))
  none-after_put cs n c e = ap (list_all is_none) (drop-set-lt (n + 1) cs n c (omega arith))
      ∙ none-after_more cs n 1 e

  pub none-after_put_all : (cs : List (Option X)) (n k : ℕ) (ys : List (Option X))
      → n + k ≤ length cs → length ys ≡ k → None_in (drop n cs)
      → None_in (drop (n + k) (with_run cs n k ys))
  none-after_put_all cs n k ys within long e = none-after-with cs n k within ys (n + k) long refl
      (none-after_more cs n k e)

  none-after_regrown : (cs : List (Option X)) (n k : ℕ) → n ≤ length cs
      → None_in (drop n (take n cs ++ replicate k None))
  none-after_regrown cs n k within =
      ap (list_all is_none) (drop_at (take n cs) (replicate k None) n (length-take-le n cs within))
      ∙ none_there X k

module _ {X A : Type 0} where
  -- those of a block that reserved capacity or shrank
  pub none-after_reserve : (size : ℕ) (old : Block X A) (n k requested : ℕ)
      (r : Result Unit TryReserveError) (new : Block X A)
      → ReserveResult size old n k requested r new → IsRun old.places 0 n
      → None_in (drop n old.places)
      → None_in (drop n new.places)
  none-after_reserve size old n k requested (Ok u) new made r e =
      grind (
        arith,
        r.0,
        cases_lt (length old.places) (n + k),
        made.made.grows,
        made.made.fits,
        none-after_regrown,
      )
  none-after_reserve size old n k requested (Err x) new made r e =
      subst (λ (b : Block X A). None_in (drop n b.places)) (sym made.failed.0) e

  pub none-after_cut : (size : ℕ) (b : Block X A) (n c : ℕ) → IsRun b.places 0 n
      → None_in (drop n b.places) → None_in (drop n (cut_to size b n c).places)
  none-after_cut size b n c r e = grind (arith, nat_tests, r.0, none-after_regrown)

-- what is after the values when more are put there, or the block grows or shrinks
pub ruleset grown_at_end =
    (none-after_put, none-after_put_all, none-after_reserve, none-after_cut, none-fresh)

module _ {X : Type 0} where
  -- places of a run that was emptied, and of others after that
  pub none-within : (cs : List (Option X)) (from n i : ℕ) → from + n ≤ length cs → from ≤ i
      → i < from + n → get_or (with_run cs from n (replicate n None)) i None ≡ None
  unfolding with_run
  none-within cs from n i within low high = grind (arith, places)

  pub none-still : (cs : List (Option X)) (from n i : ℕ) → from + n ≤ length cs → get_or cs i None
      ≡ None → get_or (with_run cs from n (replicate n None)) i None ≡ None
  unfolding with_run
  none-still cs from n i within e = grind (arith, places, cases_lt i from, cases_lt i (from + n))

-- what is left when all values were dropped, moved out or forgotten
pub ruleset emptied = (
  none-further,
  none-last,
  none-emptied,
  none-emptied_first,
  none-forgotten_from,
  none-first_emptied,
  within-emptied,
  none_there,
  none-fresh,
  none-unallocated,
)

-- A block of which all but the first places are forgotten.
module _ {T A : Type 0} (b : Block T A) (n : ℕ) (filled : IsRun b.places 0 n) where
  abbrev pub forgot : Block T A
  forgot = without b n (length b.places - n)

  pub length-forgot : length forgot.places ≡ length b.places
  length-forgot = grind (arith, filled.0, length-with_run, length-replicate)

  pub IsRun-forgot : IsRun forgot.places 0 n
  IsRun-forgot = IsRun-with-below b.places n (length b.places - n) _ 0 n (omega (arith, filled.0))
      (length-replicate (length b.places - n) None) (omega arith) filled

  pub none-forgot : list_all is_none (drop n forgot.places) ≡ true
  none-forgot = none-forgotten b.places n (length b.places - n) (omega (arith, filled.0))
