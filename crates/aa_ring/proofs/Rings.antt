-- What the calls of the block leave of a ring: its parts, and its items.
use Rattle.std.proofs.Common.{◌≡◌, ℕ, ◌+◌, ◌-◌, ◌<◌, ◌≤◌, List, [], ◌∷◌, ◌++◌, length, take, drop, get_or, Option, Some, None, refl, sym, ap, ◌∙◌, arith, append_assoc, length-append, length-drop, inl, inr, length-set, map}
use Rattle.std.specs.Prelude.{slice_set, reverse, replicate, is_some}
use Rattle.std.specs.List.{list_all, refill}
use Rattle.std.proofs.lemmas.Bool.{cases_lt}
use Rattle.std.proofs.lemmas.Bool.Decides.{nat_tests}
use Rattle.std.proofs.lemmas.Grind.{flat_map-append, fold-append}
use Rattle.std.proofs.lemmas.List.Folds.{list_any-append}
use Rattle.std.proofs.lemmas.List.{append-nil, drop_at, length-map, length-replicate, length-reverse, length-take-le, reverse-append, reverse-reverse, take-append-drop, set-append_left, set-append_right, take-append-le, take-take, take_at}
use Rattle.allocator_api2.specs.Places.{AreEmpty, IsFilled, IsRun, run, with_run}
use Rattle.allocator_api2.proofs.Blocks.{length-with_run, none-each, none-still, none-within, apart, two_runs, shown, length-run, run-push, IsRun-push, run-pop, IsRun-pop, run-shift, IsRun-shift, run-unshift, IsRun-unshift, run-none, IsRun-joined, IsRun-part, run-split, IsRun-nil, run-set-above, run-set-below, run-set-same, IsRun-set-above, IsRun-set-below, first-filled, last-filled, rotated}
use Rattle.aa_ring.specs.RingInner.{HasParts}

module _ {X : Type 0} where
  only_one : (ys : List X) (x : X) → length ys ≡ 1 → slice_set ys 0 x ≡ x ∷ []
  only_one [] x e = absurd (omega (arith, e))
  only_one (y ∷ []) x e = refl
  only_one (y ∷ z ∷ ys) x e = absurd (omega (arith, e))

  -- one of the values of a run, written anew
  run-rewritten : (cs : List (Option X)) (from n p i : ℕ) (x : X) → from + i ≡ p → i < n → IsRun cs from n → run (slice_set cs p (Some x)) from n ≡ slice_set (run cs from n) i x
  run-rewritten cs from n p i x e few r =
      let ds : List (Option X) = slice_set cs p (Some x) in let k : ℕ = n - i - 1 in
      let before : List X = run cs from i in let here : List X = run cs p 1 in let after : List X = run cs (p + 1) k in
      let long : length before ≡ i = length-run cs from i (IsRun-part cs from n from i (omega arith) (omega arith) r) in
      let one : length here ≡ 1 = length-run cs p 1 (IsRun-part cs from n p 1 (omega arith) (omega arith) r) in
      let parted : (es : List (Option X)) → run es from n ≡ run es from i ++ (run es p 1 ++ run es (p + 1) k) =
      λ es. run-split es from p i (k + 1) n e (omega arith) ∙ ap (λ ys. run es from i ++ ys) (run-split es p (p + 1) 1 k (k + 1) refl (omega arith)) in
      let start : i - i ≡ 0 = omega arith in
      let left : run ds from n ≡ before ++ (x ∷ after) =
      rw (parted ds, run-set-above cs from i p (Some x) (omega (arith, r.0)) (omega arith), run-set-same cs p x (omega (arith, r.0)), run-set-below cs (p + 1) k p (Some x) (omega arith)) refl in
      left
      ∙ sym (ap (λ ys. slice_set ys i x) (parted cs) ∙ set-append_right before (here ++ after) i i x long (omega arith)
      ∙ ap (λ j. before ++ slice_set (here ++ after) j x) start ∙ ap (λ ys. before ++ ys) (set-append_left here after 0 x (omega (arith, one)) ∙ ap (λ ys. ys ++ after) (only_one here x one)))

  IsRun-rewritten : (cs : List (Option X)) (from n p i : ℕ) (x : X) → from + i ≡ p → i < n → IsRun cs from n → IsRun (slice_set cs p (Some x)) from n
  IsRun-rewritten cs from n p i x e few r =
      let ds : List (Option X) = slice_set cs p (Some x) in let k : ℕ = n - i - 1 in let l = r.0 in
      let here : IsRun ds p 1 = IsRun-push cs p 0 x p 1 (omega arith) refl (omega arith) (IsRun-nil cs p (omega arith)) in
      IsRun-joined ds from p i (k + 1) n e (omega arith) (IsRun-set-above cs from i p (Some x) (omega arith) (omega arith) (IsRun-part cs from n from i (omega arith) (omega arith) r))
      (IsRun-joined ds p (p + 1) 1 k (k + 1) refl (omega arith) here (IsRun-set-below cs (p + 1) k p (Some x) (omega arith) (IsRun-part cs from n (p + 1) k (omega arith) (omega arith) r)))

  -- the items: the first ones, and the wrapped ones after them
  abbrev pub parts : List (Option X) → (front count wrapped : ℕ) → List X
  parts cs f n w = run cs f n ++ run cs 0 w

  none_at : (cs : List (Option X)) (w : ℕ) → w ≡ 0 → IsRun cs 0 w
  none_at cs w e = rw e (IsRun-nil cs 0 (omega arith))

  -- there is no wrapped item
  pub no_others : (cs : List (Option X)) (f n w : ℕ) → w ≡ 0 → parts cs f n w ≡ run cs f n
  no_others cs f n w e = ap (λ ys. run cs f n ++ ys) (run-none cs 0 w e) ∙ append-nil (run cs f n)

  module _ (cs : List (Option X)) (f n w : ℕ) (h : HasParts cs f n w) where
    pub length-parts : length (parts cs f n w) ≡ n + w
    length-parts = length-append (run cs f n) (run cs 0 w) ∙ omega (arith, length-run cs f n h.first, length-run cs 0 w h.others)

    -- where the first ones do not reach to the end, and where a place is free
    short : f + n < length cs → w ≡ 0
    short room = grind (arith, h.ends)

    free : n + w < length cs → 0 < f → w < f
    free room some = grind (arith, h.ends, h.first.0)

    module _ (x : X) where
      -- an item put after the first ones
      pub has-put_first : f + n < length cs → HasParts (slice_set cs (f + n) (Some x)) f (n + 1) w
      has-put_first room = grind (arith, IsRun-push cs f n x (f + n) (n + 1) refl refl room h.first, none_at (slice_set cs (f + n) (Some x)) w (short room), short room, h.apart)

      pub put_first : f + n < length cs → parts (slice_set cs (f + n) (Some x)) f (n + 1) w ≡ parts cs f n w ++ x ∷ []
      put_first room = rw (no_others (slice_set cs (f + n) (Some x)) f (n + 1) w (short room), no_others cs f n w (short room)) (run-push cs f n x (f + n) (n + 1) refl refl room)

      -- and after the wrapped ones
      pub has-put_other : n + w < length cs → length cs ≤ f + n → HasParts (slice_set cs w (Some x)) f n (w + 1)
      has-put_other room full =
          grind (arith, IsRun-set-below cs f n w (Some x) (omega (arith, h.first.0)) h.first, IsRun-push cs 0 w x w (w + 1) (omega arith) refl (omega arith) h.others, length-set cs w (Some x), h.first.0)

      pub put_other : n + w < length cs → length cs ≤ f + n → parts (slice_set cs w (Some x)) f n (w + 1) ≡ parts cs f n w ++ x ∷ []
      put_other room full =
          rw (run-set-below cs f n w (Some x) (omega (arith, h.first.0)), run-push cs 0 w x w (w + 1) (omega arith) refl (omega arith)) (sym (append_assoc (run cs f n) (run cs 0 w) (x ∷ [])))

      -- an item put before the first ones
      pub has-put_before : 0 < f → n + w < length cs → HasParts (slice_set cs (f - 1) (Some x)) (f - 1) (n + 1) w
      has-put_before some room =
          let low : w < f = free room some in let l = h.first.0 in
          grind (arith, IsRun-unshift cs f n x (f - 1) (n + 1) (omega arith) refl h.first, IsRun-set-above cs 0 w (f - 1) (Some x) (omega arith) (omega arith) h.others, length-set cs (f - 1) (Some x), h.ends)

      pub put_before : 0 < f → n + w < length cs → parts (slice_set cs (f - 1) (Some x)) (f - 1) (n + 1) w ≡ x ∷ parts cs f n w
      put_before some room =
          let low : w < f = free room some in let l = h.first.0 in
          rw (run-unshift cs f n x (f - 1) (n + 1) (omega arith) refl (omega arith), run-set-above cs 0 w (f - 1) (Some x) (omega arith) (omega arith))

      -- an item put at the end, before those that begin with the block
      pub has-put_around : f ≤ 0 → n + w < length cs → HasParts (slice_set cs (length cs - 1) (Some x)) (length cs - 1) 1 n
      has-put_around least room =
          let last : ℕ = length cs - 1 in let e : f ≡ 0 = omega arith in let whole : IsRun cs 0 n = rw e at h.first in
          grind (arith, IsRun-push cs last 0 x last 1 (omega arith) refl (omega arith) (IsRun-nil cs last (omega arith)), IsRun-set-above cs 0 n last (Some x) (omega arith) (omega arith) whole, length-set cs last (Some x))

      pub put_around : f ≤ 0 → n + w < length cs → parts (slice_set cs (length cs - 1) (Some x)) (length cs - 1) 1 n ≡ x ∷ parts cs f n w
      put_around least room =
          let e : f ≡ 0 = omega arith in
          rw (run-set-same cs (length cs - 1) x (omega arith), run-set-above cs 0 n (length cs - 1) (Some x) (omega arith) (omega arith), no_others cs f n w (omega (arith, h.apart)), e)

      -- an item written anew
      pub set_first : (i : ℕ) → i < n → parts (slice_set cs (f + i) (Some x)) f n w ≡ slice_set (parts cs f n w) i x
      set_first i few =
          let l = h.first.0 in let low = h.apart in
          rw (run-rewritten cs f n (f + i) i x refl few h.first, run-set-above cs 0 w (f + i) (Some x) (omega arith) (omega arith)) (sym (set-append_left (run cs f n) (run cs 0 w) i x (omega (arith, few, length-run cs f n h.first))))

      pub has-set_first : (i : ℕ) → i < n → HasParts (slice_set cs (f + i) (Some x)) f n w
      has-set_first i few =
          let l = h.first.0 in let low = h.apart in
          grind (arith, IsRun-rewritten cs f n (f + i) i x refl few h.first, IsRun-set-above cs 0 w (f + i) (Some x) (omega arith) (omega arith) h.others, length-set cs (f + i) (Some x), h.ends)

      pub set_other : (i : ℕ) → n ≤ i → i - n < w → parts (slice_set cs (i - n) (Some x)) f n w ≡ slice_set (parts cs f n w) i x
      set_other i all few =
          let low = h.apart in
          rw (run-set-below cs f n (i - n) (Some x) (omega arith), run-rewritten cs 0 w (i - n) (i - n) x (omega arith) few h.others) (sym (set-append_right (run cs f n) (run cs 0 w) n i x (length-run cs f n h.first) all))

      pub has-set_other : (i : ℕ) → n ≤ i → i - n < w → HasParts (slice_set cs (i - n) (Some x)) f n w
      has-set_other i all few =
          let low = h.apart in
          grind (arith, IsRun-set-below cs f n (i - n) (Some x) (omega arith) h.first, IsRun-rewritten cs 0 w (i - n) (i - n) x (omega arith) few h.others, length-set cs (i - n) (Some x), h.ends)

      -- the first item taken
      pub take_first : 0 < n → get_or cs f None ≡ Some x → x ∷ parts (slice_set cs f None) (f + 1) (n - 1) w ≡ parts cs f n w
      take_first some e =
          let l = h.first.0 in let low = h.apart in
          rw (run-set-above cs 0 w f None (omega arith) (omega arith), run-shift cs f (n - 1) x (f + 1) n refl (omega arith) h.first e)

      pub take_around : n ≡ 0 → 0 < w → get_or cs 0 None ≡ Some x → x ∷ parts (slice_set cs 0 None) 1 (w - 1) 0 ≡ parts cs f n w
      take_around none some e = rw (no_others (slice_set cs 0 None) 1 (w - 1) 0 refl, run-none cs f n none) (sym (run-shift cs 0 (w - 1) x 1 w refl (omega arith) h.others e))

      -- the last item taken
      pub take_other : 0 < w → get_or cs (w - 1) None ≡ Some x → parts (slice_set cs (w - 1) None) f n (w - 1) ++ x ∷ [] ≡ parts cs f n w
      take_other some e =
          let low = h.apart in
          rw (run-set-below cs f n (w - 1) None (omega arith), run-pop cs 0 (w - 1) x (w - 1) w (omega arith) (omega arith) h.others e) (append_assoc (run cs f n) (run (slice_set cs (w - 1) None) 0 (w - 1)) (x ∷ []))

      pub take_last : w ≡ 0 → 0 < n → get_or cs (f + (n - 1)) None ≡ Some x → parts (slice_set cs (f + (n - 1)) None) f (n - 1) w ++ x ∷ [] ≡ parts cs f n w
      take_last none some e = rw (no_others (slice_set cs (f + (n - 1)) None) f (n - 1) w none, no_others cs f n w none) (sym (run-pop cs f (n - 1) x (f + (n - 1)) n refl (omega arith) h.first e))

    pub has-take_first : 0 < n → HasParts (slice_set cs f None) (f + 1) (n - 1) w
    has-take_first some =
        let l = h.first.0 in let low = h.apart in
        grind (arith, IsRun-shift cs f (n - 1) (f + 1) n refl (omega arith) h.first, IsRun-set-above cs 0 w f None (omega arith) (omega arith) h.others, length-set cs f None, h.ends)

    pub has-take_around : 0 < w → HasParts (slice_set cs 0 None) 1 (w - 1) 0
    has-take_around some = grind (arith, IsRun-shift cs 0 (w - 1) 1 w refl (omega arith) h.others, IsRun-nil (slice_set cs 0 None) 0 (omega arith), h.apart, h.first.0)

    pub has-take_other : 0 < w → HasParts (slice_set cs (w - 1) None) f n (w - 1)
    has-take_other some =
        let low = h.apart in
        grind (arith, IsRun-set-below cs f n (w - 1) None (omega arith) h.first, IsRun-pop cs 0 (w - 1) (w - 1) w (omega arith) (omega arith) h.others, h.ends some, length-set cs (w - 1) None)

    pub has-take_last : w ≡ 0 → 0 < n → HasParts (slice_set cs (f + (n - 1)) None) f (n - 1) w
    has-take_last none some = grind (arith, IsRun-pop cs f (n - 1) (f + (n - 1)) n refl (omega arith) h.first, none_at (slice_set cs (f + (n - 1)) None) w none, h.apart)

    -- the places of the first item where it is the first of the block, and of the last
    pub around-there : 0 < w → IsFilled cs 0
    around-there some = first-filled cs 0 w h.others some

    pub other-there : 0 < w → IsFilled cs (w - 1)
    other-there some = last-filled cs 0 (w - 1) (w - 1) w (omega arith) (omega arith) h.others

    pub last-there : 0 < n → IsFilled cs (f + (n - 1))
    last-there some = last-filled cs f (n - 1) (f + (n - 1)) n refl (omega arith) h.first

-- the wrapped ones are filled after the first ones were dropped
pub others-left : {X : Type 0} (cs : List (Option X)) (f n w : ℕ) → HasParts cs f n w → IsRun (with_run cs f n (replicate n None)) 0 w
unfolding with_run
others-left {X} cs f n w h =
    let front : List (Option X) = take f cs in
    let removed : List (Option X) = replicate n None in
    let rest : List (Option X) = drop (f + n) cs in
    let first = h.first.0 in let low = h.apart in
    let long : length front ≡ f = length-take-le f cs (omega arith) in (
      omega (arith, length-append front (removed ++ rest), length-append removed rest, long),
      ap (list_all is_some) (take-append-le w front (removed ++ rest) (omega arith) ∙ take-take w f cs low) ∙ h.others.1,
    )

-- no value is left after both parts were dropped and the places between and after them forgotten
abbrev pub emptied : {X : Type 0} (cs : List (Option X)) (from n : ℕ) → List (Option X)
emptied cs from n = with_run cs from n (replicate n None)

pub none-left : {X : Type 0} (cs : List (Option X)) (f n w : ℕ) → HasParts cs f n w → (ds : List (Option X)) → ds ≡ emptied (emptied (emptied cs f n) 0 w) w (f - w) → AreEmpty (emptied ds (f + n) (length ds - (f + n)))
none-left {X} cs f n w h ds is =
    let firsts : List (Option X) = emptied cs f n in let bs : List (Option X) = emptied firsts 0 w in let ends = h.first.0 in let low = h.apart in
    let long : (es : List (Option X)) (from k : ℕ) → from + k ≤ length es → length (emptied es from k) ≡ length es = λ es from k fits. length-with_run es from k (replicate k None) fits (length-replicate k None) in
    let a = long cs f n ends in let b = long firsts 0 w (omega (arith, a)) in
    let d : length ds ≡ length bs = ap length is ∙ long bs w (f - w) (omega (arith, a, b)) in
    let there : (i : ℕ) → get_or (emptied bs w (f - w)) i None ≡ None → get_or ds i None ≡ None = λ i e. ap (λ es. get_or es i None) is ∙ e in
    let still : (i : ℕ) → get_or bs i None ≡ None → get_or ds i None ≡ None = λ i e. there i (none-still bs w (f - w) i (omega (arith, a, b)) e) in
    let last : length (emptied ds (f + n) (length ds - (f + n))) ≡ length ds = long ds (f + n) (length ds - (f + n)) (omega (arith, a, b, d)) in
    none-each _ (λ i t.
    let kept : get_or ds i None ≡ None → get_or (emptied ds (f + n) (length ds - (f + n))) i None ≡ None = none-still ds (f + n) (length ds - (f + n)) i (omega (arith, a, b, d)) in
    elim (cases_lt i w) [
      | inl x ↦ kept (still i (none-within firsts 0 w i (omega (arith, a)) (omega arith) (omega (arith, x))))
      | inr x ↦ elim (cases_lt i f) [
        | inl y ↦ kept (there i (none-within bs w (f - w) i (omega (arith, a, b)) x (omega (arith, x, y))))
        | inr y ↦ elim (cases_lt i (f + n)) [
          | inl z ↦ kept (still i (none-still firsts 0 w i (omega (arith, a)) (none-within cs f n i ends y z)))
          | inr z ↦ none-within ds (f + n) (length ds - (f + n)) i (omega (arith, a, b, d)) z (omega (arith, t, last, z))
        ]
      ]
    ])

-- no items at all
pub no_parts : {X : Type 0} (cs : List (Option X)) (f n w : ℕ) → n ≡ 0 → w ≡ 0 → parts cs f n w ≡ []
no_parts cs f n w e z = no_others cs f n w z ∙ run-none cs f n e

-- all items in line, from any place on
pub in_line : {X : Type 0} (cs : List (Option X)) (f n : ℕ) → parts cs f n 0 ≡ run cs f n
in_line cs f n = no_others cs f n 0 refl

-- a list of which both parts were reversed, after the whole
pub turned : {X : Type 0} (xs : List X) (n k : ℕ) → n ≤ length xs → k ≡ length xs - n → reverse (take k (reverse xs)) ++ reverse (drop k (reverse xs)) ≡ drop n xs ++ take n xs
turned xs n k few e =
    let front : List _ = take n xs in let back : List _ = drop n xs in
    let parted : reverse xs ≡ reverse back ++ reverse front = ap reverse (sym (take-append-drop n xs)) ∙ reverse-append front back in
    let long : length (reverse back) ≡ k = length-reverse back ∙ length-drop n xs ∙ sym e in
    rw (parted, take_at (reverse back) (reverse front) k long, drop_at (reverse back) (reverse front) k long, reverse-reverse back, reverse-reverse front)

-- values that a slice showed, written anew in another order
pub refilled : {X : Type 0} (n : ℕ) (xs ws : List X) → length ws ≡ n → refill n xs ws ≡ ws
refilled n xs ws e = take_at ws (drop (length ws) xs) n e

pub length-turned : {X : Type 0} (xs : List X) (n : ℕ) → n ≤ length xs → length (drop n xs ++ take n xs) ≡ length xs
length-turned xs n few = omega (arith, length-append (drop n xs) (take n xs), length-drop n xs, length-take-le n xs few)

pub rewritten_run : {X : Type 0} (cs : List (Option X)) (n by : ℕ) (xs ws : List X) → IsRun cs 0 n → take n cs ≡ map Some xs → by ≤ n → ws ≡ drop by xs ++ take by xs
    → IsRun (with_run cs 0 n (map Some (refill n xs ws))) 0 n × (length (with_run cs 0 n (map Some (refill n xs ws))) ≡ length cs)
rewritten_run {X} cs n by xs ws r seen few e =
    let fits = r.0 in
    let all : length xs ≡ n = omega (arith, ap length seen, length-map xs (λ (x : X). Some x), length-take-le n cs (omega arith)) in
    let long : length ws ≡ n = omega (arith, ap length e, length-turned xs by (omega arith)) in
    rw (refilled n xs ws long) (grind (arith, shown, long, fits))

pub ruleset rewritten = (shown, refilled, length-turned)

-- how many items there are
pub ruleset counted = (nat_tests, length-parts)

-- what each call needs
pub ruleset read = (two_runs, counted)

pub ruleset written_anew = (two_runs, length-parts, set_first, has-set_first, set_other, has-set_other)

pub ruleset reserving = (apart, counted, in_line)

pub ruleset put_at_back = (nat_tests, length-set, length-parts, has-put_first, put_first, has-put_other, put_other)

pub ruleset put_at_front = (nat_tests, length-set, length-parts, has-put_before, put_before, has-put_around, put_around)

pub ruleset taken_first = (nat_tests, length-set, no_parts, first-filled, take_first, has-take_first, around-there, take_around, has-take_around)

pub ruleset taken_last = (nat_tests, length-set, no_parts, other-there, take_other, has-take_other, last-there, take_last, has-take_last)

-- all items in one run: none was wrapped
pub straight : {X : Type 0} (cs : List (Option X)) (f n w : ℕ) → w ≡ 0 → run cs f (n + w) ≡ parts cs f n w
straight cs f n w e = let all : n + w ≡ n = omega arith in ap (run cs f) all ∙ sym (no_others cs f n w e)

-- or the two runs were joined as ds, and then turned as es
pub turned_straight : {X : Type 0} (cs ds es : List (Option X)) (f n w : ℕ) → IsRun cs 0 w → run ds 0 (w + n) ≡ run cs 0 w ++ run cs f n
    → run es 0 (w + n) ≡ drop w (run ds 0 (w + n)) ++ take w (run ds 0 (w + n)) → run es 0 (n + w) ≡ parts cs f n w
turned_straight cs ds es f n w r whole turn =
    let order : n + w ≡ w + n = omega arith in
    ap (run es 0) order ∙ turn ∙ (λ i. drop w (whole i) ++ take w (whole i)) ∙ rotated (run cs 0 w) (run cs f n) w (length-run cs 0 w r)

-- and no value is elsewhere
pub IsRun-none : {X : Type 0} (cs : List (Option X)) → IsRun cs 0 0
IsRun-none cs = IsRun-nil cs 0 (omega arith)

pub ruleset straightened = (nat_tests, straight, turned_straight)

pub ruleset in_one_run = (nat_tests, length-parts, IsRun-none, in_line)

-- the two runs were joined as ds at the first places, where none was wrapped
pub gathered_straight : {X : Type 0} (cs ds : List (Option X)) (f n w : ℕ) → w ≡ 0 → run ds 0 (w + n) ≡ run cs 0 w ++ run cs f n → run ds 0 (n + w) ≡ parts cs f n w
gathered_straight cs ds f n w e whole =
    let order : n + w ≡ w + n = omega arith in
    ap (run ds 0) order ∙ whole ∙ ap (λ ys. ys ++ run cs f n) (run-none cs 0 w e) ∙ sym (no_others cs f n w e)

pub ruleset gathered = (nat_tests, gathered_straight, turned_straight)

-- what is computed of the two slices in turn
pub ruleset as_two = (flat_map-append, fold-append, list_any-append)
