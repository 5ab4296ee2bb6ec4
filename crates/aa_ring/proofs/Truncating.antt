-- A ring after its last items were dropped.
use Rattle.std.proofs.Common.{rules, ◌≡◌, ℕ, ◌+◌, ◌-◌, ◌≤◌, ◌<◌, List, ◌++◌, length, take, Option, None, refl, sym, ap, ◌∙◌, arith, append_assoc, length-append}
use Rattle.std.specs.Prelude.{replicate}
use Rattle.std.proofs.lemmas.List.{take_at}
use Rattle.allocator_api2.specs.Places.{IsRun, run, with_run}
use Rattle.allocator_api2.proofs.Blocks.{in_runs, IsRun-nil, IsRun-part, length-run, run-split}
use Rattle.aa_ring.specs.RingInner.{HasParts}
use Rattle.aa_ring.proofs.Rings.{parts, no_others, others-left}

-- the first values of a list in two parts, where they are those of the first
taken : {X : Type 0} (xs ys zs : List X) (n : ℕ) → length xs ≡ n → take n ((xs ++ ys) ++ zs) ≡ xs
taken xs ys zs n e = ap (take n) (append_assoc xs ys zs) ∙ take_at xs (ys ++ zs) n e

module _ {X : Type 0} (cs : List (Option X)) (f n w len : ℕ) (h : HasParts cs f n w) where
  -- the places without the first items from `len` on
  abbrev pub first_cut : List (Option X)
  first_cut = with_run cs (f + len) (n - len) (replicate (n - len) None)

  -- and without the wrapped ones
  abbrev pub both_cut : List (Option X)
  both_cut = with_run first_cut 0 w (replicate w None)

  module _ (few : len < n) where
    pub rest-there : IsRun cs (f + len) (n - len)
    rest-there = IsRun-part cs f n (f + len) (n - len) (omega arith) (omega (arith, few)) h.first

    start : IsRun cs f len
    start = IsRun-part cs f n f len (omega arith) (omega (arith, few)) h.first

    pub others-there : IsRun first_cut 0 w
    others-there =
        others-left cs (f + len) (n - len) w (record {
          first = rest-there;
          others = h.others;
          apart = omega (arith, h.apart);
          ends = λ some. omega (arith, h.ends some, few);
        })

    pub has-cut : HasParts both_cut f len 0
    has-cut =
        let fits = h.first.0 in let low = h.apart in let there = start in let w-there = h.others in
        let one : IsRun first_cut f len = search (rules, in_runs) in
        let both : IsRun both_cut f len = search (rules, in_runs) in
        record {
          first = both;
          others = IsRun-nil both_cut 0 (omega arith);
          apart = omega arith;
          ends = λ some. absurd (omega (arith, some));
        }

    pub cut : parts both_cut f len 0 ≡ take len (parts cs f n w)
    cut =
        let fits = h.first.0 in let low = h.apart in
        let same : run both_cut f len ≡ run cs f len = search (rules, in_runs) in
        let split : run cs f n ≡ run cs f len ++ run cs (f + len) (n - len) = run-split cs f
        (f + len) len (n - len) n refl (omega (arith, few)) in
        no_others both_cut f len 0 refl ∙ same
        ∙ sym (ap (λ xs. take len (xs ++ run cs 0 w)) split
        ∙ taken (run cs f len) (run cs (f + len) (n - len)) (run cs 0 w) len
        (length-run cs f len start))

    pub length-both : length both_cut ≡ length cs
    length-both =
        let fits = h.first.0 in let w-fits = h.others.0 in let l = few in
        let one : length first_cut ≡ length cs = search (rules, in_runs) in
        search (rules, in_runs)

  -- the places without the wrapped items after `len`
  abbrev pub others_cut : List (Option X)
  others_cut = with_run cs (len - n) (w - (len - n)) (replicate (w - (len - n)) None)

  module _ (past : n ≤ len) (few : len - n < w) where
    pub cut_others : parts others_cut f n (len - n) ≡ take len (parts cs f n w)
    cut_others =
        let k : ℕ = len - n in let xs = run cs f n in let ys = run cs 0 k in
        let zs = run cs k (w - k) in
        let fits = h.others.0 in let low = h.apart in let l = few in
        let first : run others_cut f n ≡ xs = search (rules, in_runs) in
        let others : run others_cut 0 k ≡ ys = search (rules, in_runs) in
        let split : run cs 0 w ≡ ys ++ zs = run-split cs 0 k k (w - k) w (omega arith) (omega
        (arith, few)) in
        let long : length (xs ++ ys) ≡ len =
        length-append xs ys ∙ omega (
          arith,
          length-run cs f n h.first,
          length-run cs 0 k (IsRun-part cs 0 w 0 k (omega arith) (omega (arith, few)) h.others),
          past,
        ) in
        rw (first, others)
        (sym (ap (λ os. take len (xs ++ os)) split ∙ ap (take len) (sym (append_assoc xs ys zs))
        ∙ take_at (xs ++ ys) zs len long))

    pub length-others : length others_cut ≡ length cs
    length-others = let fits = h.others.0 in let l = few in search (rules, in_runs)
