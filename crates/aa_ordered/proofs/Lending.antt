-- Entries that are lent one by one, from both ends: what remains, after one is taken, or after a
-- list is entered.
use Rattle.std.proofs.Common.{◌≡◌, ◌+◌, ◌-◌, ◌*◌, ◌≤◌, ◌<◌, ◌^◌, ◌++◌, ◌⊎◌, ℕ, List, [], ◌∷◌, Option, None, Some, refl, ap, sym, subst, arith, length, map, take, get_or, append_assoc, append-nil, length-append, length-take-le, inl, inr, ◌∙◌}
use Rattle.std.specs.Prelude.{All, slice_set}
use Rattle.std.proofs.lemmas.Bool.{cases_lt}
use Rattle.std.proofs.lemmas.Bool.Decides.{nat_tests}
use Rattle.std.proofs.lemmas.List.{drop_at, get_or-take, map-append, take_at}
use Rattle.std.proofs.lemmas.List.Sums.{sum_by-take-le}
use Rattle.std.proofs.lemmas.List.Concat.{flat_map-append}
use Rattle.std.proofs.lemmas.List.Elements.{All-cons, All-drop, All-head, All-tail, All-take}
use Rattle.aa_raw.proofs.Calls.{filled-back, run-take_back, run-take_first, IsRun-take_back, IsRun-take_first}
use Rattle.aa_raw.proofs.Runs.{first-filled, run-set-above, run-set-below, run-zero, IsRun-nil, IsRun-same}
use Rattle.allocator_api2.specs.Places.{IsFilled, IsRun, run}
use Rattle.aa_ordered.proofs.Arena.{has, has-own, heads_of-append, heads_of-cons, heads_of-there}
use Rattle.aa_ordered.proofs.Edits.{keeps-single, others-held, others-same}
use Rattle.aa_ordered.specs.Arena.{heads_of, list_of, IsHeld, Keeps}
use Rattle.aa_ordered.specs.Capacity.{capacity_of}
use Rattle.aa_ordered.specs.Entries.{OrderedView}
use Rattle.aa_ordered.specs.IterMut.{entries_in, AreParts, IsLending, IsLent, IsPart}
use Rattle.aa_ordered.specs.Ranges.{items_of}
use Rattle.aa_ordered.specs.declared.leaves.Head.{Head}

-- a head whose leaf is in a block of `n` places
abbrev FitsIn : (n : ℕ) → Head → Type 0
FitsIn n h = ((h.leaf + 1) * 64 ≤ n) × ((h.leaf + 1) * 64 < 2 ^ 64)

-- the last head as the first
turned : (P : Head → Type 0) (h : Head) (hs : List Head) → All P (hs ++ h ∷ []) → All P (h ∷ hs)
turned P h hs all =
    let gs = hs ++ h ∷ [] in let n = length hs in
    let init = subst (All P) (take_at hs (h ∷ []) n refl) (All-take P n gs all) in
    let last = subst (All P) (drop_at hs (h ∷ []) n refl) (All-drop P n gs all) in
    All-cons P h hs (All-head P h [] last) init

module _ {K V : Type 0} where
  -- a head whose leaf is in the places `cs`
  abbrev Fits : List (Option (K × V)) → Head → Type 0
  Fits cs h = FitsIn (length cs) h

  -- a part that begins at its end has no entries
  no-run : (cs : List (Option (K × V))) (at end : ℕ) → at ≡ end → run cs at (end - at) ≡ []
  no-run cs at end e =
      let zero : end - at ≡ 0 = omega (arith, e) in ap (run cs at) zero ∙ run-zero cs at

  -- the two ends are alike
  flips : {cs : List (Option (K × V))} {hs : List Head} {at end from until : ℕ}
      → AreParts cs hs at end from until → AreParts cs hs from until at end
  flips r = record {
    first = r.last;
    last = r.first;
    front = r.back;
    back = r.front;
    differ = λ more some same. r.differ some more (sym same);
    once = r.once;
    held = r.held;
    places = r.places;
  }

  -- an entry of the front is taken: all others remain
  module _ {cs : List (Option (K × V))} {hs : List Head} {at end from until : ℕ}
      (r : AreParts cs hs at end from until) (x : K × V)
      (i : ℕ) (low : at ≤ i) (high : i < end) where
    abbrev rest : List (Option (K × V))
    rest = slice_set cs i None

    there : at < end
    there = omega (arith, low, high)

    keeps : Keeps cs rest r.first r.first
    keeps = let a = r.front.apart there in
        keeps-single cs r.first x a.2 i (omega (arith, a.0, low)) (omega (arith, a.1, high)) None

    beside : from < until → (i < from) ⊎ (until ≤ i)
    beside more =
        let a = r.front.apart there in let b = r.back.apart more in
        elim (cases_lt r.first r.last) [
          | inl l ↦ inl (omega (arith, a.1, high, b.0, l))
          | inr g ↦ elim (cases_lt r.last r.first) [
            | inl l ↦ inr (omega (arith, a.0, low, b.1, l))
            | inr h ↦ absurd (r.differ there more (omega (arith, g, h)))
          ]
        ]

    kept : run rest from (until - from) ≡ run cs from (until - from)
    kept = elim (cases_lt from until) [
      | inl more ↦ elim (beside more) [
        | inl b ↦ run-set-below cs from (until - from) i None b
        | inr u ↦ let a = r.front.apart there in
            run-set-above cs from (until - from) i None (omega (arith, high, a.1, a.2))
            (omega (arith, u, more))
      ]
      | inr g ↦ let e : from ≡ until = omega (arith, g, r.back.order) in
          no-run rest from until e ∙ sym (no-run cs from until e)
    ]

    others : map (list_of rest) hs ≡ map (list_of cs) hs
    others = others-same cs rest r.first keeps hs (r.front.apart there).3 r.held

    takes : (a e : ℕ) → at ≤ a → a ≤ e → e ≤ end → IsRun rest a (e - a)
        → AreParts rest hs a e from until
    takes a e later order before filled = record {
      first = r.first;
      last = r.last;
      front = record {
        order = order;
        small = omega (arith, before, r.front.small);
        filled = filled;
        apart = λ more. let p = r.front.apart there in (
          omega (arith, p.0, later),
          omega (arith, p.1, before),
          omega (arith, p.2, keeps.count),
          p.3,
        );
      };
      back = record {
        order = r.back.order;
        small = r.back.small;
        filled = IsRun-same cs rest from (until - from) keeps.count kept r.back.filled;
        apart = λ more. let p = r.back.apart more in
            (p.0, p.1, omega (arith, p.2, keeps.count), p.3);
      };
      differ = λ more others. r.differ there others;
      once = r.once;
      held = others-held cs rest r.first keeps hs (r.front.apart there).3 r.held;
      places = subst (λ n. All (FitsIn n) hs) (sym keeps.count) r.places;
    }

  -- the first entry is taken
  module _ {cs : List (Option (K × V))} {hs : List Head} {at end from until left : ℕ}
      (r : IsLending cs hs at end from until left) (some : at < end) where
    pub first-there : IsFilled cs at
    first-there = first-filled cs at (end - at) r.parts.front.filled (omega (arith, some))

    module _ (x : K × V) (read : get_or cs at None ≡ Some x) where
      abbrev ds : List (Option (K × V))
      ds = slice_set cs at None

      same : at ≤ at
      same = omega arith

      pub first-taken : entries_in cs hs at end from until
          ≡ x ∷ entries_in ds hs (at + 1) end from until
      first-taken =
          let front = sym (run-take_first cs at end x some r.parts.front.filled read) in
          let lists = sym (others r.parts x at same some) in
          let back = sym (kept r.parts x at same some) in
          λ i. front i ++ items_of (lists i) ++ back i

      pub stays-first : IsLending ds hs (at + 1) end from until (left - 1)
      stays-first = record {
        parts = takes r.parts x at same some
            (at + 1) end (omega arith) (omega (arith, some)) (omega arith)
            (IsRun-take_first cs at end some r.parts.front.filled);
        count = omega (arith, r.count, ap length first-taken);
      }

  -- the last entry is taken
  module _ {cs : List (Option (K × V))} {hs : List Head} {at end from until left : ℕ}
      (r : IsLending cs hs at end from until left) (some : from < until) where
    pub last-there : IsFilled cs (until - 1)
    last-there = filled-back cs from until some r.parts.back.filled

    module _ (x : K × V) (read : get_or cs (until - 1) None ≡ Some x) where
      abbrev es : List (Option (K × V))
      es = slice_set cs (until - 1) None

      low : from ≤ until - 1
      low = omega (arith, some)

      high : until - 1 < until
      high = omega (arith, some)

      pub last-taken : entries_in cs hs at end from until
          ≡ entries_in es hs at end from (until - 1) ++ x ∷ []
      last-taken =
          let other = flips r.parts in
          let front = sym (kept other x (until - 1) low high) in
          let lists = sym (others other x (until - 1) low high) in
          let back = sym (run-take_back cs from until x some r.parts.back.filled read) in
          let before = run es at (end - at) ++ items_of (map (list_of es) hs) in
          (λ i. front i ++ items_of (lists i) ++ back i)
          ∙ sym (append_assoc before (run es from (until - 1 - from)) (x ∷ []))

      pub stays-last : IsLending es hs at end from (until - 1) (left - 1)
      stays-last = record {
        parts = flips (takes (flips r.parts) x (until - 1) low high
            from (until - 1) (omega arith) low (omega arith)
            (IsRun-take_back cs from until some r.parts.back.filled));
        count = omega (
          arith,
          r.count,
          ap length last-taken,
          length-append (entries_in es hs at end from (until - 1)) (x ∷ []),
        );
      }

  -- a part whose leaf no head has, among fewer heads, or the same in another order
  among : {cs : List (Option (K × V))} {gs hs : List Head} {at end leaf : ℕ}
      → (heads_of leaf gs ≡ 0 → heads_of leaf hs ≡ 0)
      → IsPart cs gs at end leaf → IsPart cs hs at end leaf
  among fewer p = record {
    order = p.order;
    small = p.small;
    filled = p.filled;
    apart = λ some. let a = p.apart some in (a.0, a.1, a.2, fewer a.3);
  }

  -- the first list becomes the front
  module _ {cs : List (Option (K × V))} {h : Head} {hs : List Head} {at end from until : ℕ}
      (r : AreParts cs (h ∷ hs) at end from until) where
    held : IsHeld cs h
    held = All-head (IsHeld cs) h hs r.held

    fits : Fits cs h
    fits = All-head (Fits cs) h hs r.places

    within : (h.leaf * 64 + h.len) < 2 ^ 64
    within = omega (arith, fits.1, held.0)

    long : h.leaf * 64 + h.len - h.leaf * 64 ≡ h.len
    long = omega arith

    enters : AreParts cs hs (h.leaf * 64) (h.leaf * 64 + h.len) from until
    enters = record {
      first = h.leaf;
      last = r.last;
      front = record {
        order = omega arith;
        small = within;
        filled = subst (IsRun cs (h.leaf * 64)) (sym long) held.1;
        apart = λ more. (
          omega arith,
          omega (arith, held.0),
          fits.0,
          omega (arith, r.once h.leaf, heads_of-cons h.leaf h hs, has-own h),
        );
      };
      back = among (λ free. omega (arith, free, heads_of-cons r.last h hs)) r.back;
      differ = λ some more same.
          let own : has r.last h ≡ 1 = subst (λ l. has l h ≡ 1) same (has-own h) in
          omega (arith, (r.back.apart more).3, heads_of-cons r.last h hs, own);
      once = λ l. omega (arith, r.once l, heads_of-cons l h hs);
      held = All-tail (IsHeld cs) h hs r.held;
      places = All-tail (Fits cs) h hs r.places;
    }

  -- the last head as the first
  turns : {cs : List (Option (K × V))} (h : Head) (hs : List Head) {at end from until : ℕ}
      → AreParts cs (hs ++ h ∷ []) at end from until → AreParts cs (h ∷ hs) at end from until
  turns {cs} h hs r =
      let same : (l : ℕ) → heads_of l (h ∷ hs) ≡ heads_of l (hs ++ h ∷ [])
      = λ l. omega (
        arith,
        heads_of-cons l h hs,
        heads_of-append l hs (h ∷ []),
        heads_of-cons l h [],
      ) in
      record {
        first = r.first;
        last = r.last;
        front = among (λ free. same r.first ∙ free) r.front;
        back = among (λ free. same r.last ∙ free) r.back;
        differ = r.differ;
        once = λ l. omega (arith, same l, r.once l);
        held = turned (IsHeld cs) h hs r.held;
        places = turned (Fits cs) h hs r.places;
      }

  -- the back becomes the front
  moves : {cs : List (Option (K × V))} {at end from until : ℕ}
      → AreParts cs [] at end from until → AreParts cs [] from until until until
  moves {cs} {at} {end} {from} {until} r = record {
    first = r.last;
    last = r.last;
    front = r.back;
    back = record {
      order = omega arith;
      small = r.back.small;
      filled = let zero : 0 ≡ until - until = omega arith in
          subst (IsRun cs until) zero
          (IsRun-nil cs until (omega (arith, r.back.filled.0, r.back.order)));
      apart = λ more. absurd (omega (arith, more));
    };
    differ = λ some more. absurd (omega (arith, more));
    once = r.once;
    held = r.held;
    places = r.places;
  }

  -- the front is empty, and the first list is entered
  module _ {cs : List (Option (K × V))} {h : Head} {hs : List Head} {at end from until left : ℕ}
      (r : IsLending cs (h ∷ hs) at end from until left) where
    pub first-within : (h.leaf * 64 + h.len) < 2 ^ 64
    first-within = within r.parts

    module _ (e : at ≡ end) where
      pub first-same : entries_in cs (h ∷ hs) at end from until
          ≡ entries_in cs hs (h.leaf * 64) (h.leaf * 64 + h.len) from until
      first-same =
          let back = run cs from (until - from) in let lists = items_of (map (list_of cs) hs) in
          ap (λ es. es ++ (list_of cs h ++ lists) ++ back) (no-run cs at end e)
          ∙ ap (λ n. run cs (h.leaf * 64) n ++ lists ++ back) (sym (long r.parts))

      pub enters-first : IsLending cs hs (h.leaf * 64) (h.leaf * 64 + h.len) from until left
      enters-first = record { parts = enters r.parts; count = r.count ∙ ap length first-same }

  -- the back is empty, and the last list is entered
  module _ {cs : List (Option (K × V))} (h : Head) (hs : List Head) {at end from until left : ℕ}
      (r : IsLending cs (hs ++ h ∷ []) at end from until left) where
    other : AreParts cs (h ∷ hs) from until at end
    other = flips (turns h hs r.parts)

    pub last-within : (h.leaf * 64 + h.len) < 2 ^ 64
    last-within = within other

    module _ (e : from ≡ until) where
      pub last-same : entries_in cs (hs ++ h ∷ []) at end from until
          ≡ entries_in cs hs at end (h.leaf * 64) (h.leaf * 64 + h.len)
      last-same =
          let front = run cs at (end - at) in let lists = items_of (map (list_of cs) hs) in
          let list = list_of cs h in let all = items_of (map (list_of cs) (hs ++ h ∷ [])) in
          let parts : all ≡ lists ++ list
          = ap items_of (map-append (list_of cs) hs (h ∷ []))
          ∙ flat_map-append (λ l. l) (map (list_of cs) hs) (list ∷ [])
          ∙ ap (λ es. lists ++ es) (append-nil list) in
          ap (λ es. front ++ all ++ es) (no-run cs from until e) ∙ append-nil (front ++ all)
          ∙ ap (λ es. front ++ es) parts ∙ sym (append_assoc front lists list)
          ∙ ap (λ n. front ++ lists ++ run cs (h.leaf * 64) n) (sym (long other))

      pub enters-last : IsLending cs hs at end (h.leaf * 64) (h.leaf * 64 + h.len) left
      enters-last = record { parts = flips (enters other); count = r.count ∙ ap length last-same }

  -- no list is left, and one end takes over what remains of the other
  module _ {cs : List (Option (K × V))} {at end from until left : ℕ}
      (r : IsLending cs [] at end from until left) where
    module _ (e : at ≡ end) where
      pub back-some : 0 < left → from < until
      back-some some = elim (cases_lt from until) [
        | inl l ↦ l
        | inr g ↦
            let f : from ≡ until = omega (arith, g, r.parts.back.order) in
            let nothing : entries_in cs [] at end from until ≡ []
            = λ i. no-run cs at end e i ++ [] ++ no-run cs from until f i in
            absurd (omega (arith, some, r.count, ap length nothing))
      ]

      pub back-same : entries_in cs [] at end from until ≡ entries_in cs [] from until until until
      back-same =
          let back = run cs from (until - from) in let u : until ≡ until = refl in
          ap (λ es. es ++ [] ++ back) (no-run cs at end e)
          ∙ sym (append-nil back) ∙ sym (append-nil (back ++ []))
          ∙ ap (λ es. back ++ [] ++ es) (sym (no-run cs until until u))

      pub moves-back : IsLending cs [] from until until until left
      moves-back = record { parts = moves r.parts; count = r.count ∙ ap length back-same }

    module _ (e : from ≡ until) where
      pub front-some : 0 < left → at < end
      front-some some = elim (cases_lt at end) [
        | inl l ↦ l
        | inr g ↦
            let f : at ≡ end = omega (arith, g, r.parts.front.order) in
            let nothing : entries_in cs [] at end from until ≡ []
            = λ i. no-run cs at end f i ++ [] ++ no-run cs from until e i in
            absurd (omega (arith, some, r.count, ap length nothing))
      ]

      pub front-same : entries_in cs [] at end from until ≡ entries_in cs [] end end at end
      front-same =
          let front = run cs at (end - at) in let u : end ≡ end = refl in
          ap (λ es. front ++ [] ++ es) (no-run cs from until e)
          ∙ append-nil (front ++ []) ∙ append-nil front
          ∙ ap (λ es. es ++ [] ++ front) (sym (no-run cs end end u))

      pub moves-front : IsLending cs [] end end at end left
      moves-front = record {
        parts = flips (moves (flips r.parts));
        count = r.count ∙ ap length front-same;
      }

-- all entries of a map that was lent
module _ {K V : Type 0} {cs : List (Option (K × V))} {hs : List Head} {used : ℕ}
    {m : OrderedView K V} (r : IsLent cs hs used m) where
  pub starts-view : entries_in cs (take used hs) 0 0 0 0 ≡ m.entries
  starts-view =
      let lists = items_of (map (list_of cs) (take used hs)) in
      (λ i. run-zero cs 0 i ++ lists ++ run-zero cs 0 i) ∙ append-nil lists ∙ r.entries

module _ {K V : Type 0} {cs : List (Option (K × V))} {hs : List Head} {used : ℕ}
    {m : OrderedView K V} (r : IsLent cs hs used m) (room left : ℕ) (small : room * 64 < 2 ^ 64)
    (capacity : capacity_of room ≡ m.capacity) (all : left ≡ length m.entries) where
  same-room : (n k : ℕ) → capacity_of n ≡ capacity_of k → n ≤ k
  same-room n k e = grind (arith, nat_tests, e)

  few : length hs * 64 < 2 ^ 64
  few = omega (arith, small, same-room (length hs) room (r.room ∙ sym capacity))

  leaf-within : (k : ℕ) (d : Head) → k < length hs → (get_or hs k d).leaf < length hs
  leaf-within k d lt = elim (cases_lt (get_or hs k d).leaf (length hs)) [
    | inl l ↦ l
    | inr g ↦
        absurd (omega (arith, r.arena.leaves (get_or hs k d).leaf g, heads_of-there hs k d lt))
  ]

  all-fit : All (Fits cs) (take used hs)
  all-fit k d lt =
      let long = length-take-le used hs r.arena.lists in
      let within : k < length hs = omega (arith, lt, long, r.arena.lists) in
      let l = leaf-within k d within in
      let same : get_or (take used hs) k d ≡ get_or hs k d
      = get_or-take used hs k d (omega (arith, lt, long)) in
      let there : Fits cs (get_or hs k d)
      = (omega (arith, l, r.arena.places), omega (arith, l, few)) in
      subst (Fits cs) (sym same) there

  at-start : IsPart cs (take used hs) 0 0 0
  at-start = record {
    order = omega arith;
    small = omega arith;
    filled = (omega arith, refl);
    apart = λ more. absurd (omega (arith, more));
  }

  pub starts-lending : IsLending cs (take used hs) 0 0 0 0 left
  starts-lending = record {
    parts = record {
      first = 0;
      last = 0;
      front = at-start;
      back = at-start;
      differ = λ some more. absurd (omega (arith, more));
      once = λ l. omega (arith, r.arena.once l, sum_by-take-le (has l) hs used);
      held = r.arena.held;
      places = all-fit;
    };
    count = all ∙ sym (ap length (starts-view r));
  }
