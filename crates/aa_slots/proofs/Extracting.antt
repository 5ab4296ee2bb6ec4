-- What calls of an iterator that removes values leave, one after another.
use Rattle.aa_slots.proofs.Common.{Key, KeyData, List, None, Option, Some, [], ap, arith, cases_lt, entries_from, false, inl, inr, length, refl, slice_get, slice_set, slot_at, subst, sym, true, value_under, ℕ, ◌++◌, ◌+◌, ◌-◌, ◌∙◌, ◌∷◌, ◌≡◌}
use Rattle.aa_slots.proofs.Finds.{length-entries}
use Rattle.aa_slots.proofs.Passing.{after-passed, after-set, before-freed, before-passed, entries-append, left-is}
use Rattle.aa_slots.specs.Extracting.{extract_kept, extract_map, extract_remaining, extracts_next, negated, ExtractKeeps, Extracted, Extracts, ExtractsFirst, ExtractsNext}
use Rattle.aa_slots.specs.Keys.{data_pair}
use Rattle.aa_slots.specs.Retaining.{Keeps, MayReturn}
use Rattle.aa_slots.specs.Slotted.{Slotted, entries, pairs_before, pairs_from}
use Rattle.aa_slots.specs.declared.map.extract_if.ExtractBy.{ExtractBy}
use Rattle.aa_slots.specs.declared.map.extract_if.ExtractIf.{ExtractIf}
use Rattle.std.proofs.Common.{Bool, MutBor, drop, length-drop, map, take, take-append-drop}
use Rattle.std.proofs.lemmas.List.{append-nil, append_assoc, drop_all, length-take-le, map-append, take_all}
use Rattle.std.specs.Iterator.{Yields, YieldsThen}
use Rattle.std.specs.Option.{option_map}
use Rattle.std.specs.Prelude.{not, if◌then◌else◌}

module _ {T : Type 0} where
  -- all pairs are before an index, or from it on
  pub pairs-whole : (ss : List (Option (ℕ × T))) (at : ℕ)
      → entries_from 0 ss ≡ pairs_before ss at ++ pairs_from ss at
  pairs-whole ss at = elim (cases_lt at (length ss)) [
    | inl l ↦
        let long : 0 + length (take at ss) ≡ at =
        omega (arith, length-take-le at ss (omega (arith, l))) in
        sym (ap (entries_from 0) (take-append-drop at ss))
        ∙ entries-append 0 (take at ss) (drop at ss)
        ∙ ap (λ i. pairs_before ss at ++ entries_from i (drop at ss)) long
    | inr g ↦
        sym (append-nil (entries_from 0 ss))
        ∙ ap (λ l. entries_from 0 l ++ []) (sym (take_all at ss g))
        ∙ ap (λ l. pairs_before ss at ++ entries_from at l) (sym (drop_all at ss g))
  ]

  -- as many pairs remain after the first one
  pub counted-next : (slots : List (Option (ℕ × T))) (at : ℕ) (key : KeyData)
      → Some key ≡ option_map (λ e. e.0) (slice_get (pairs_from slots at) 0)
      → (o : Option (ℕ × T)) (n : ℕ) → n ≡ length (pairs_from slots at)
      → n - 1 ≡ length (pairs_from (slice_set slots key.index o) (key.index + 1))
  counted-next slots at key found o n h =
      omega (
        arith,
        h,
        ap length (after-set slots at key found o),
        length-drop 1 (pairs_from slots at),
      )

  none-first : (es : List (KeyData × T)) → None ≡ option_map (λ e. e.0) (slice_get es 0) → es ≡ []
  none-first [] h = refl
  none-first (e ∷ es) h = absurd (cc)

  if-append : (b : Bool) (e : KeyData × T) (xs ys : List (KeyData × T))
      → (if b then e ∷ xs else xs) ++ ys ≡ (if b then e ∷ (xs ++ ys) else xs ++ ys)
  if-append true e xs ys = refl
  if-append false e xs ys = refl

  else-append : (b : Bool) (e : KeyData × T) (xs ys : List (KeyData × T))
      → (if b then xs else e ∷ xs) ++ ys ≡ (if b then xs ++ ys else e ∷ (xs ++ ys))
  else-append true e xs ys = refl
  else-append false e xs ys = refl

  else-not : (b : Bool) (e : KeyData × T) (xs : List (KeyData × T))
      → (if b then xs else e ∷ xs) ≡ (if not b then e ∷ xs else xs)
  else-not true e xs = refl
  else-not false e xs = refl

module _ {T F K : Type 0} (step : F → Key K → MutBor T → Bool → MutBor T → F → Type 0) where
  -- calls for some pairs, and then for more
  pub extracts-append : (f g h : F) (es more removed gone kept rest : List (KeyData × T))
      → Extracts step f es removed kept g → Extracts step g more gone rest h
      → Extracts step f (es ++ more) (removed ++ gone) (kept ++ rest) h
  extracts-append f g h [] more removed gone kept rest a b =
      rw (a.0, a.1) (subst (λ s. Extracts step s more gone rest h) a.2 b)
  extracts-append f g h (e ∷ es) more removed gone kept rest a b = (
    a.0,
    a.1,
    a.2,
    a.3,
    a.4 ++ gone,
    a.5 ++ rest,
    ap (λ l. l ++ gone) a.6 ∙ if-append a.0 (e.0, a.1) a.4 gone,
    ap (λ l. l ++ rest) a.7 ∙ else-append a.0 (e.0, a.1) a.5 rest,
    extracts-append a.2 g h es more a.4 gone a.5 rest a.8 b,
  )

  opposite : (f g : F) (k : KeyData) (x y : T) (result : Bool) → MayReturn step f k x result y g
      → MayReturn (negated step) f k x (not result) y g
  opposite f g k x y true h = record {
    before = h.before;
    given = h.given;
    after = h.after;
    left = h.left;
    call = h.call;
  }
  opposite f g k x y false h = record {
    before = h.before;
    given = h.given;
    after = h.after;
    left = h.left;
    call = h.call;
  }

  -- the same in the words of `retain`
  pub extracts-keeps : (f g : F) (es removed kept : List (KeyData × T))
      → Extracts step f es removed kept g → Keeps (negated step) f es kept g
  extracts-keeps f g [] removed kept a = (a.1, a.2)
  extracts-keeps f g (e ∷ es) removed kept a = (
    not a.0,
    a.1,
    a.2,
    opposite f a.2 e.0 e.1 a.1 a.0 a.3,
    a.5,
    a.7 ∙ else-not a.0 (e.0, a.1) a.5,
    extracts-keeps a.2 g es a.4 a.5 a.8,
  )

  module _ (first : F) (old : List (Option (ℕ × T))) (from : ℕ) where
    -- the closure was called for the first pairs of the slots `old` from index `from` on, and
    -- returned `false`; it is `f` then, and the others are in the slots `now` from index `at` on
    pub record PassesTo (now : List (Option (ℕ × T))) (at : ℕ) (f : F) : Type 0 where
      pub before : List (KeyData × T)
      pub kept : List (KeyData × T)
      pub rest : pairs_from old from ≡ before ++ pairs_from now at
      pub passed : Extracts step first before [] kept f
      pub are_kept : pairs_before now at ≡ pairs_before old from ++ kept

    pub passes-none : PassesTo old from first
    passes-none = record {
      before = [];
      kept = [];
      rest = refl;
      passed = (refl, refl, refl);
      are_kept = sym (append-nil (pairs_before old from));
    }

    module _ (now : List (Option (ℕ × T))) (at : ℕ) (f : F) (inv : PassesTo now at f) where
      pub found-none : None ≡ option_map (λ e. e.0) (slice_get (pairs_from now at) 0)
          → ExtractsFirst step first (pairs_from old from) None inv.kept (pairs_from now at) f
      found-none h =
          let none = none-first (pairs_from now at) h in
          record {
            before = inv.before;
            state = f;
            passed = inv.passed;
            cases =
                (inv.rest ∙ ap (λ l. inv.before ++ l) none ∙ append-nil inv.before, none, refl);
          }

      module _ (key : KeyData) (x y : T) (g : F)
          (found : Some key ≡ option_map (λ e. e.0) (slice_get (pairs_from now at) 0))
          (is : value_under key.serial (slot_at now key.index) ≡ Some x) where
        -- the call for the next pair
        pub passes-more : MayReturn step f key x false y g
            → PassesTo (slice_set now key.index (Some (key.serial, y))) (key.index + 1) g
        passes-more call =
            let rest = drop 1 (pairs_from now at) in
            record {
              before = inv.before ++ (key, x) ∷ [];
              kept = inv.kept ++ (key, y) ∷ [];
              rest =
                  inv.rest ∙ ap (λ l. inv.before ++ l) (left-is now at key found x is)
                  ∙ sym (append_assoc inv.before ((key, x) ∷ []) rest)
                  ∙ ap (λ l. (inv.before ++ (key, x) ∷ []) ++ l) (sym (after-passed now at key found y));
              passed =
                  extracts-append first f g inv.before ((key, x) ∷ []) [] [] inv.kept ((key, y) ∷ [])
                  inv.passed (false, y, g, call, [], [], refl, refl, (refl, refl, refl));
              are_kept =
                  before-passed now at key found y ∙ ap (λ l. l ++ (key, y) ∷ []) inv.are_kept
                  ∙ append_assoc (pairs_before old from) inv.kept ((key, y) ∷ []);
            }

        pub found-some : MayReturn step f key x true y g
            → ExtractsFirst step first (pairs_from old from) (Some (key, y)) inv.kept
            (pairs_from (slice_set now key.index None) (key.index + 1)) g
        found-some call = record {
          before = inv.before;
          state = f;
          passed = inv.passed;
          cases = (
            x,
            inv.rest ∙ ap (λ l. inv.before ++ l) (left-is now at key found x is
                ∙ ap (λ l. (key, x) ∷ l) (sym (after-set now at key found None))),
            call,
          );
        }

        pub kept-some : pairs_before (slice_set now key.index None) (key.index + 1)
            ≡ pairs_before old from ++ inv.kept
        kept-some = before-freed now at key found ∙ inv.are_kept

  module _ {A : Type 0} where
    keeps-same : (s : ExtractBy T A K) → ExtractKeeps s s
    keeps-same s = record {
      lender = refl;
      slots = refl;
      others = refl;
      all = pairs-whole (extract_map s).slots s.at;
    }

    keeps-then : (s t u : ExtractBy T A K) → ExtractKeeps s t → ExtractKeeps t u → ExtractKeeps s u
    keeps-then s t u h k = record {
      lender = k.lender ∙ h.lender;
      slots = k.slots ∙ h.slots;
      others =
          k.others ∙ ap {A = Slotted T} (λ m. record m { slots = (extract_map u).slots }) h.others;
      all = k.all;
    }

    extracted-none : (f : F) (s : ExtractBy T A K) → Extracted step f s [] f s
    extracted-none f s = record {
      tested = [];
      passed = [];
      called = (refl, refl, refl);
      remaining = refl;
      kept = sym (append-nil (extract_kept s));
      others = keeps-same s;
    }

    extracted-then : (f g h : F) (s t u : ExtractBy T A K) (xs ys : List (Key K × T))
        → Extracted step f s xs g t → Extracted step g t ys h u → Extracted step f s (xs ++ ys) h u
    extracted-then f g h s t u xs ys a b = record {
      tested = a.tested ++ b.tested;
      passed = a.passed ++ b.passed;
      called = rw (map-append data_pair xs ys)
          (extracts-append f g h a.tested b.tested (map data_pair xs) (map data_pair ys) a.passed
          b.passed a.called b.called);
      remaining =
          a.remaining ∙ ap (λ l. a.tested ++ l) b.remaining
          ∙ sym (append_assoc a.tested b.tested (extract_remaining u));
      kept =
          b.kept ∙ ap (λ l. l ++ b.passed) a.kept
          ∙ append_assoc (extract_kept s) a.passed b.passed;
      others = keeps-then s t u a.others b.others;
    }

    next-some : (f g : F) (s t : ExtractBy T A K) (x : Key K × T) → ExtractsNext step f s (Some x) g t
        → Extracted step f s (x ∷ []) g t
    next-some f g s t x n =
        let before = n.first.before in let was = n.first.cases.0 in let k = x.0.parts in
        let one : Extracts step n.first.state ((k, was) ∷ []) ((k, x.1) ∷ []) [] g =
        (true, x.1, g, n.first.cases.2, [], [], refl, refl, (refl, refl, refl)) in
        record {
          tested = before ++ (k, was) ∷ [];
          passed = n.passed ++ [];
          called =
              extracts-append f n.first.state g before ((k, was) ∷ []) [] ((k, x.1) ∷ []) n.passed []
              n.first.passed one;
          remaining =
              n.first.cases.1
              ∙ sym (append_assoc before ((k, was) ∷ []) (extract_remaining t));
          kept = n.kept ∙ ap (λ l. extract_kept s ++ l) (sym (append-nil n.passed));
          others = n.others;
        }

    next-none : (f g : F) (s t : ExtractBy T A K) → ExtractsNext step f s None g t
        → Extracted step f s [] g t
    next-none f g s t n = record {
      tested = n.first.before;
      passed = n.passed;
      called =
          subst (λ h. Extracts step f n.first.before [] n.passed h) (sym n.first.cases.2)
          n.first.passed;
      remaining =
          n.first.cases.0 ∙ sym (append-nil n.first.before)
          ∙ ap (λ l. n.first.before ++ l) (sym n.first.cases.1);
      kept = n.kept;
      others = n.others;
    }

    -- what calls of `next` leave
    pub extracted-along : (s : ExtractIf T F A K) (xs : List (Key K × T)) (later : ExtractIf T F A K)
        → Yields (extracts_next step) s xs later
        → Extracted step s.f s.by xs later.f later.by
    extracted-along s [] later y =
        subst (λ (t : ExtractIf T F A K). Extracted step s.f s.by [] t.f t.by) y
        (extracted-none s.f s.by)
    extracted-along s (x ∷ xs) later y =
        let one = next-some s.f y.0.f s.by y.0.by x y.1 in
        extracted-then s.f y.0.f later.f s.by y.0.by later.by (x ∷ []) xs one
        (extracted-along y.0 xs later y.2)

    -- and what they leave up to `None`
    pub retained-along : (s : ExtractIf T F A K) (xs : List (Key K × T)) (later : ExtractIf T F A K)
        → extract_kept s.by ≡ [] → YieldsThen (extracts_next step) s xs None later
        → Keeps (negated step) s.f (extract_remaining s.by) (entries (extract_map later.by)) later.f
    retained-along s xs later none y =
        let t = y.0 in let last = y.2 in let front = extracted-along s xs t y.1 in
        let e = extracted-then s.f t.f later.f s.by t.by later.by xs [] front
        (next-none t.f later.f t.by later.by last) in
        let rest : extract_remaining later.by ≡ [] = last.first.cases.1 in
        let tested : extract_remaining s.by ≡ e.tested =
        e.remaining ∙ ap (λ l. e.tested ++ l) rest ∙ append-nil e.tested in
        let all : entries (extract_map later.by) ≡ e.passed =
        e.others.all ∙ ap (λ l. extract_kept later.by ++ l) rest ∙ append-nil (extract_kept later.by)
        ∙ e.kept ∙ ap (λ l. l ++ e.passed) none in
        rw (tested, all) (extracts-keeps s.f later.f e.tested (map data_pair (xs ++ [])) e.passed e.called)

pub ruleset begins = (length-entries, pairs-whole)

pub ruleset extracts = (extracted-along, retained-along)
