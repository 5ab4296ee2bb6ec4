-- Items that are taken from either end.
use Rattle.std.proofs.Common.{◌≡◌, ◌+◌, ◌-◌, ◌*◌, ◌≤◌, ◌<◌, ◌++◌, ℕ, List, [], ◌∷◌, Option, Some, None, inl, inr, refl, arith, length, length-append, sum_by, take, get_or, set, All, flat_map, ap, append_assoc, append-nil, sym, subst, ◌∙◌}
use Rattle.std.proofs.lemmas.Bool.{cases_lt}
use Rattle.std.proofs.lemmas.List.Concat.{flat_map-append}
use Rattle.std.proofs.lemmas.List.Elements.{All-cons, All-head, All-nil, All-tail}
use Rattle.std.proofs.lemmas.List.Sums.{sum_by-cons}
use Rattle.allocator_api2.specs.Places.{IsRun, run}
use Rattle.aa_raw.proofs.BothEnds.{run-take_front, IsRun-take_front, run-take_after, IsRun-take_after}
use Rattle.aa_raw.proofs.Runs.{length-run, run-none, run-set-above, run-set-below, IsRun-nil, IsRun-set-above, IsRun-set-below}
use Rattle.aa_ordered.specs.Arena.{heads_of, list_of, IsArena, IsHeld}
use Rattle.aa_ordered.specs.Taking.{rest_of, AreApart, AreParts, EndsWith, IsOutside, StartsWith}
use Rattle.aa_ordered.specs.declared.leaves.Head.{Head}
use Rattle.aa_ordered.specs.declared.leaves.taking.Part.{Part}
use Rattle.aa_ordered.proofs.Arena.{once-taken, has, has-own, heads_of-append, heads_of-cons}

abbrev pub part : (at len : ℕ) → Part
part at len = record { at = at; len = len }

-- parts of lists of heads
pub All-first : {X : Type 0} (P : X → Type 0) (xs ys : List X) → All P (xs ++ ys) → All P xs
All-first P [] ys all = All-nil P
All-first P (x ∷ xs) ys all = All-cons P x xs (All-head P x (xs ++ ys) all) (All-first P xs ys (All-tail P x (xs ++ ys) all))

pub All-last : {X : Type 0} (P : X → Type 0) (xs ys : List X) → All P (xs ++ ys) → All P ys
All-last P [] ys all = all
All-last P (x ∷ xs) ys all = All-last P xs ys (All-tail P x (xs ++ ys) all)

-- the leaf of a head is outside of those of others
outside-others : (h : Head) (os : List Head) → heads_of h.leaf os ≡ 0 → h.len ≤ 64 → All (IsOutside (part (h.leaf * 64) h.len)) os
outside-others h [] none small = All-nil (IsOutside (part (h.leaf * 64) h.len))
outside-others h (o ∷ os) none small =
    let count = heads_of-cons h.leaf o os in
    let first : IsOutside (part (h.leaf * 64) h.len) o = elim (cases_lt h.leaf o.leaf) [
      | inl b ↦ inl (omega (arith, small, b))
      | inr b ↦ elim (cases_lt o.leaf h.leaf) [
        | inl d ↦ inr (omega (arith, d))
        | inr d ↦
            let same : o.leaf ≡ h.leaf = omega (arith, b, d) in
            let own : has h.leaf o ≡ 1 = subst (λ l. has l o ≡ 1) same (has-own o) in absurd (omega (arith, none, count, own))
      ]
    ] in All-cons (IsOutside (part (h.leaf * 64) h.len)) o os first (outside-others h os (omega (arith, none, count)) small)

module _ {T : Type 0} (cs : List (Option T)) where
  -- empty lists have no items
  pub flat-empty : (es : List Head) → All (λ g. g.len ≡ 0) es → flat_map (list_of cs) es ≡ []
  flat-empty [] none = refl
  flat-empty (e ∷ es) none =
      (λ j. run-none cs (e.leaf * 64) e.len (All-head (λ g. g.len ≡ 0) e es none) j ++ flat-empty es (All-tail (λ g. g.len ≡ 0) e es none) j)

  module _ (p q : Part) (hs : List Head) (is : AreParts cs p hs q) where
    turned-apart : AreApart p q → AreApart q p
    turned-apart (inl b) = inr b
    turned-apart (inr b) = inl b

    -- the same parts from the other end
    pub turned : AreParts cs q hs p
    turned = record { first = is.last; lists = is.lists; last = is.first; once = is.once; before = is.after; after = is.before; apart = turned-apart is.apart }

    -- a list between others becomes a part
    module _ (xs ys : List Head) (h : Head) (all : hs ≡ xs ++ h ∷ ys) where
      own-once : (leaf : ℕ) → heads_of leaf xs + (has leaf h + heads_of leaf ys) ≤ 1
      own-once leaf = omega (arith, is.once leaf, ap (heads_of leaf) all, heads_of-append leaf xs (h ∷ ys), heads_of-cons leaf h ys)

      pub own-held : IsHeld cs h
      own-held = All-head (IsHeld cs) h ys (All-last (IsHeld cs) xs (h ∷ ys) (subst (All (IsHeld cs)) all is.lists))

      own-part : AreApart (part (h.leaf * 64) h.len) q
      own-part = elim (All-head (IsOutside q) h ys (All-last (IsOutside q) xs (h ∷ ys) (subst (All (IsOutside q)) all is.after))) [
        | inl b ↦ inr b
        | inr b ↦ inl (omega (arith, b, own-held.0))
      ]

      first-ones : (P : Head → Type 0) → All P hs → All P xs
      first-ones P every = All-first P xs (h ∷ ys) (subst (All P) all every)

      last-ones : (P : Head → Type 0) → All P hs → All P ys
      last-ones P every = All-tail P h ys (All-last P xs (h ∷ ys) (subst (All P) all every))

      pub opened-after : AreParts cs (part (h.leaf * 64) h.len) ys q
      opened-after = record {
        first = own-held.1;
        lists = last-ones (IsHeld cs) is.lists;
        last = is.last;
        once = λ leaf. omega (arith, own-once leaf);
        before = outside-others h ys (omega (arith, own-once h.leaf, has-own h)) own-held.0;
        after = last-ones (IsOutside q) is.after;
        apart = own-part;
      }

      pub opened-before : AreParts cs (part (h.leaf * 64) h.len) xs q
      opened-before = record {
        first = own-held.1;
        lists = first-ones (IsHeld cs) is.lists;
        last = is.last;
        once = λ leaf. omega (arith, own-once leaf);
        before = outside-others h xs (omega (arith, own-once h.leaf, has-own h)) own-held.0;
        after = first-ones (IsOutside q) is.after;
        apart = own-part;
      }

    -- the other part takes the place of an empty one
    pub opened-other : AreParts cs q [] (part 0 0)
    opened-other = record {
      first = is.last;
      lists = All-nil (IsHeld cs);
      last = IsRun-nil cs 0 (omega arith);
      once = λ leaf. omega arith;
      before = All-nil (IsOutside q);
      after = All-nil (IsOutside (part 0 0));
      apart = inr (omega arith);
    }

  -- the remaining items after an empty part was replaced
  module _ (p q : Part) (hs : List Head) (empty : p.len ≡ 0) where
    pub rest-after : (h : Head) (ys : List Head) → StartsWith hs h ys → rest_of cs p hs q ≡ rest_of cs (part (h.leaf * 64) h.len) ys q
    rest-after h ys s =
        (λ j. run-none cs p.at p.len empty j ++ ((ap (flat_map (list_of cs)) s.all ∙ flat_map-append (list_of cs) s.empty (h ∷ ys)) j ++ run cs q.at q.len))
        ∙ ap (λ zs. (zs ++ flat_map (list_of cs) (h ∷ ys)) ++ run cs q.at q.len) (flat-empty s.empty s.none)
        ∙ append_assoc (list_of cs h) (flat_map (list_of cs) ys) (run cs q.at q.len)

    pub rest-before : (h : Head) (xs : List Head) → EndsWith hs h xs → rest_of cs q hs p ≡ rest_of cs q xs (part (h.leaf * 64) h.len)
    rest-before h xs s =
        (λ j. run cs q.at q.len ++ ((ap (flat_map (list_of cs)) s.all ∙ flat_map-append (list_of cs) xs (h ∷ s.empty)) j ++ run-none cs p.at p.len empty j))
        ∙ ap (λ zs. run cs q.at q.len ++ ((flat_map (list_of cs) xs ++ (list_of cs h ++ zs)) ++ [])) (flat-empty s.empty s.none)
        ∙ (λ j. run cs q.at q.len ++ (append-nil (flat_map (list_of cs) xs ++ append-nil (list_of cs h) j) j))

    pub rest-other : All (λ g. g.len ≡ 0) hs → rest_of cs p hs q ≡ rest_of cs q [] (part 0 0)
    rest-other none =
        (λ j. run-none cs p.at p.len empty j ++ (flat-empty hs none j ++ run cs q.at q.len)) ∙ sym (ap (λ zs. run cs q.at q.len ++ ([] ++ zs)) (run-none cs 0 0 refl) ∙ append-nil (run cs q.at q.len))

    pub rest-other_back : All (λ g. g.len ≡ 0) hs → rest_of cs q hs p ≡ rest_of cs (part 0 0) [] q
    rest-other_back none =
        (λ j. run cs q.at q.len ++ (flat-empty hs none j ++ run-none cs p.at p.len empty j)) ∙ append-nil (run cs q.at q.len) ∙ sym (ap (λ zs. zs ++ ([] ++ run cs q.at q.len)) (run-none cs 0 0 refl))

    -- if the part, the lists and the other part are empty, no items remain
    pub rest-none : q.len ≡ 0 → rest_of cs p [] q ≡ []
    rest-none other = (λ j. run-none cs p.at p.len empty j ++ ([] ++ run-none cs q.at q.len other j))

-- an item of a part is taken
module _ {T : Type 0} (cs : List (Option T)) (p q : Part) (hs : List Head) (is : AreParts cs p hs q) (at n : ℕ) (low : p.at ≤ at) (high : at < p.at + p.len) (from : ℕ) (within : (p.at ≤ from) × (from + n ≤ p.at + p.len)) where
  abbrev taken : List (Option T)
  taken = set cs at None

  filled : at < length cs
  filled = omega (arith, is.first.0, high)

  list-kept : (h : Head) → IsOutside p h → IsHeld cs h → list_of taken h ≡ list_of cs h
  list-kept h (inl b) held = run-set-below cs (h.leaf * 64) h.len at None (omega (arith, b, high))
  list-kept h (inr b) held = run-set-above cs (h.leaf * 64) h.len at None filled (omega (arith, b, low, held.0))

  held-kept : (h : Head) → IsOutside p h → IsHeld cs h → IsHeld taken h
  held-kept h (inl b) held = (held.0, IsRun-set-below cs (h.leaf * 64) h.len at None (omega (arith, b, high)) held.1)
  held-kept h (inr b) held = (held.0, IsRun-set-above cs (h.leaf * 64) h.len at None filled (omega (arith, b, low, held.0)) held.1)

  lists-kept : (os : List Head) → All (IsOutside p) os → All (IsHeld cs) os → flat_map (list_of taken) os ≡ flat_map (list_of cs) os
  lists-kept [] out held = refl
  lists-kept (o ∷ os) out held =
      (λ j. list-kept o (All-head (IsOutside p) o os out) (All-head (IsHeld cs) o os held) j ++ lists-kept os (All-tail (IsOutside p) o os out) (All-tail (IsHeld cs) o os held) j)

  all-kept : (os : List Head) → All (IsOutside p) os → All (IsHeld cs) os → All (IsHeld taken) os
  all-kept [] out held = All-nil (IsHeld taken)
  all-kept (o ∷ os) out held =
      All-cons (IsHeld taken) o os (held-kept o (All-head (IsOutside p) o os out) (All-head (IsHeld cs) o os held)) (all-kept os (All-tail (IsOutside p) o os out) (All-tail (IsHeld cs) o os held))

  still-outside : (os : List Head) → All (IsOutside p) os → All (IsOutside (part from n)) os
  still-outside [] out = All-nil (IsOutside (part from n))
  still-outside (o ∷ os) out =
      let first : IsOutside (part from n) o = elim (All-head (IsOutside p) o os out) [
        | inl b ↦ inl (omega (arith, b, within.1))
        | inr b ↦ inr (omega (arith, b, within.0))
      ] in All-cons (IsOutside (part from n)) o os first (still-outside os (All-tail (IsOutside p) o os out))

  other-kept : AreApart p q → run taken q.at q.len ≡ run cs q.at q.len
  other-kept (inl b) = run-set-below cs q.at q.len at None (omega (arith, b, high))
  other-kept (inr b) = run-set-above cs q.at q.len at None filled (omega (arith, b, low))

  other-run : AreApart p q → IsRun taken q.at q.len
  other-run (inl b) = IsRun-set-below cs q.at q.len at None (omega (arith, b, high)) is.last
  other-run (inr b) = IsRun-set-above cs q.at q.len at None filled (omega (arith, b, low)) is.last

  still-apart : AreApart p q → AreApart (part from n) q
  still-apart (inl b) = inl (omega (arith, b, within.1))
  still-apart (inr b) = inr (omega (arith, b, within.0))

  pub taken-parts : IsRun taken from n → AreParts taken (part from n) hs q
  taken-parts first = record {
    first = first;
    lists = all-kept hs is.before is.lists;
    last = other-run is.apart;
    once = is.once;
    before = still-outside hs is.before;
    after = is.after;
    apart = still-apart is.apart;
  }

  pub others-kept : flat_map (list_of taken) hs ++ run taken q.at q.len ≡ flat_map (list_of cs) hs ++ run cs q.at q.len
  others-kept = (λ j. lists-kept hs is.before is.lists j ++ other-kept is.apart j)

  pub others-kept_back : run taken q.at q.len ++ flat_map (list_of taken) hs ≡ run cs q.at q.len ++ flat_map (list_of cs) hs
  others-kept_back = (λ j. other-kept is.apart j ++ lists-kept hs is.before is.lists j)

module _ {T : Type 0} (cs : List (Option T)) (p q : Part) (hs : List Head) (is : AreParts cs p hs q) (some : 0 < p.len) (x : T) where
  -- the first item of the first part
  abbrev without_first : List (Option T)
  without_first = set cs p.at None

  pub first-parts : AreParts without_first (part (p.at + 1) (p.len - 1)) hs q
  first-parts = taken-parts cs p q hs is p.at (p.len - 1) (omega arith) (omega (arith, some)) (p.at + 1) (omega arith, omega (arith, some)) (IsRun-take_front cs p.at p.len some is.first)

  pub first-rest : get_or cs p.at None ≡ Some x → rest_of cs p hs q ≡ x ∷ rest_of without_first (part (p.at + 1) (p.len - 1)) hs q
  first-rest e =
      let others = others-kept cs p q hs is p.at (p.len - 1) (omega arith) (omega (arith, some)) (p.at + 1) (omega arith, omega (arith, some)) in
      (λ j. sym (run-take_front cs p.at p.len x some is.first e) j ++ sym others j)

  -- the last item of the first part, seen from the other end
  abbrev without_last : List (Option T)
  without_last = set cs (p.at + p.len - 1) None

  pub last-parts : AreParts without_last (part p.at (p.len - 1)) hs q
  last-parts = taken-parts cs p q hs is (p.at + p.len - 1) (p.len - 1) (omega (arith, some)) (omega (arith, some)) p.at (omega arith, omega (arith, some)) (IsRun-take_after cs p.at p.len some is.first)

  pub last-rest : get_or cs (p.at + p.len - 1) None ≡ Some x → rest_of cs q hs p ≡ rest_of without_last q hs (part p.at (p.len - 1)) ++ x ∷ []
  last-rest e =
      let others = others-kept_back cs p q hs is (p.at + p.len - 1) (p.len - 1) (omega (arith, some)) (omega (arith, some)) p.at (omega arith, omega (arith, some)) in
      let ds = without_last in let ys = run ds p.at (p.len - 1) in
      sym (append_assoc (run cs q.at q.len) (flat_map (list_of cs) hs) (run cs p.at p.len))
      ∙ (λ j. sym others j ++ sym (run-take_after cs p.at p.len x some is.first e) j)
      ∙ sym (append_assoc (run ds q.at q.len ++ flat_map (list_of ds) hs) ys (x ∷ []))
      ∙ ap (λ zs. zs ++ x ∷ []) (append_assoc (run ds q.at q.len) (flat_map (list_of ds) hs) ys)

-- all lists of an arena
outside-none : (os : List Head) → All (IsOutside (part 0 0)) os
outside-none [] = All-nil (IsOutside (part 0 0))
outside-none (o ∷ os) = All-cons (IsOutside (part 0 0)) o os (inl (omega arith)) (outside-none os)

module _ {T : Type 0} (cs : List (Option T)) where
  pub all-parts : (hs : List Head) (used : ℕ) → IsArena cs hs used → AreParts cs (part 0 0) (take used hs) (part 0 0)
  all-parts hs used is = record {
    first = IsRun-nil cs 0 (omega arith);
    lists = is.held;
    last = IsRun-nil cs 0 (omega arith);
    once = once-taken cs hs used is;
    before = outside-none (take used hs);
    after = outside-none (take used hs);
    apart = inl (omega arith);
  }

  pub all-rest : (os : List Head) → rest_of cs (part 0 0) os (part 0 0) ≡ flat_map (list_of cs) os
  all-rest os = (λ j. run-none cs 0 0 refl j ++ (flat_map (list_of cs) os ++ run-none cs 0 0 refl j)) ∙ append-nil (flat_map (list_of cs) os)

  pub all-count : (os : List Head) → All (IsHeld cs) os → sum_by (λ h. h.len) os ≡ length (flat_map (list_of cs) os)
  all-count [] held = refl
  all-count (o ∷ os) held =
      let long = length-run cs (o.leaf * 64) o.len (All-head (IsHeld cs) o os held).1 in
      sum_by-cons (λ (h : Head). h.len) o os ∙ omega (arith, long, all-count os (All-tail (IsHeld cs) o os held), length-append (list_of cs o) (flat_map (list_of cs) os))

pub ruleset at_front = (first-parts, first-rest)

pub ruleset at_back = (last-parts, last-rest, turned)
