-- Arenas of leaves whose lists change: the other lists remain as they are.
use Rattle.std.proofs.Common.{◌≡◌, ◌≢◌, ◌+◌, ◌*◌, ◌≤◌, ◌<◌, ◌++◌, ℕ, List, [], ◌∷◌, Option, Some, inl, inr, refl, arith, length, map, take, drop, get_or, set, cond, nat_eq, slice_get, All, ap, sym, subst, ◌∙◌, length-take-le}
use Rattle.std.proofs.lemmas.Bool.{cases_lt}
use Rattle.std.proofs.lemmas.Bool.Decides.{nat_tests}
use Rattle.std.proofs.lemmas.List.{drop-map, get_or-map, get_or-take, length-map, map-append, places, same_lists, take-map}
use Rattle.std.proofs.lemmas.Option.{slice_get_read}
use Rattle.std.proofs.lemmas.List.Elements.{All-append, All-cons, All-drop, All-get_or, All-head, All-map, All-nil, All-tail, All-take, All-weaker}
use Rattle.std.proofs.lemmas.List.Sums.{get_or-le-sum_by, sum_by-append, sum_by-cons, sum_by-set, sum_by-take-le}
use Rattle.allocator_api2.specs.Places.{IsRun, run}
use Rattle.aa_raw.proofs.Runs.{IsRun-same, length-run}
use Rattle.aa_ordered.specs.Arena.{heads_of, list_of, IsArena, IsHeld}
use Rattle.aa_ordered.specs.Leaves.{LeavesView, replaced}
use Rattle.aa_ordered.specs.declared.leaves.Head.{Head}

-- 1 if the head has the leaf, and else 0
abbrev pub has : (leaf : ℕ) → Head → ℕ
has leaf h = cond (nat_eq h.leaf leaf) 1 0

pub has-own : (h : Head) → has h.leaf h ≡ 1
has-own h = grind (arith, nat_tests)

pub has-le : (leaf : ℕ) (h : Head) → has leaf h ≤ 1
has-le leaf h = grind (arith, nat_tests)

pub has-other : (leaf : ℕ) (h : Head) → h.leaf ≢ leaf → has leaf h ≡ 0
has-other leaf h ne = grind (arith, nat_tests)

pub heads_of-cons : (leaf : ℕ) (h : Head) (hs : List Head) → heads_of leaf (h ∷ hs) ≡ has leaf h + heads_of leaf hs
heads_of-cons leaf h hs = sum_by-cons (has leaf) h hs

pub heads_of-append : (leaf : ℕ) (gs hs : List Head) → heads_of leaf (gs ++ hs) ≡ heads_of leaf gs + heads_of leaf hs
heads_of-append leaf gs hs = sum_by-append (has leaf) gs hs

-- a head is one of those with its leaf
pub heads_of-there : (hs : List Head) (i : ℕ) (d : Head) → i < length hs → 1 ≤ heads_of (get_or hs i d).leaf hs
heads_of-there hs i d lt = let h = get_or hs i d in omega (arith, has-own h, get_or-le-sum_by (has h.leaf) hs i d lt)

-- other heads with the same leaves
pub heads_of-set : (leaf : ℕ) (hs : List Head) (i : ℕ) (h d : Head) → i < length hs → h.leaf ≡ (get_or hs i d).leaf → heads_of leaf (set hs i h) ≡ heads_of leaf hs
heads_of-set leaf hs i h d lt e =
    let same : has leaf h ≡ has leaf (get_or hs i d) = ap (λ n. cond (nat_eq n leaf) 1 0) e in
    omega (arith, sum_by-set (has leaf) hs i h d lt, same)

module _ {T : Type 0} where
  -- the lists and heads of `cs` from index `i` on are replaced by `gs`, as many as `n`, in `ds`
  pub record IsEdit (cs ds : List (Option T)) (hs new : List Head) (used count i n : ℕ) (gs : List Head) : Type 0 where
    pub within : i + n ≤ used
    pub heads : take count new ≡ take i hs ++ (gs ++ drop (i + n) (take used hs))
    pub same : (leaf : ℕ) → heads_of leaf new ≡ heads_of leaf hs
    pub long : length new ≡ length hs
    pub lists : count ≤ length new
    pub held : All (IsHeld ds) gs
    pub room : length ds ≡ length cs
    pub keeps : (leaf k : ℕ) → heads_of leaf gs ≡ 0 → k ≤ 64 → run ds (leaf * 64) k ≡ run cs (leaf * 64) k

  module _ {cs ds : List (Option T)} {hs new : List Head} {used count i n : ℕ} {gs : List Head} (is : IsArena cs hs used) (e : IsEdit cs ds hs new used count i n gs) where
    -- heads whose leaves are not those of `gs`
    abbrev AreOthers : List Head → Type 0
    AreOthers os = (leaf : ℕ) → heads_of leaf os + heads_of leaf gs ≤ 1

    first-free : (h : Head) (os : List Head) → AreOthers (h ∷ os) → heads_of h.leaf gs ≡ 0
    first-free h os a = omega (arith, a h.leaf, heads_of-cons h.leaf h os, has-own h)

    rest-others : (h : Head) (os : List Head) → AreOthers (h ∷ os) → AreOthers os
    rest-others h os a = λ leaf. omega (arith, a leaf, heads_of-cons leaf h os)

    lists-kept : (os : List Head) → AreOthers os → All (IsHeld cs) os → map (list_of ds) os ≡ map (list_of cs) os
    lists-kept [] a held = refl
    lists-kept (h ∷ os) a held =
        let same = e.keeps h.leaf h.len (first-free h os a) (All-head (IsHeld cs) h os held).0 in
        (λ j. same j ∷ lists-kept os (rest-others h os a) (All-tail (IsHeld cs) h os held) j)

    held-kept : (os : List Head) → AreOthers os → All (IsHeld cs) os → All (IsHeld ds) os
    held-kept [] a held = All-nil (IsHeld ds)
    held-kept (h ∷ os) a held =
        let first = All-head (IsHeld cs) h os held in
        All-cons (IsHeld ds) h os (first.0, IsRun-same cs ds (h.leaf * 64) h.len e.room (e.keeps h.leaf h.len (first-free h os a) first.0) first.1)
        (held-kept os (rest-others h os a) (All-tail (IsHeld cs) h os held))

    abbrev before : List Head
    before = take i hs

    abbrev after : List Head
    after = drop (i + n) (take used hs)

    apart : (leaf : ℕ) → heads_of leaf before + (heads_of leaf gs + heads_of leaf after) ≤ 1
    apart leaf =
        let all = sum_by-take-le (has leaf) new count in
        let parts = ap (heads_of leaf) e.heads ∙ heads_of-append leaf before (gs ++ after) in
        omega (arith, all, parts, heads_of-append leaf gs after, e.same leaf, is.once leaf)

    before-taken : before ≡ take i (take used hs)
    before-taken = let w = e.within in same_lists _ _ (grind (arith, places)) (λ j d h. grind (arith, places))

    before-held : All (IsHeld cs) before
    before-held = subst (All (IsHeld cs)) (sym before-taken) (All-take (IsHeld cs) i (take used hs) is.held)

    after-held : All (IsHeld cs) after
    after-held = All-drop (IsHeld cs) (i + n) (take used hs) is.held

    before-others : AreOthers before
    before-others leaf = omega (arith, apart leaf)

    after-others : AreOthers after
    after-others leaf = omega (arith, apart leaf)

    pub edited : IsArena ds new count
    edited = record {
      lists = e.lists;
      places = omega (arith, is.places, e.long, e.room);
      leaves = λ leaf h. e.same leaf ∙ is.leaves leaf (omega (arith, h, e.long));
      once = λ leaf. omega (arith, e.same leaf, is.once leaf);
      held = subst (All (IsHeld ds)) (sym e.heads) (All-append (IsHeld ds) before (gs ++ after) (held-kept before before-others before-held)
          (All-append (IsHeld ds) gs after e.held (held-kept after after-others after-held)));
    }

    pub edited_lists : map (list_of ds) (take count new) ≡ replaced (map (list_of cs) (take used hs)) i n (map (list_of ds) gs)
    edited_lists =
        ap (map (list_of ds)) e.heads ∙ map-append (list_of ds) before (gs ++ after) ∙ ap (λ ls. map (list_of ds) before ++ ls) (map-append (list_of ds) gs after)
        ∙ (λ j. lists-kept before before-others before-held j ++ (map (list_of ds) gs ++ lists-kept after after-others after-held j))
        ∙ (λ j. (ap (map (list_of cs)) before-taken ∙ sym (take-map (list_of cs) i (take used hs))) j ++ (map (list_of ds) gs ++ sym (drop-map (list_of cs) (i + n) (take used hs)) j))

-- the facts on a head of an arena that its calls need
module _ {T : Type 0} (cs : List (Option T)) (hs : List Head) (used : ℕ) (is : IsArena cs hs used) where
  pub count-lists : length (map (list_of cs) (take used hs)) ≡ used
  count-lists = length-map (take used hs) (list_of cs) ∙ length-take-le used hs is.lists

  module _ (i : ℕ) (h : Head) (read : h ≡ get_or hs i h) where
    pub leaf-within : i < length hs → h.leaf < length hs
    leaf-within lt = elim (cases_lt h.leaf (length hs)) [
      | inl l ↦ l
      | inr g ↦ absurd (omega (arith, subst (λ (f : Head). 1 ≤ heads_of f.leaf hs) (sym read) (heads_of-there hs i h lt), is.leaves h.leaf g))
    ]

    pub leaf-places : i < length hs → (h.leaf + 1) * 64 ≤ length cs
    leaf-places lt = omega (arith, leaf-within lt, is.places)

    pub head-held : i < used → IsHeld cs h
    head-held lt =
        let long = length-take-le used hs is.lists in
        subst (IsHeld cs) (get_or-take used hs i h lt ∙ sym read) (All-get_or (IsHeld cs) (take used hs) i h (omega (arith, long)) is.held)

    pub list-there : (d : List T) → i < used → get_or (map (list_of cs) (take used hs)) i d ≡ list_of cs h
    list-there d lt =
        let long = length-take-le used hs is.lists in let there : i < length (take used hs) = omega (arith, long) in
        get_or-map (list_of cs) (take used hs) i h d there ∙ ap (list_of cs) (get_or-take used hs i h lt ∙ sym read)

    -- the same, of the view of the arena
    module _ {times : ℕ} (v : LeavesView T) (seen : record { lists = map (list_of cs) (take used hs); room = length hs; resizes = times } ≡ v) where
      pub seen-count : length v.lists ≡ used
      seen-count = ap (λ (w : LeavesView T). length w.lists) (sym seen) ∙ count-lists

      pub seen-list : (d : List T) → i < length v.lists → get_or v.lists i d ≡ list_of cs h
      seen-list d lt = ap (λ (w : LeavesView T). get_or w.lists i d) (sym seen) ∙ list-there d (omega (arith, lt, seen-count))

      pub seen-get : (xs : List T) → i < length v.lists → list_of cs h ≡ xs → slice_get v.lists i ≡ Some xs
      seen-get xs lt e = slice_get_read v.lists (length v.lists) i xs refl lt (sym (seen-list xs lt ∙ e))

  -- the head `h` of the list at index `i` of the view `v`
  pub record IsFound (v : LeavesView T) (i : ℕ) (h : Head) : Type 0 where
    pub lt : i < used
    pub leaf : h.leaf < length hs
    pub places : (h.leaf + 1) * 64 ≤ length cs
    pub small : h.len ≤ 64
    pub filled : IsRun cs (h.leaf * 64) h.len
    pub list : get_or v.lists i [] ≡ list_of cs h
    pub long : length (get_or v.lists i []) ≡ h.len

  pub found : {times : ℕ} → (i : ℕ) (h : Head) → h ≡ get_or hs i h → (v : LeavesView T) → record { lists = map (list_of cs) (take used hs); room = length hs; resizes = times } ≡ v → i < length v.lists → IsFound v i h
  found i h read v seen lt =
      let used-lt : i < used = omega (arith, lt, seen-count i h read v seen) in
      let held = head-held i h read used-lt in
      let list = seen-list i h read v seen [] lt in record {
        lt = used-lt;
        leaf = leaf-within i h read (omega (arith, is.lists));
        places = leaf-places i h read (omega (arith, is.lists));
        small = held.0;
        filled = held.1;
        list = list;
        long = ap length list ∙ length-run cs (h.leaf * 64) h.len held.1;
      }

  pub lists-small : All (λ l. length l ≤ 64) (map (list_of cs) (take used hs))
  lists-small = All-map (λ l. length l ≤ 64) (list_of cs) (take used hs)
      (All-weaker (IsHeld cs) (λ h. length (list_of cs h) ≤ 64) (λ h p. omega (arith, p.0, length-run cs (h.leaf * 64) h.len p.1)) (take used hs) is.held)

  pub once-taken : (leaf : ℕ) → heads_of leaf (take used hs) ≤ 1
  once-taken leaf = omega (arith, is.once leaf, sum_by-take-le (has leaf) hs used)

pub ruleset in_arena = (count-lists, leaf-within, leaf-places, head-held, list-there, length-run)
