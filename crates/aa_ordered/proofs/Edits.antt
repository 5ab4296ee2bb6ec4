-- The edits of an arena that its calls make, and the views after them.
use Rattle.std.proofs.Common.{◌≡◌, ◌≢◌, ◌+◌, ◌-◌, ◌*◌, ◌≤◌, ◌<◌, ◌++◌, ℕ, suc, zero, List, [], ◌∷◌, Option, Some, inl, inr, refl, arith, length, map, take, drop, get_or, set, slice_get, insert, remove, All, add-one, add-zero, replicate, None, ap, append_assoc, sym, subst, ◌∙◌, length-set, length-take-le, length-drop}
use Rattle.std.proofs.lemmas.Bool.{cases_lt}
use Rattle.std.proofs.lemmas.List.{drop-set-lt, drop_all, drop_more, get_or-append-add, get_or-drop, get_or-map, get_or-set_other, get_or-set_same, get_or-take, get_or_default, length-map, length-replicate, places, same_lists, set-get_or, set_split, take-set, take_all, take_at, take_more_set}
use Rattle.std.proofs.Math.Seq.{drop-append-add, take-append-add}
use Rattle.std.proofs.lemmas.Option.{get_or_from_slice_get}
use Rattle.std.proofs.lemmas.List.Edits.{length-insert, length-remove}
use Rattle.std.proofs.lemmas.List.Elements.{All-cons, All-from_get_or, All-get_or, All-head, All-nil, All-tail}
use Rattle.std.proofs.lemmas.List.Sums.{get_or-le-sum_by, sum_by-drop_more, sum_by-take-drop, sum_by-insert, sum_by_more, sum_by-remove, sum_by-take-le}
use Rattle.allocator_api2.specs.Places.{IsRun, run, with_run}
use Rattle.aa_raw.proofs.Places.{length-with_run}
use Rattle.aa_raw.proofs.Calls.{run-transferred_there, IsRun-transferred_there}
use Rattle.aa_raw.proofs.Runs.{cut-long, length-run, IsRun-same, run-with-above, run-with-below, run-drop, run-split, run-take, run-set-above, run-set-below, run-set-same, IsRun-long}
use Rattle.aa_ordered.specs.Arena.{heads_of, list_of, AreNumbered, IsMoved, IsArena, IsHeld, Keeps}
use Rattle.aa_ordered.specs.Leaves.{LeavesView, replaced, with_list, with_lists}
use Rattle.aa_ordered.specs.declared.leaves.Head.{Head}
use Rattle.aa_ordered.proofs.Moves.{leaves-apart}
use Rattle.aa_ordered.proofs.Arena.{IsEdit, count-lists, edited, edited_lists, has, has-le, has-own, has-other, heads_of-cons, heads_of-set, seen-list}

-- the head of the leaf with this number and list
abbrev pub head : (leaf len : ℕ) → Head
head leaf len = record { leaf = leaf; len = len }

-- a head whose list is none of those with the leaf
pub alone : (leaf : ℕ) (h : Head) → heads_of leaf (h ∷ []) ≡ 0 → leaf ≢ h.leaf
alone leaf h none same = let e : has leaf h ≡ 1 = subst (λ l. has l h ≡ 1) (sym same) (has-own h) in absurd (omega (arith, none, heads_of-cons leaf h [], e))

pub two-alone : (leaf : ℕ) (g h : Head) → heads_of leaf (g ∷ h ∷ []) ≡ 0 → (leaf ≢ g.leaf) × (leaf ≢ h.leaf)
two-alone leaf g h none =
    let c = heads_of-cons leaf g (h ∷ []) in (
      λ same. let e : has leaf g ≡ 1 = subst (λ l. has l g ≡ 1) (sym same) (has-own g) in absurd (omega (arith, none, c, e)),
      alone leaf h (omega (arith, none, c)),
    )

-- the heads of the lists after an edit
set-one' : (hs : List Head) (used i : ℕ) (h : Head) → i < used → used ≤ length hs → take used (set hs i h) ≡ take i hs ++ (h ∷ drop (suc i) (take used hs))
set-one' [] used i h lt le = absurd (omega arith)
set-one' (x ∷ hs) zero i h lt le = absurd (omega arith)
set-one' (x ∷ hs) (suc used) zero h lt le = refl
set-one' (x ∷ hs) (suc used) (suc i) h lt le = ap (λ ys. x ∷ ys) (set-one' hs used i h (omega arith) (omega arith))

set-one : (hs : List Head) (used i : ℕ) (h : Head) → i < used → used ≤ length hs → take used (set hs i h) ≡ take i hs ++ (h ∷ [] ++ drop (i + 1) (take used hs))
set-one hs used i h lt le = set-one' hs used i h lt le ∙ ap (λ n. take i hs ++ (h ∷ drop n (take used hs))) (sym (add-one i))

set-two' : (hs : List Head) (used i : ℕ) (g h : Head) → suc i < used → used ≤ length hs → take used (set (set hs i g) (suc i) h) ≡ take i hs ++ (g ∷ h ∷ drop (suc (suc i)) (take used hs))
set-two' [] used i g h lt le = absurd (omega arith)
set-two' (x ∷ hs) zero i g h lt le = absurd (omega arith)
set-two' (x ∷ hs) (suc zero) i g h lt le = absurd (omega arith)
set-two' (x ∷ []) (suc (suc used)) zero g h lt le = absurd (omega arith)
set-two' (x ∷ y ∷ hs) (suc (suc used)) zero g h lt le = refl
set-two' (x ∷ hs) (suc (suc used)) (suc i) g h lt le = ap (λ ys. x ∷ ys) (set-two' hs (suc used) i g h (omega arith) (omega arith))

set-two : (hs : List Head) (used i : ℕ) (g h : Head) → i + 1 < used → used ≤ length hs → take used (set (set hs i g) (i + 1) h) ≡ take i hs ++ (g ∷ h ∷ [] ++ drop (i + 2) (take used hs))
set-two hs used i g h lt le =
    let two : suc (suc i) ≡ i + 2 = omega arith in let one : suc i ≡ i + 1 = omega arith in
    ap (λ n. take used (set (set hs i g) n h)) (sym one) ∙ set-two' hs used i g h (omega arith) le ∙ ap (λ n. take i hs ++ (g ∷ h ∷ drop n (take used hs))) two

set-next : (hs : List Head) (used : ℕ) (h : Head) → used < length hs → take (used + 1) (set hs used h) ≡ take used hs ++ (h ∷ [] ++ drop (used + 0) (take used hs))
set-next hs used h lt = take_more_set hs used h lt ∙ ap (λ ys. take used hs ++ h ∷ ys) (sym (drop_all (used + 0) (take used hs) (omega (arith, length-take-le used hs (omega arith)))))

taken-removed : (hs : List Head) (n : ℕ) → n < length hs → take n (remove hs n) ≡ take n hs
taken-removed hs n lt = take_at (take n hs) (drop (suc n) hs) n (length-take-le n hs (omega arith))

set-split' : (hs : List Head) (used i : ℕ) (g h : Head) → i < used → used < length hs → take (suc used) (insert (set (remove hs used) i g) (suc i) h) ≡ take i hs ++ (g ∷ h ∷ drop (suc i) (take used hs))
set-split' [] used i g h lt le = absurd (omega arith)
set-split' (x ∷ hs) zero i g h lt le = absurd (omega arith)
set-split' (x ∷ hs) (suc used) zero g h lt le = ap (λ ys. g ∷ h ∷ ys) (taken-removed hs used (omega arith))
set-split' (x ∷ hs) (suc used) (suc i) g h lt le = ap (λ ys. x ∷ ys) (set-split' hs used i g h (omega arith) (omega arith))

set-split : (hs : List Head) (used i : ℕ) (g h : Head) → i < used → used < length hs → take (used + 1) (insert (set (remove hs used) i g) (i + 1) h) ≡ take i hs ++ (g ∷ h ∷ [] ++ drop (i + 1) (take used hs))
set-split hs used i g h lt le =
    (λ j. take (add-one used j) (insert (set (remove hs used) i g) (add-one i j) h)) ∙ set-split' hs used i g h lt le ∙ ap (λ n. take i hs ++ (g ∷ h ∷ drop n (take used hs))) (sym (add-one i))

taken-freed : (hs : List Head) (u i : ℕ) → i ≤ u → u < length hs → take u (remove hs i) ≡ take i hs ++ drop (suc i) (take (suc u) hs)
taken-freed [] u i lt le = absurd (omega arith)
taken-freed (x ∷ hs) u zero lt le = refl
taken-freed (x ∷ hs) zero (suc i) lt le = absurd (omega arith)
taken-freed (x ∷ hs) (suc u) (suc i) lt le = ap (λ ys. x ∷ ys) (taken-freed hs u i (omega arith) (omega arith))

set-freed : (hs : List Head) (used i : ℕ) (h : Head) → i < used → used ≤ length hs → take (used - 1) (insert (remove hs i) (used - 1) h) ≡ take i hs ++ ([] ++ drop (i + 1) (take used hs))
set-freed hs used i h lt le =
    let more : suc (used - 1) ≡ used = omega arith in let xs = remove hs i in let n = used - 1 in
    take_at (take n xs) (h ∷ drop n xs) n (length-take-le n xs (omega (arith, length-remove hs i (omega arith))))
    ∙ taken-freed hs n i (omega arith) (omega arith) ∙ (λ j. take i hs ++ drop (sym (add-one i) j) (take (more j) hs))

-- the heads after a split, once the new one was moved to its index
remove-set_same : (hs : List Head) (n : ℕ) (h : Head) → remove (set hs n h) n ≡ remove hs n
remove-set_same hs n h = (λ j. take-set hs n h j ++ drop-set-lt (suc n) hs n h (omega arith) j)

remove-set_below : (hs : List Head) (n i : ℕ) (g : Head) → i < n → n < length hs → remove (set hs i g) n ≡ set (remove hs n) i g
remove-set_below [] n i g lt le = absurd (omega arith)
remove-set_below (x ∷ hs) zero i g lt le = absurd (omega arith)
remove-set_below (x ∷ hs) (suc n) zero g lt le = refl
remove-set_below (x ∷ hs) (suc n) (suc i) g lt le = ap (λ ys. x ∷ ys) (remove-set_below hs n i g (omega arith) (omega arith))

pub heads-split : (hs : List Head) (used i : ℕ) (g h d : Head) → i < used → used < length hs
    → insert (remove (set (set hs used h) i g) used) (i + 1) (get_or (set (set hs used h) i g) used d) ≡ insert (set (remove hs used) i g) (i + 1) h
heads-split hs used i g h d lt le =
    let read = get_or-set_other (set hs used h) i used g d (omega arith) ∙ get_or-set_same hs used h d le in
    let rest = remove-set_below (set hs used h) used i g lt (omega (arith, le, length-set hs used h)) ∙ ap (λ xs. set xs i g) (remove-set_same hs used h) in
    (λ j. insert (rest j) (i + 1) (read j))

replaced-one : {X : Type 0} (ls : List (List X)) (i : ℕ) (x : List X) → i < length ls → replaced ls i 1 (x ∷ []) ≡ set ls i x
replaced-one ls i x lt = sym (set_split ls i x lt ∙ ap (λ n. take i ls ++ x ∷ drop n ls) (sym (add-one i)))

module _ {T : Type 0} (cs ds : List (Option T)) (hs : List Head) (used : ℕ) (is : IsArena cs hs used) (i : ℕ) (h : Head) (read : h ≡ get_or hs i h) where
  -- the list of one head changes
  module _ (lt : i < used) (n : ℕ) (k : Keeps cs ds h.leaf h.leaf) (le : n ≤ 64) (filled : IsRun ds (h.leaf * 64) n) where
    one : IsEdit cs ds hs (set hs i (head h.leaf n)) used used i 1 (head h.leaf n ∷ [])
    one = record {
      within = omega arith;
      heads = set-one hs used i (head h.leaf n) lt is.lists;
      same = λ leaf. heads_of-set leaf hs i (head h.leaf n) h (omega (arith, is.lists)) (ap (λ (g : Head). g.leaf) read);
      long = length-set hs i (head h.leaf n);
      lists = omega (arith, is.lists, length-set hs i (head h.leaf n));
      held = All-cons (IsHeld ds) (head h.leaf n) [] (le, filled) (All-nil (IsHeld ds));
      room = k.count;
      keeps = λ leaf m none small. let ne = alone leaf (head h.leaf n) none in k.same leaf m ne ne small;
    }

    pub arena-one : IsArena ds (set hs i (head h.leaf n)) used
    arena-one = edited is one

    pub view-one : {times : ℕ} → (F : List T → List T) → run ds (h.leaf * 64) n ≡ F (list_of cs h) → (v : LeavesView T) → record { lists = map (list_of cs) (take used hs); room = length hs; resizes = times } ≡ v
        → record { lists = map (list_of ds) (take used (set hs i (head h.leaf n))); room = length (set hs i (head h.leaf n)); resizes = times } ≡ with_list v i (F (get_or v.lists i []))
    view-one {times} F e v seen =
        let w : LeavesView T = record { lists = map (list_of cs) (take used hs); room = length hs; resizes = times } in
        let there = seen-list cs hs used is i h read w refl [] (omega (arith, lt, count-lists cs hs used is)) in
        (λ j. record {
          lists = (edited_lists is one ∙ replaced-one w.lists i (run ds (h.leaf * 64) n) (omega (arith, lt, count-lists cs hs used is)) ∙ ap (set w.lists i) (e ∙ ap F (sym there))) j;
          room = length-set hs i (head h.leaf n) j;
          resizes = times;
        }) ∙ ap (λ (u : LeavesView T). with_list u i (F (get_or u.lists i []))) seen

-- two heads have two leaves
pub leaves-differ : (hs : List Head) → ((leaf : ℕ) → heads_of leaf hs ≤ 1) → (i j : ℕ) (g h : Head) → g ≡ get_or hs i g → h ≡ get_or hs j h → i < j → j < length hs → g.leaf ≢ h.leaf
leaves-differ hs once i j g h rg rh lt le same =
    let first : has g.leaf (get_or (take j hs) i g) ≡ 1 = ap (has g.leaf) (get_or-take j hs i g lt ∙ sym rg) ∙ has-own g in
    let second : has g.leaf (get_or hs j h) ≡ 1 = ap (has g.leaf) (sym rh) ∙ ap (λ l. has l h) same ∙ has-own h in
    absurd (omega (arith, first, second, once g.leaf, sum_by_more (has g.leaf) hs j h le, sum_by-take-le (has g.leaf) hs (j + 1), get_or-le-sum_by (has g.leaf) (take j hs) i g (omega (arith, length-take-le j hs (omega arith)))))

read-removed : (hs : List Head) (n i : ℕ) (d : Head) → i < n → n < length hs → get_or (remove hs n) i d ≡ get_or hs i d
read-removed hs n i d lt le = grind (arith, places)

module _ {T : Type 0} (cs ds : List (Option T)) (hs : List Head) (used : ℕ) (is : IsArena cs hs used) where
  abbrev old : (times : ℕ) → LeavesView T
  old times = record { lists = map (list_of cs) (take used hs); room = length hs; resizes = times }

  -- the lists of two heads change
  module _ (i : ℕ) (g h : Head) (read : g ≡ get_or hs i g) (read_next : h ≡ get_or hs (i + 1) h) (lt : i + 1 < used) (n m : ℕ) (room : length ds ≡ length cs)
      (k : (leaf l : ℕ) → leaf ≢ g.leaf → leaf ≢ h.leaf → l ≤ 64 → run ds (leaf * 64) l ≡ run cs (leaf * 64) l)
      (le : n ≤ 64) (filled : IsRun ds (g.leaf * 64) n) (le_next : m ≤ 64) (filled_next : IsRun ds (h.leaf * 64) m) where
    abbrev with_two : List Head
    with_two = set (set hs i (head g.leaf n)) (i + 1) (head h.leaf m)

    read-set : h ≡ get_or (set hs i (head g.leaf n)) (i + 1) h
    read-set = read_next ∙ sym (get_or-set_other hs i (i + 1) (head g.leaf n) h (omega arith))

    long-two : length with_two ≡ length hs
    long-two = length-set (set hs i (head g.leaf n)) (i + 1) (head h.leaf m) ∙ length-set hs i (head g.leaf n)

    two : IsEdit cs ds hs with_two used used i 2 (head g.leaf n ∷ head h.leaf m ∷ [])
    two = record {
      within = omega arith;
      heads = set-two hs used i (head g.leaf n) (head h.leaf m) lt is.lists;
      same = λ leaf. heads_of-set leaf (set hs i (head g.leaf n)) (i + 1) (head h.leaf m) h (omega (arith, is.lists, length-set hs i (head g.leaf n))) (ap (λ (f : Head). f.leaf) read-set)
          ∙ heads_of-set leaf hs i (head g.leaf n) g (omega (arith, is.lists)) (ap (λ (f : Head). f.leaf) read);
      long = long-two;
      lists = omega (arith, is.lists, long-two);
      held = All-cons (IsHeld ds) (head g.leaf n) (head h.leaf m ∷ []) (le, filled) (All-cons (IsHeld ds) (head h.leaf m) [] (le_next, filled_next) (All-nil (IsHeld ds)));
      room = room;
      keeps = λ leaf l none small. let ne = two-alone leaf (head g.leaf n) (head h.leaf m) none in k leaf l ne.0 ne.1 small;
    }

    pub arena-two : IsArena ds with_two used
    arena-two = edited is two

    pub view-two : {times : ℕ} → (P Q : List T → List T → List T) → run ds (g.leaf * 64) n ≡ P (list_of cs g) (list_of cs h) → run ds (h.leaf * 64) m ≡ Q (list_of cs g) (list_of cs h) → (v : LeavesView T) → old times ≡ v
        → record { lists = map (list_of ds) (take used with_two); room = length with_two; resizes = times } ≡ with_lists v (replaced v.lists i 2 (P (get_or v.lists i []) (get_or v.lists (i + 1) []) ∷ Q (get_or v.lists i []) (get_or v.lists (i + 1) []) ∷ []))
    view-two {times} P Q p q v seen =
        let count = count-lists cs hs used is in
        let first = seen-list cs hs used is i g read (old times) refl [] (omega (arith, lt, count)) in
        let second = seen-list cs hs used is (i + 1) h read_next (old times) refl [] (omega (arith, lt, count)) in
        (λ j. record {
          lists = (edited_lists is two ∙ (λ k. replaced (old times).lists i 2 ((p ∙ (λ l. P (sym first l) (sym second l))) k ∷ (q ∙ (λ l. Q (sym first l) (sym second l))) k ∷ []))) j;
          room = long-two j;
          resizes = times;
        }) ∙ ap (λ (u : LeavesView T). with_lists u (replaced u.lists i 2 (P (get_or u.lists i []) (get_or u.lists (i + 1) []) ∷ Q (get_or u.lists i []) (get_or u.lists (i + 1) []) ∷ []))) seen

  -- a list in the first free leaf
  module _ (h : Head) (read : h ≡ get_or hs used h) (lt : used < length hs) (k : Keeps cs ds h.leaf h.leaf) (filled : IsRun ds (h.leaf * 64) 1) where
    abbrev with_next : List Head
    with_next = set hs used (head h.leaf 1)

    next : IsEdit cs ds hs with_next used (used + 1) used 0 (head h.leaf 1 ∷ [])
    next = record {
      within = omega arith;
      heads = set-next hs used (head h.leaf 1) lt;
      same = λ leaf. heads_of-set leaf hs used (head h.leaf 1) h lt (ap (λ (f : Head). f.leaf) read);
      long = length-set hs used (head h.leaf 1);
      lists = omega (arith, lt, length-set hs used (head h.leaf 1));
      held = All-cons (IsHeld ds) (head h.leaf 1) [] (omega arith, filled) (All-nil (IsHeld ds));
      room = k.count;
      keeps = λ leaf l none small. let ne = alone leaf (head h.leaf 1) none in k.same leaf l ne ne small;
    }

    pub arena-next : IsArena ds with_next (used + 1)
    arena-next = edited is next

    pub view-next : {times : ℕ} → (x : T) → run ds (h.leaf * 64) 1 ≡ x ∷ [] → (v : LeavesView T) → old times ≡ v
        → record { lists = map (list_of ds) (take (used + 1) with_next); room = length with_next; resizes = times } ≡ with_lists v (v.lists ++ (x ∷ []) ∷ [])
    view-next {times} x e v seen =
        let count = count-lists cs hs used is in
        (λ j. record {
          lists = (edited_lists is next ∙ (λ k. take_all used (old times).lists (omega (arith, count)) k ++ (e k ∷ drop_all (used + 0) (old times).lists (omega (arith, count)) k))) j;
          room = length-set hs used (head h.leaf 1) j;
          resizes = times;
        }) ∙ ap (λ (u : LeavesView T). with_lists u (u.lists ++ (x ∷ []) ∷ [])) seen

  -- a list that is split, with its second part in the first free leaf
  module _ (i : ℕ) (g h : Head) (read : g ≡ get_or hs i g) (lt : i < used) (read_free : slice_get hs used ≡ Some h) (some : used < length hs) (n m : ℕ) (k : Keeps cs ds g.leaf h.leaf)
      (le : n ≤ 64) (filled : IsRun ds (g.leaf * 64) n) (le_next : m ≤ 64) (filled_next : IsRun ds (h.leaf * 64) m) where
    abbrev with_part : List Head
    with_part = insert (set (remove hs used) i (head g.leaf n)) (i + 1) (head h.leaf m)

    pub long-part : length with_part ≡ length hs
    long-part =
        let a = length-remove hs used some in let b = length-set (remove hs used) i (head g.leaf n) in
        omega (arith, a, b, length-insert (set (remove hs used) i (head g.leaf n)) (i + 1) (head h.leaf m) (omega (arith, a, b)))

    same-part : (leaf : ℕ) → heads_of leaf with_part ≡ heads_of leaf hs
    same-part leaf =
        let free : has leaf (get_or hs used h) ≡ has leaf (head h.leaf m) = ap (λ (f : Head). has leaf f) (get_or_from_slice_get hs used h h read_free) in
        omega (
          arith,
          free,
          sum_by-insert (has leaf) (set (remove hs used) i (head g.leaf n)) (i + 1) (head h.leaf m),
          sum_by-remove (has leaf) hs used h some,
          heads_of-set leaf (remove hs used) i (head g.leaf n) g (omega (arith, length-remove hs used some)) (ap (λ (f : Head). f.leaf) (read ∙ sym (read-removed hs used i g lt some))),
        )

    part : IsEdit cs ds hs with_part used (used + 1) i 1 (head g.leaf n ∷ head h.leaf m ∷ [])
    part = record {
      within = omega arith;
      heads = set-split hs used i (head g.leaf n) (head h.leaf m) lt some;
      same = same-part;
      long = long-part;
      lists = omega (arith, some, long-part);
      held = All-cons (IsHeld ds) (head g.leaf n) (head h.leaf m ∷ []) (le, filled) (All-cons (IsHeld ds) (head h.leaf m) [] (le_next, filled_next) (All-nil (IsHeld ds)));
      room = k.count;
      keeps = λ leaf l none small. let ne = two-alone leaf (head g.leaf n) (head h.leaf m) none in k.same leaf l ne.0 ne.1 small;
    }

    pub arena-part : IsArena ds with_part (used + 1)
    arena-part = edited is part

    pub view-part : {times : ℕ} → (P Q : List T → List T) → run ds (g.leaf * 64) n ≡ P (list_of cs g) → run ds (h.leaf * 64) m ≡ Q (list_of cs g) → (v : LeavesView T) → old times ≡ v
        → record { lists = map (list_of ds) (take (used + 1) with_part); room = length with_part; resizes = times } ≡ with_lists v (replaced v.lists i 1 (P (get_or v.lists i []) ∷ Q (get_or v.lists i []) ∷ []))
    view-part {times} P Q p q v seen =
        let first = seen-list cs hs used is i g read (old times) refl [] (omega (arith, lt, count-lists cs hs used is)) in
        (λ j. record {
          lists = (edited_lists is part ∙ (λ k. replaced (old times).lists i 1 ((p ∙ ap P (sym first)) k ∷ (q ∙ ap Q (sym first)) k ∷ []))) j;
          room = long-part j;
          resizes = times;
        }) ∙ ap (λ (u : LeavesView T). with_lists u (replaced u.lists i 1 (P (get_or u.lists i []) ∷ Q (get_or u.lists i []) ∷ []))) seen

-- a list that is removed
module _ {T : Type 0} (cs : List (Option T)) (hs : List Head) (used : ℕ) (is : IsArena cs hs used) (i : ℕ) (h : Head) (read : slice_get hs i ≡ Some h) (lt : i < used) where
  abbrev with_freed : List Head
  with_freed = insert (remove hs i) (used - 1) h

  pub long-freed : length with_freed ≡ length hs
  long-freed = omega (arith, is.lists, length-remove hs i (omega (arith, is.lists)), length-insert (remove hs i) (used - 1) h (omega (arith, lt, is.lists, length-remove hs i (omega (arith, lt, is.lists)))))

  same-freed : (leaf : ℕ) → heads_of leaf with_freed ≡ heads_of leaf hs
  same-freed leaf =
      let own : has leaf (get_or hs i h) ≡ has leaf h = ap (has leaf) (get_or_from_slice_get hs i h h read) in
      omega (arith, own, sum_by-insert (has leaf) (remove hs i) (used - 1) h, sum_by-remove (has leaf) hs i h (omega (arith, is.lists)))

  freed : IsEdit cs cs hs with_freed used (used - 1) i 1 []
  freed = record {
    within = omega arith;
    heads = set-freed hs used i h lt is.lists;
    same = same-freed;
    long = long-freed;
    lists = omega (arith, is.lists, long-freed);
    held = All-nil (IsHeld cs);
    room = refl;
    keeps = λ leaf l none small. refl;
  }

  pub arena-freed : IsArena cs with_freed (used - 1)
  arena-freed = edited is freed

  pub view-freed : {times : ℕ} → (v : LeavesView T) → record { lists = map (list_of cs) (take used hs); room = length hs; resizes = times } ≡ v
      → record { lists = map (list_of cs) (take (used - 1) with_freed); room = length with_freed; resizes = times } ≡ with_lists v (replaced v.lists i 1 [])
  view-freed {times} v seen = (λ j. record { lists = edited_lists is freed j; room = long-freed j; resizes = times }) ∙ ap (λ (u : LeavesView T). with_lists u (replaced u.lists i 1 [])) seen

-- a value alone in a leaf
module _ {T : Type 0} (cs : List (Option T)) (leaf : ℕ) (x : T) (room : (leaf + 1) * 64 ≤ length cs) where
  pub run-single : run (set cs (leaf * 64) (Some x)) (leaf * 64) 1 ≡ x ∷ []
  run-single = run-set-same cs (leaf * 64) x (omega arith)

  pub IsRun-single : IsRun (set cs (leaf * 64) (Some x)) (leaf * 64) 1
  IsRun-single = IsRun-long (set cs (leaf * 64) (Some x)) (leaf * 64) 1 (ap length run-single) (omega (arith, length-set cs (leaf * 64) (Some x)))

  pub keeps-single : (at : ℕ) → leaf * 64 ≤ at → at < (leaf + 1) * 64 → (c : Option T) → Keeps cs (set cs at c) leaf leaf
  keeps-single at l h c = record {
    count = length-set cs at c;
    same = λ other n ne nf le. elim (leaves-apart other n leaf at (at + 1) ne le l (omega (arith, h))) [
      | inl b ↦ run-set-above cs (other * 64) n at c (omega (arith, h, room)) b
      | inr b ↦ run-set-below cs (other * 64) n at c (omega (arith, b))
    ];
  }

-- a value written in its place
module _ {T : Type 0} (cs : List (Option T)) (leaf len at : ℕ) (room : (leaf + 1) * 64 ≤ length cs) (filled : IsRun cs (leaf * 64) len) (within : at < len) (small : len ≤ 64) (w : T) where
  abbrev written : List (Option T)
  written = set cs (leaf * 64 + at) (Some w)

  pub run-written : run written (leaf * 64) len ≡ set (run cs (leaf * 64) len) at w
  run-written =
      run-split written (leaf * 64) (leaf * 64 + at) at (len - at) len refl (omega arith)
      ∙ (λ j. (run-set-above cs (leaf * 64) at (leaf * 64 + at) (Some w) (omega arith) (omega arith) ∙ sym (run-take cs (leaf * 64) at len (omega arith) filled)) j
      ++ (run-split written (leaf * 64 + at) (leaf * 64 + at + 1) 1 (len - at - 1) (len - at) refl (omega arith)
      ∙ (λ k. run-set-same cs (leaf * 64 + at) w (omega arith) k ++ (run-set-below cs (leaf * 64 + at + 1) (len - at - 1) (leaf * 64 + at) (Some w) (omega arith)
      ∙ sym (run-drop cs (leaf * 64) (leaf * 64 + at + 1) (at + 1) len (len - at - 1) (omega arith) (omega arith) filled)) k)) j)
      ∙ ap (λ n. take at (run cs (leaf * 64) len) ++ w ∷ drop n (run cs (leaf * 64) len)) (add-one at)
      ∙ sym (set_split (run cs (leaf * 64) len) at w (omega (arith, length-run cs (leaf * 64) len filled)))

  pub IsRun-written : IsRun written (leaf * 64) len
  IsRun-written = IsRun-long written (leaf * 64) len (ap length run-written ∙ length-set (run cs (leaf * 64) len) at w ∙ length-run cs (leaf * 64) len filled) (omega (arith, length-set cs (leaf * 64 + at) (Some w)))

-- heads that remain as they are
same-heads : (hs : List Head) (i : ℕ) (h : Head) → h ≡ get_or hs i h → set hs i (head h.leaf h.len) ≡ hs
same-heads hs i h read = ap (set hs i) read ∙ set-get_or hs i h

module _ {T : Type 0} (cs : List (Option T)) (hs : List Head) (used : ℕ) (is : IsArena cs hs used) (i at : ℕ) (h : Head) (read : h ≡ get_or hs i h) (f : i < used) (places : (h.leaf + 1) * 64 ≤ length cs)
    (filled : IsRun cs (h.leaf * 64) h.len) (small : h.len ≤ 64) (within : at < h.len) (w : T) where
  abbrev lent : List (Option T)
  lent = set cs (h.leaf * 64 + at) (Some w)

  keeps-lent : Keeps cs lent h.leaf h.leaf
  keeps-lent = keeps-single cs h.leaf w places (h.leaf * 64 + at) (omega arith) (omega (arith, small, within)) (Some w)

  pub arena-lent : IsArena lent hs used
  arena-lent = subst (λ gs. IsArena lent gs used) (same-heads hs i h read) (arena-one cs lent hs used is i h read f h.len keeps-lent small (IsRun-written cs h.leaf h.len at places filled within small w))

  pub view-lent : {times : ℕ} → (v : LeavesView T) → record { lists = map (list_of cs) (take used hs); room = length hs; resizes = times } ≡ v
      → record { lists = map (list_of lent) (take used hs); room = length hs; resizes = times } ≡ with_list v i (set (get_or v.lists i []) at w)
  view-lent {times} v seen = subst (λ gs. record { lists = map (list_of lent) (take used gs); room = length gs; resizes = times } ≡ with_list v i (set (get_or v.lists i []) at w)) (same-heads hs i h read)
      (view-one cs lent hs used is i h read f h.len keeps-lent small (IsRun-written cs h.leaf h.len at places filled within small w) (λ xs. set xs at w) (run-written cs h.leaf h.len at places filled within small w) v seen)

-- two lists of which the second was emptied
module _ {X : Type 0} (ls : List (List X)) (i : ℕ) (lt : i + 1 < length ls) (x : List X) where
  start : length (take i ls) ≡ i
  start = length-take-le i ls (omega arith)

  pub second-there : (y d : List X) → get_or (replaced ls i 2 (x ∷ y ∷ [])) (i + 1) d ≡ y
  second-there y d = rw start at (get_or-append-add (take i ls) (x ∷ y ∷ drop (i + 2) ls) 1 d)

  pub second-gone : (y : List X) → replaced (replaced ls i 2 (x ∷ y ∷ [])) (i + 1) 1 [] ≡ replaced ls i 2 (x ∷ [])
  second-gone y =
      let end : i + 1 + 1 ≡ i + 2 = omega arith in
      (λ j. take (sym start j + 1) (take i ls ++ (x ∷ y ∷ drop (i + 2) ls)) ++ drop ((end ∙ ap (λ n. n + 2) (sym start)) j) (take i ls ++ (x ∷ y ∷ drop (i + 2) ls)))
      ∙ (λ j. take-append-add (take i ls) (x ∷ y ∷ drop (i + 2) ls) 1 j ++ drop-append-add (take i ls) (x ∷ y ∷ drop (i + 2) ls) 2 j)
      ∙ append_assoc (take i ls) (x ∷ []) (drop (i + 2) ls)

-- lists whose leaf is none that changed
module _ {T : Type 0} (cs ds : List (Option T)) (leaf : ℕ) (k : Keeps cs ds leaf leaf) where
  differs : (h : Head) (os : List Head) → heads_of leaf (h ∷ os) ≡ 0 → h.leaf ≢ leaf
  differs h os none same = let e : has leaf h ≡ 1 = subst (λ l. has l h ≡ 1) same (has-own h) in absurd (omega (arith, none, heads_of-cons leaf h os, e))

  none-rest : (h : Head) (os : List Head) → heads_of leaf (h ∷ os) ≡ 0 → heads_of leaf os ≡ 0
  none-rest h os none = omega (arith, none, heads_of-cons leaf h os)

  pub others-held : (os : List Head) → heads_of leaf os ≡ 0 → All (IsHeld cs) os → All (IsHeld ds) os
  others-held [] none held = All-nil (IsHeld ds)
  others-held (h ∷ os) none held =
      let first = All-head (IsHeld cs) h os held in let ne = differs h os none in
      All-cons (IsHeld ds) h os (first.0, IsRun-same cs ds (h.leaf * 64) h.len k.count (k.same h.leaf h.len ne ne first.0) first.1) (others-held os (none-rest h os none) (All-tail (IsHeld cs) h os held))

  pub others-same : (os : List Head) → heads_of leaf os ≡ 0 → All (IsHeld cs) os → map (list_of ds) os ≡ map (list_of cs) os
  others-same [] none held = refl
  others-same (h ∷ os) none held =
      let first = All-head (IsHeld cs) h os held in let ne = differs h os none in
      (λ j. k.same h.leaf h.len ne ne first.0 j ∷ others-same os (none-rest h os none) (All-tail (IsHeld cs) h os held) j)

-- the heads after one have other leaves
pub none-after : (hs : List Head) → ((leaf : ℕ) → heads_of leaf hs ≤ 1) → (i : ℕ) (h : Head) → h ≡ get_or hs i h → i < length hs → heads_of h.leaf (drop (i + 1) hs) ≡ 0
none-after hs once i h read lt =
    let own : has h.leaf (get_or hs i h) ≡ 1 = ap (has h.leaf) (sym read) ∙ has-own h in
    omega (arith, own, once h.leaf, sum_by-drop_more (has h.leaf) hs i h lt, sum_by-take-drop (has h.leaf) hs i)

-- the values of a leaf taken out
module _ {T : Type 0} (cs : List (Option T)) (leaf len : ℕ) (small : len ≤ 64) (filled : IsRun cs (leaf * 64) len) where
  pub keeps-emptied : Keeps cs (with_run cs (leaf * 64) len (replicate len None)) leaf leaf
  keeps-emptied = let long = length-replicate len None in record {
    count = length-with_run cs (leaf * 64) len (replicate len None) filled.0 long;
    same = λ other n ne nf le. elim (leaves-apart other n leaf (leaf * 64) (leaf * 64 + len) ne le (omega arith) (omega (arith, small))) [
      | inl b ↦ run-with-below cs (leaf * 64) len (replicate len None) (other * 64) n filled.0 b
      | inr b ↦ run-with-above cs (leaf * 64) len (replicate len None) (other * 64) n filled.0 long b
    ];
  }

module _ {T : Type 0} (cs : List (Option T)) (hs : List Head) (once : (leaf : ℕ) → heads_of leaf hs ≤ 1) (i : ℕ) (h : Head) (read : h ≡ get_or hs i h) (lt : i < length hs) (held : All (IsHeld cs) (drop i hs)) where
  pub held-first : IsHeld cs h
  held-first = subst (IsHeld cs) (get_or-drop i hs 0 h ∙ ap (λ n. get_or hs n h) (add-zero i) ∙ sym read) (All-get_or (IsHeld cs) (drop i hs) 0 h (omega (arith, lt, length-drop i hs)) held)

  held-rest : All (IsHeld cs) (drop (i + 1) hs)
  held-rest = All-tail (IsHeld cs) (get_or hs i h) (drop (i + 1) hs) (subst (All (IsHeld cs)) (drop_more hs i h lt) held)

  pub held-emptied : All (IsHeld (with_run cs (h.leaf * 64) h.len (replicate h.len None))) (drop (i + 1) hs)
  held-emptied = others-held cs (with_run cs (h.leaf * 64) h.len (replicate h.len None)) h.leaf (keeps-emptied cs h.leaf h.len held-first.0 held-first.1) (drop (i + 1) hs) (none-after hs once i h read lt) held-rest

-- heads in order
module _ (hs news : List Head) (n : ℕ) (is : AreNumbered hs n news) where
  none-yet : (leaf k : ℕ) → k ≤ n → k ≤ leaf → heads_of leaf (take k news) ≡ 0
  none-yet leaf zero w l = refl
  none-yet leaf (suc k) w l =
      let d = head 0 0 in let lt : k < length news = omega (arith, w, is.count) in
      let other : has leaf (get_or news k d) ≡ 0 = has-other leaf (get_or news k d) (λ e. absurd (omega (arith, e, is.leaves k d (omega arith), l))) in
      ap (λ m. heads_of leaf (take m news)) (sym (add-one k)) ∙ omega (arith, other, sum_by_more (has leaf) news k d lt, none-yet leaf k (omega arith) (omega arith))

  once-each : (leaf k : ℕ) → k ≤ n → heads_of leaf (take k news) ≤ 1
  once-each leaf zero w = omega arith
  once-each leaf (suc k) w =
      let d = head 0 0 in let lt : k < length news = omega (arith, w, is.count) in
      let more = ap (λ m. heads_of leaf (take m news)) (sym (add-one k)) ∙ sum_by_more (has leaf) news k d lt in
      elim (cases_lt leaf k) [
        | inl b ↦
            let other : has leaf (get_or news k d) ≡ 0 = has-other leaf (get_or news k d) (λ e. absurd (omega (arith, e, is.leaves k d (omega arith), b))) in
            omega (arith, more, other, once-each leaf k (omega arith))
        | inr b ↦ omega (arith, more, has-le leaf (get_or news k d), none-yet leaf k (omega arith) b)
      ]

  all-heads : take n news ≡ news
  all-heads = take_all n news (omega (arith, is.count))

  pub numbered-once : (leaf : ℕ) → heads_of leaf news ≤ 1
  numbered-once leaf = subst (λ gs. heads_of leaf gs ≤ 1) all-heads (once-each leaf n (omega arith))

  pub numbered-within : (leaf : ℕ) → length news ≤ leaf → heads_of leaf news ≡ 0
  numbered-within leaf le = subst (λ gs. heads_of leaf gs ≡ 0) all-heads (none-yet leaf n (omega arith) (omega (arith, le, is.count)))

  -- the lists in the new leaves
  module _ {T : Type 0} (cs ds : List (Option T)) (within : length hs ≤ n) (small : All (λ h. h.len ≤ 64) hs) (moved : (i : ℕ) (h : Head) → i < length hs → h ≡ get_or hs i h → IsMoved cs ds i h) where
    new-head : (i : ℕ) (d : Head) → i < length hs → get_or news i d ≡ head i (get_or hs i d).len
    new-head i d lt = (λ j. head (is.leaves i d (omega (arith, lt, within)) j) (is.lens i d lt j))

    own-read : (i : ℕ) (d : Head) → i < length hs → get_or hs i d ≡ get_or hs i (get_or hs i d)
    own-read i d lt = get_or_default hs i d (get_or hs i d) lt

    long-taken : length (take (length hs) news) ≡ length hs
    long-taken = length-take-le (length hs) news (omega (arith, within, is.count))

    held-there : All (IsHeld ds) (take (length hs) news)
    held-there = All-from_get_or (IsHeld ds) (take (length hs) news) (head 0 0) (λ i lt.
        let d = head 0 0 in let at : i < length hs = omega (arith, lt, long-taken) in
        subst (IsHeld ds) (sym (get_or-take (length hs) news i d at ∙ new-head i d at))
        (All-get_or (λ h. h.len ≤ 64) hs i d at small, (moved i (get_or hs i d) at (own-read i d at)).0))

    pub numbered-arena : n * 64 ≤ length ds → IsArena ds news (length hs)
    numbered-arena room = record {
      lists = omega (arith, within, is.count);
      places = omega (arith, room, is.count);
      leaves = numbered-within;
      once = numbered-once;
      held = held-there;
    }

    pub numbered-lists : map (list_of ds) (take (length hs) news) ≡ map (list_of cs) hs
    numbered-lists = same_lists (map (list_of ds) (take (length hs) news)) (map (list_of cs) hs)
        (length-map (take (length hs) news) (list_of ds) ∙ long-taken ∙ sym (length-map hs (list_of cs)))
        (λ i e lt.
        let d = head 0 0 in let at : i < length hs = omega (arith, lt, length-map (take (length hs) news) (list_of ds), length-map hs (list_of cs), long-taken) in
        get_or-map (list_of ds) (take (length hs) news) i d e (omega (arith, at, long-taken)) ∙ ap (list_of ds) (get_or-take (length hs) news i d at ∙ new-head i d at)
        ∙ (moved i (get_or hs i d) at (own-read i d at)).1 ∙ sym (get_or-map (list_of cs) hs i d e at))

-- a list that moves to another block
module _ {T : Type 0} (first cs ds : List (Option T)) (hs : List Head) (once : (leaf : ℕ) → heads_of leaf hs ≤ 1) (small : (j : ℕ) (g : Head) → j < length hs → g ≡ get_or hs j g → g.len ≤ 64) (room : length hs * 64 ≤ length ds)
    (i : ℕ) (h : Head) (read : h ≡ get_or hs i h) (lt : i < length hs) (held : IsHeld cs h) (same : list_of cs h ≡ list_of first h) where
  abbrev left : List (Option T)
  left = with_run cs (h.leaf * 64) h.len (replicate h.len None)

  abbrev filled : List (Option T)
  filled = with_run ds (i * 64) h.len (take h.len (drop (h.leaf * 64) cs))

  fits : i * 64 + h.len ≤ length ds
  fits = omega (arith, lt, room, held.0)

  cut : length (take h.len (drop (h.leaf * 64) cs)) ≡ h.len
  cut = cut-long cs (h.leaf * 64) h.len held.1.0

  pub length-filled : length filled ≡ length ds
  length-filled = length-with_run ds (i * 64) h.len (take h.len (drop (h.leaf * 64) cs)) fits cut

  pub rest-left : (j : ℕ) (g : Head) → i + 1 ≤ j → j < length hs → g ≡ get_or hs j g → IsHeld cs g × (list_of cs g ≡ list_of first g) → IsHeld left g × (list_of left g ≡ list_of first g)
  rest-left j g le jt rg old =
      let k = keeps-emptied cs h.leaf h.len held.0 held.1 in let differ = leaves-differ hs once i j h g read rg (omega (arith, le)) jt in
      let ne : g.leaf ≢ h.leaf = λ e. differ (sym e) in let kept = k.same g.leaf g.len ne ne old.0.0 in
      ((old.0.0, IsRun-same cs left (g.leaf * 64) g.len k.count kept old.0.1), kept ∙ old.1)

  pub moved-filled : (j : ℕ) (g : Head) → j < i + 1 → g ≡ get_or hs j g → ((k : ℕ) (f : Head) → k < i → f ≡ get_or hs k f → IsMoved first ds k f) → IsMoved first filled j g
  moved-filled j g le rg old = elim (cases_lt j i) [
    | inl b ↦
        let before = old j g b rg in let len = small j g (omega (arith, b, lt)) rg in
        let kept = run-with-below ds (i * 64) h.len (take h.len (drop (h.leaf * 64) cs)) (j * 64) g.len fits (omega (arith, len, b)) in
        (IsRun-same ds filled (j * 64) g.len length-filled kept before.0, kept ∙ before.1)
    | inr b ↦
        let now : i ≡ j = omega (arith, le, b) in
        let own : h ≡ g = read ∙ get_or_default hs i h g lt ∙ ap (λ n. get_or hs n g) now ∙ sym rg in
        let P : ℕ → Head → Type 0 = λ n f. IsMoved first filled n f in
        subst (λ n. P n g) now (subst (P i) own (IsRun-transferred_there ds cs (i * 64) (h.leaf * 64) h.len fits held.1, run-transferred_there ds cs (i * 64) (h.leaf * 64) h.len fits held.1 ∙ same))
  ]
