-- What edits take, one after another, where the text fits into its places.
use Rattle.std.proofs.lemmas.List.Sums.{fold-append}
use Rattle.aa_gap.proofs.Common.{Buffer, DeleteBack, DeleteForward, Edit, Edits, FewBlocks, FewBlocks-grows, FewBlocks-more, FewBlocks-none, FewPlaces, FewPlaces-grows, FewPlaces-none, GrowsWithin, Growth, Insert, List, MoveTo, Page, [], amortized, ap, append_assoc, arith, cursor, drop, drop-append_seam, edited, fold, gap, insert, inserts, max, min_capacity, len, length, length-append, length-drop, length-take, min, moved_over, nat_tests, page, put, refl, remove, remove-append_right, rules, run_count, subst, sym, take, take-append-drop, take-append-le, take-append_seam, text, total, with_edit, with_growth, with_room, written_by, ℕ, ◌++◌, ◌+◌, ◌-◌, ◌∙◌, ◌∷◌, ◌≡◌, ◌≤◌}

-- Edits, one after another, and what they leave of the text machine's page.
module _ {T : Type 0} where
  text-insert : (xs ys : List T) (x : T) → (xs ++ x ∷ []) ++ ys ≡ insert (xs ++ ys) (length xs) x
  text-insert xs ys x = rw (take-append_seam xs ys, drop-append_seam xs ys)
      (append_assoc xs (x ∷ []) ys)

  text-delete_back : (xs ys : List T) → take (length xs - 1) xs ++ ys
      ≡ take (length xs - 1) (xs ++ ys) ++ drop (length xs) (xs ++ ys)
  text-delete_back xs ys = grind (arith, take-append-le, drop-append_seam)

  text-delete_forward : (xs ys : List T) → xs ++ drop 1 ys ≡ remove (xs ++ ys) (length xs)
  text-delete_forward xs ys =
      let none : length xs - length xs ≡ 0 = omega arith in
      sym (remove-append_right xs ys (length xs) (length xs) refl (omega arith)
      ∙ ap (λ i. xs ++ remove ys i) none)

-- one more edit, among those that are counted
inserts-more : {T : Type 0} (e : Edit T) (es : List (Edit T)) → inserts (e ∷ es)
    ≡ inserts (e ∷ []) + inserts es
inserts-more e es = grind (arith, nat_tests)

inserts-push : {T : Type 0} (es : List (Edit T)) (e : Edit T) → inserts (es ++ e ∷ [])
    ≡ inserts es + inserts (e ∷ [])
inserts-push [] e = omega arith
inserts-push (d ∷ es) e =
    omega (arith, inserts-more d (es ++ e ∷ []), inserts-more d es, inserts-push es e)

total-push : {T : Type 0} (by : Edit T → Page T → ℕ) (es : List (Edit T)) (e : Edit T) (p : Page T)
    → total by (es ++ e ∷ []) p ≡ total by es p + by e (fold edited p es)
total-push by [] e p = omega arith
total-push by (d ∷ es) e p = omega (arith, total-push by es e (edited p d))

-- the places held at once while a block grows for the last of n elements, if it is full before: no
-- fewer for more elements
abbrev pub most_held : Growth → (n : ℕ) → ℕ
most_held g n = n - 1 + amortized g (n - 1) n 8

most_held-more : (g : Growth) (m n : ℕ) → m ≤ n → most_held g m ≤ most_held g n
most_held-more g m n le = grind arith

most_held-grows : (g : Growth) (c n least : ℕ) → c + 1 ≤ n → least ≤ 8
    → c + amortized g c (c + 1) least ≤ most_held g n
most_held-grows g c n least le few = grind arith

pub min_capacity-le : (size : ℕ) → min_capacity size ≤ 8
min_capacity-le size = grind (arith, nat_tests)

module _ {T A : Type 0} where
  -- no growth, and growth of a full block
  GrowsWithin-stays : (g : Growth) (old b new : Buffer T A) (n k : ℕ) → n ≤ k → new.grown.moved
      ≡ b.grown.moved
      → new.capacity ≡ b.capacity → GrowsWithin g old n b → GrowsWithin g old k new
  GrowsWithin-stays g old b new n k le same room d = grind arith

  GrowsWithin-grows : (g : Growth) (old b new : Buffer T A) (n least : ℕ) → len b ≡ b.capacity
      → len b ≤ len old + n
      → new.grown.moved ≡ b.grown.moved + len b → new.capacity
      ≡ amortized g b.capacity (len b + 1) least
      → GrowsWithin g old n b → GrowsWithin g old (n + 1) new
  GrowsWithin-grows g old b new n least full longer moved room d = grind arith

  -- how much is written and in how many runs where elements pass the gap
  moved_over-le : (b : Buffer T A) (n : ℕ) → moved_over (gap b) n ≤ n
  moved_over-le b n = grind (arith, nat_tests)

  run_count-moved_over : (b : Buffer T A) (n : ℕ) → run_count (moved_over (gap b) n) ≤ run_count n
  run_count-moved_over b n = grind (arith, nat_tests)

module _ {T A : Type 0} (size : ℕ) where
  -- what every edit does
  record Step (b : Buffer T A) (e : Edit T) (new : Buffer T A) : Type 0 where
    exact : new ≡ with_edit size b e
    leaves : page new ≡ edited (page b) e
    alloc : new.alloc ≡ b.alloc
    growth : new.growth ≡ b.growth
    room : b.capacity ≤ new.capacity
    fits : len new ≤ new.capacity
    longer : len new ≤ len b + inserts (e ∷ [])
    writes : new.written ≤ b.written + written_by e (page b)
    runs : new.runs ≤ b.runs + run_count (written_by e (page b))

  Step-of : (b : Buffer T A) (e : Edit T) → len b ≤ b.capacity → Step b e (with_edit size b e)
  Step-of b (Insert x) h = let n = length-append b.before (x ∷ []) in
      let t = text-insert b.before b.after x in grind (arith, nat_tests)
  Step-of b DeleteBack h =
      let n = length-take (cursor b - 1) b.before in let t = text-delete_back b.before b.after in
      search (rules, nat_tests)
  Step-of b DeleteForward h =
      let n = length-drop 1 b.after in let t = text-delete_forward b.before b.after in
      search (rules, nat_tests)
  Step-of b (MoveTo q) h =
      let long : length (text b) ≡ len b = length-append b.before b.after in
      let at : ℕ = min q (len b) in let passed : ℕ → ℕ = λ n. (cursor b - n) + (n - cursor b) in
      let far : passed (min q (length (text b))) ≡ passed at = ap (λ n. passed (min q n)) long in
      let all = take-append-drop at (text b) in let t = length-take at (text b) in
      let d = length-drop at (text b) in
      let m = moved_over-le b (passed at) in let f = ap run_count far in
      let r = run_count-moved_over b (passed at) in
      search (rules, nat_tests)

  -- these edits made `new` of `old`; the blocks since then led to its places
  pub record Made (old : Buffer T A) (edits : List (Edit T)) (new : Buffer T A) : Type 0 where
    pub done : Edits size old edits new
    pub fits : len new ≤ new.capacity
    pub since : old.grown.blocks ≤ new.grown.blocks
    pub places : FewPlaces old.growth (new.grown.blocks - old.grown.blocks) new.capacity

  pub Made-none : (b : Buffer T A) → len b ≤ b.capacity → Made b [] b
  Made-none b h =
      let none : 0 ≡ b.grown.blocks - b.grown.blocks = omega arith in let g = b.growth in
      let places = subst (λ k. FewPlaces g k b.capacity) none (FewPlaces-none g b.capacity) in
      let blocks = subst (λ k. FewBlocks g k (len b + 0)) none (FewBlocks-none g (len b + 0)) in
      let grown : GrowsWithin g b 0 b = grind arith in
      search (rules, nat_tests)

  module _ (old b new : Buffer T A) (es : List (Edit T)) (e : Edit T) (m : Made old es b)
      (s : Step b e new) where
    abbrev g : Growth
    g = old.growth

    -- the same edits, and what growth did
    made_by : let k = new.grown.blocks - old.grown.blocks in
        let n = inserts es + inserts (e ∷ []) in
        b.grown.blocks ≤ new.grown.blocks → GrowsWithin g old n new
        → FewPlaces g k new.capacity → FewBlocks g k (len old + n)
        → new.grown.held ≤ max old.grown.held (most_held g (len old + n))
        → Made old (es ++ e ∷ []) new
    made_by since grown places blocks held =
        let d = m.done in let count = inserts-push es e in let p = page old in
        let written = total-push written_by es e p in let wrote = ap (written_by e) d.leaves in
        let runs = total-push (λ e p. run_count (written_by e p)) es e p in
        let ran = ap (λ p. run_count (written_by e p)) d.leaves in
        let exact = s.exact ∙ ap (λ b. with_edit size b e) d.exact
        ∙ sym (fold-append (with_edit size) old es (e ∷ [])) in
        let leaves = s.leaves ∙ ap (λ p. edited p e) d.leaves
        ∙ sym (fold-append edited p es (e ∷ [])) in
        let alloc = s.alloc ∙ d.alloc in let growth = s.growth ∙ d.growth in
        let moved = rw (← count) at grown in let taken = rw (← count) at blocks in
        let most = rw (← count) at held in
        search rules

    made_stays : new.capacity ≡ b.capacity → new.grown ≡ b.grown → Made old (es ++ e ∷ []) new
    made_stays room same =
        let d = m.done in let few = len old + inserts es in
        let all = len old + (inserts es + inserts (e ∷ [])) in
        let held = most_held-more g few all (omega arith) in
        made_by (omega (arith, ap (λ g. g.blocks) same))
        (GrowsWithin-stays g old b new (inserts es) _ (omega arith)
        (ap (λ g. g.moved) same) room d.grown)
        (rw (same, room) m.places) (rw same (FewBlocks-more g _ few all (omega arith) d.blocks))
        (omega (arith, d.held, ap (λ g. g.held) same, held))

    made_grows : inserts (e ∷ []) ≡ 1 → len b ≡ b.capacity
        → new.capacity ≡ amortized b.growth b.capacity (len b + 1) (min_capacity size)
        → new.grown ≡ with_growth b.grown (len b) b.capacity new.capacity
        → Made old (es ++ e ∷ []) new
    made_grows one full room grown =
        let d = m.done in let cap = b.capacity in let least = min_capacity size in
        let k = b.grown.blocks - old.grown.blocks in let n = inserts es in
        let all = len old + (n + 1) in let more = ap (λ g. g.blocks) grown in
        let next : k + 1 ≡ new.grown.blocks - old.grown.blocks = omega (arith, m.since, more) in
        let to : new.capacity ≡ amortized g cap (len b + 1) least = room
        ∙ ap (λ g. amortized g cap (len b + 1) least) d.growth in
        let is : amortized g cap (cap + 1) least
        ≡ new.capacity = sym (to ∙ ap (λ n. amortized g cap (n + 1) least) full) in
        let places = FewPlaces-grows g k cap (cap + 1) least (omega arith) m.places in
        let few : cap + 1 ≤ all = omega (arith, full, d.longer) in
        let most = most_held-grows g cap all least few (min_capacity-le size) in
        let rises = most_held-more g (len old + n) all (omega arith) in
        made_by (omega (arith, more))
        (rw one (GrowsWithin-grows g old b new n least full d.longer
        (ap (λ g. g.moved) grown) to d.grown))
        (subst (λ j. FewPlaces g j new.capacity) next (subst (FewPlaces g (k + 1)) is places))
        (rw one (subst (λ j. FewBlocks g j all) next
        (FewBlocks-grows g k cap all (omega (arith, few)) m.places)))
        (rw one (omega (arith, d.held, ap (λ g. g.held) grown, is, rises, most)))

  -- one more edit
  pub Made-more : (old b new : Buffer T A) (es : List (Edit T)) (e : Edit T) → Made old es b
      → new ≡ with_edit size b e → Made old (es ++ e ∷ []) new
  Made-more old b new es (Insert x) m is =
      let mid = put (with_room size b 1) x in let s = Step-of b (Insert x) m.fits in
      rw is (grind (
        arith,
        nat_tests,
        m.fits,
        made_stays old b mid es (Insert x) m s,
        made_grows old b mid es (Insert x) m s refl,
      ))
  Made-more old b new es DeleteBack m is =
      rw is (made_stays old b _ es DeleteBack m (Step-of b DeleteBack m.fits) refl refl)
  Made-more old b new es DeleteForward m is =
      rw is (made_stays old b _ es DeleteForward m (Step-of b DeleteForward m.fits) refl refl)
  Made-more old b new es (MoveTo q) m is =
      rw is (made_stays old b _ es (MoveTo q) m (Step-of b (MoveTo q) m.fits) refl refl)

-- edits, one after another
pub ruleset one_by_one = (Made-none, Made-more)
