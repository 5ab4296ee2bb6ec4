-- A slice for whose elements a closure was called in order, up to one place.
use mathlib.Core.Bool.{beq}
use Rattle.aa_vec.proofs.Common.{◌≡◌, not, ℕ, suc, ◌+◌, ◌<◌, ◌≤◌, Bool, true, false, List, [], ◌∷◌, ◌++◌, length, take, drop, get_or, sym, ap, ◌∙◌, subst, refl, arith, append_assoc, length-append, length-drop, slice_set, if◌then◌else◌, drop_all, take-append-drop, drop-set, drop-append-le, take_at, drop_at, length-take-le, nat_tests, rules, MayCallInOrder, MayChainFrom, MayDeduplicate, CallsUntil, ChainsAlong, zero-add, drop-cons, take-set, take-append-le}

module _ {T : Type 0} (ys : List T) (i : ℕ) (d : T) (h : i < length ys) where
  -- the elements from the index on
  pub from_here : drop i ys ≡ get_or ys i d ∷ drop (i + 1) ys
  from_here = drop-cons ys i d h ∙ ap (λ n. get_or ys i d ∷ drop n ys) {x = suc i} {y = i + 1}
      (omega arith)

  -- all of them, once it was written anew
  pub whole_set : (y : T) → slice_set ys i y ≡ take i ys ++ y ∷ drop (i + 1) ys
  whole_set y = sym (take-append-drop i (slice_set ys i y))
      ∙ ap (λ l. l ++ drop i (slice_set ys i y)) (take-set ys i y)
      ∙ ap (λ l. take i ys ++ l) (drop-set ys i y h)

-- a result at which an element is removed, and one at which it is kept
pub result_is : (answer stays : Bool) → answer
    ≡ (if stays then beq answer stays else not (beq answer stays))
result_is answer stays = grind (arith, nat_tests)

-- a closure is called along a list, up to the first removed element: `Until f xs k g ys` says that
-- k are kept, and that all are ys then, and `May f xs` that it may be called. `low` elements or
-- more are left where it stops
module _ {F T : Type 0} (low : ℕ) (Until : F → List T → ℕ → F → List T → Type 0)
    (May : F → List T → Type 0) where
  -- the closure was called for the first i of xs, which are kept: its state is h now, and the
  -- elements are ys
  pub record Reached (f : F) (xs : List T) (i : ℕ) (h : F) (ys : List T) : Type 0 where
    pub within : low + i ≤ length ys
    pub may : May h (drop i ys)
    pub comes : (k : ℕ) (g : F) (zs : List T) → Until h (drop i ys) k g zs
        → Until f xs (i + k) g (take i ys ++ zs)

  pub Reached-none : (f : F) (xs : List T) → low ≤ length xs → May f xs → Reached f xs 0 f xs
  Reached-none f xs some may =
      record {
        within = omega (arith, some);
        may = may;
        comes = λ k g zs a. subst (λ n. Until f xs n g zs) (sym (zero-add k)) a;
      }

  module _ {f : F} {xs : List T} {i : ℕ} {h : F} {ys : List T} (gone : Reached f xs i h ys) (g : F)
      (ws : List T) where
    -- one more is kept, and is left as y
    pub Reached-more : (y : T) (rest : List T) → ws ≡ take i ys ++ y ∷ rest → low ≤ length rest
        → May g rest
        → ((k : ℕ) (t : F) (zs : List T) → Until g rest k t zs
        → Until h (drop i ys) (suc k) t (y ∷ zs)) → Reached f xs (i + 1) g ws
    Reached-more y rest left some may until =
        let front : List T = take i ys ++ y ∷ [] in
        let all : ws ≡ front ++ rest = left ∙ sym (append_assoc (take i ys) (y ∷ []) rest) in
        let count : length front ≡ i + 1 = omega (
          arith,
          length-append (take i ys) (y ∷ []),
          length-take-le i ys (omega (arith, gone.within)),
        ) in
        let above : drop (i + 1) ws ≡ rest = ap (drop (i + 1)) all
        ∙ drop_at front rest (i + 1) count in
        let below : take (i + 1) ws ≡ front = ap (take (i + 1)) all
        ∙ take_at front rest (i + 1) count in
        record {
          within = omega (arith, ap length all, length-append front rest, count, some);
          may = rw above may;
          comes = λ k t zs u. rw (below, append_assoc (take i ys) (y ∷ []) zs)
              (subst (λ n. Until f xs n t (take i ys ++ y ∷ zs)) {x = i + suc k} {y = i + 1 + k}
              (omega arith) (gone.comes (suc k) t (y ∷ zs) (until k t zs (rw above at u))));
        }

    -- the next is removed, or there is none
    pub Reached-here : {n : ℕ} (zs : List T) → i ≡ n → Until h (drop i ys) 0 g zs → ws
        ≡ take i ys ++ zs → Until f xs n g ws
    Reached-here {n} zs e u left = subst (λ n. Until f xs n g ws) {x = i + 0} {y = n}
        (omega (arith, e)) (subst (Until f xs (i + 0) g) (sym left) (gone.comes 0 g zs u))

module _ {F T : Type 0} (Calls : F → T → Bool → F → T → Type 0) (Takes : F → T → Type 0) where
  abbrev pub HasCalled : F → List T → ℕ → F → List T → Type 0
  HasCalled = Reached 0 (CallsUntil Calls) (MayCallInOrder Calls Takes)

  module _ {f : F} {xs : List T} {i : ℕ} {h : F} {ys : List T} (asked : HasCalled f xs i h ys)
      (d : T) (within : i < length ys) where
    -- the closure may be called for the next
    pub next_takes : Takes h (get_or ys i d)
    next_takes = (rw (from_here ys i d within) at asked.may).0

    module _ {kept : Bool} {g : F} {y : T} (a : Calls h (get_or ys i d) kept g y) where
      called : (b : Bool) → kept ≡ b → Calls h (get_or ys i d) b g y
      called b e = subst (λ b. Calls h (get_or ys i d) b g y) e a

      until : (k : ℕ) (t : F) (zs : List T)
          → CallsUntil Calls h (get_or ys i d ∷ drop (i + 1) ys) k t zs
          → CallsUntil Calls h (drop i ys) k t zs
      until k t zs = subst (λ l. CallsUntil Calls h l k t zs) (sym (from_here ys i d within))

      -- it is kept
      pub HasCalled-more : kept ≡ true → HasCalled f xs (i + 1) g (slice_set ys i y)
      HasCalled-more e =
          let s = called true e in
          Reached-more 0 (CallsUntil Calls) (MayCallInOrder Calls Takes) asked g _ y
          (drop (i + 1) ys) (whole_set ys i d within y) (omega arith)
          ((rw (from_here ys i d within) at asked.may).1 true g y s)
          (λ k t zs u. until (suc k) t (y ∷ zs) (g, y, zs, s, u, refl))

      -- it is removed
      pub CallsUntil-here : kept ≡ false → CallsUntil Calls f xs i g (slice_set ys i y)
      CallsUntil-here e = Reached-here 0 (CallsUntil Calls) (MayCallInOrder Calls Takes) asked g _
          (y ∷ drop (i + 1) ys) refl (until 0 g _ (y, called false e, refl))
          (whole_set ys i d within y)

  -- all are kept
  pub CallsUntil-end : {f : F} {xs : List T} {i n : ℕ} {h : F} {ys : List T} → HasCalled f xs i h ys
      → n ≤ i → length ys ≡ n → CallsUntil Calls f xs n h ys
  CallsUntil-end {f} {xs} {i} {n} {h} {ys} asked all long =
      let none : drop i ys ≡ [] = drop_all i ys (omega (arith, all, long)) in
      Reached-here 0 (CallsUntil Calls) (MayCallInOrder Calls Takes) asked h ys (drop i ys)
      (omega (arith, asked.within, all, long))
      (subst (λ l. CallsUntil Calls h l 0 h l) (sym none) (refl, refl))
      (sym (take-append-drop i ys))

-- two parts of a list: the last element of the one and the first of the other are neighbours
module _ {T : Type 0} (xs a b : List T) (at : ℕ) (parts : xs ≡ a ++ b) (long : length a ≡ at + 1)
    (some : at + 1 < length xs) (d e : T) where
  rest : 0 < length b
  rest = omega (arith, some, long, ap length parts, length-append a b)

  pub neighbours_are : drop at xs ≡ get_or a at d ∷ get_or b 0 e ∷ drop 1 b
  neighbours_are = search (rules, nat_tests, drop_all, drop-append-le, from_here)

  pub neighbours_left : (m y : T) → slice_set a at m ++ slice_set b 0 y ≡ take at xs ++ m ∷ y
      ∷ drop 1 b
  neighbours_left m y = search (rules, nat_tests, drop_all, whole_set, take-append-le, append_assoc)

module _ {F T : Type 0} (Calls : F → T → T → Bool → F → T → T → Type 0)
    (Takes : F → T → T → Type 0) where
  abbrev pub HasChained : F → List T → ℕ → F → List T → Type 0
  HasChained = Reached 1 (ChainsAlong Calls) (MayDeduplicate Calls Takes)

  -- the closure was called for the element of `xs` after the one at the index, with that one, and
  -- `ys` are all, as they were left
  pub record CallsOnNeighbours (f : F) (xs : List T) (at : ℕ) (result : Bool) (g : F)
      (ys : List T) : Type 0 where
    pub first : T
    pub second : T
    pub others : List T
    pub first_left : T
    pub second_left : T
    pub had : drop at xs ≡ first ∷ second ∷ others
    pub called : Calls f second first result g second_left first_left
    pub left : ys ≡ take at xs ++ first_left ∷ second_left ∷ others

  -- the closure was called at the border of two parts
  module _ {f : F} (xs a b : List T) (at : ℕ) (parts : xs ≡ a ++ b) (long : length a ≡ at + 1)
      (some : at + 1 < length xs) (d e : T) where
    pub called_between : {answer : Bool} {g : F} {m y : T}
        → Calls f (get_or b 0 e) (get_or a at d) answer g y m
        → CallsOnNeighbours f xs at answer g (slice_set a at m ++ slice_set b 0 y)
    called_between {answer} {g} {m} {y} made = record {
      first = get_or a at d;
      second = get_or b 0 e;
      others = drop 1 b;
      first_left = m;
      second_left = y;
      had = neighbours_are xs a b at parts long some d e;
      called = made;
      left = neighbours_left xs a b at parts long some d e m y;
    }

  module _ {f : F} {xs : List T} {i : ℕ} {h : F} {ys : List T} (chained : HasChained f xs i h ys)
    where
      -- the closure may be called for the next
      pub next_pair : (l x : T) (others : List T) → drop i ys ≡ l ∷ x ∷ others → Takes h x l
      next_pair l x others e = (subst (MayDeduplicate Calls Takes h) e chained.may).0

      module _ {answer : Bool} {g : F} {ws : List T} (asked : CallsOnNeighbours h ys i answer g ws)
        where
          answered : (b : Bool) → answer ≡ b
              → Calls h asked.second asked.first b g asked.second_left asked.first_left
          answered b e = subst
              (λ b. Calls h asked.second asked.first b g asked.second_left asked.first_left) e
              asked.called

          along : (k : ℕ) (t : F) (zs : List T)
              → ChainsAlong Calls h (asked.first ∷ asked.second ∷ asked.others) k t zs
              → ChainsAlong Calls h (drop i ys) k t zs
          along k t zs = subst (λ l. ChainsAlong Calls h l k t zs) (sym asked.had)

          -- it is kept
          pub HasChained-more : answer ≡ false → HasChained f xs (i + 1) g ws
          HasChained-more e =
              let may : MayChainFrom Calls Takes h asked.first (asked.second ∷ asked.others) = subst
              (MayDeduplicate Calls Takes h) asked.had chained.may in
              Reached-more 1 (ChainsAlong Calls) (MayDeduplicate Calls Takes) chained g ws
              asked.first_left (asked.second_left ∷ asked.others) asked.left (omega arith)
              (may.2 g asked.second_left asked.first_left (answered false e))
              (λ k t zs u. along (suc k) t (asked.first_left ∷ zs)
              (g, asked.second_left, asked.first_left, zs, answered false e, u, refl))

          -- it is removed
          pub ChainsAlong-here : answer ≡ true → ChainsAlong Calls f xs i g ws
          ChainsAlong-here e =
              Reached-here 1 (ChainsAlong Calls) (MayDeduplicate Calls Takes) chained g ws
              (asked.first_left ∷ asked.second_left ∷ asked.others) refl
              (along 0 g _ (asked.second_left, asked.first_left, answered true e, refl)) asked.left

      -- one is left
      one_left : (zs : List T) → length zs ≡ 1 → ChainsAlong Calls h zs 0 h zs
      one_left (x ∷ []) e = (refl, refl)
      one_left zs e = absurd (omega (arith, e))

      -- all are kept
      pub ChainsAlong-end : {n : ℕ} → n ≤ i → n + 1 ≡ length ys → ChainsAlong Calls f xs n h ys
      ChainsAlong-end all e =
          Reached-here 1 (ChainsAlong Calls) (MayDeduplicate Calls Takes) chained h ys (drop i ys)
          (omega (arith, all, e, chained.within))
          (one_left (drop i ys) (omega (arith, all, e, chained.within, length-drop i ys)))
          (sym (take-append-drop i ys))

-- a closure that is called along a slice
pub ruleset calls = (Reached-none, next_takes, CallsUntil-end)

pub ruleset chains = (Reached-none, next_pair, ChainsAlong-here)
