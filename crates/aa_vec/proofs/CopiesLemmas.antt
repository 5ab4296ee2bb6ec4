-- Clones of elements that are appended, one after another.
use Rattle.aa_vec.proofs.Common.{All, AllZip, AppendFails, AppendsClones, AppendsCopies, AssignsPart, Becomes, ClonesAreEqual, GrowsTo, List, RolledBack, TryReserveError, Vector, [], all_zip_more, ap, arith, common_steps, drop, get_or, get_or-drop, get_or-replicate, get_or-take, get_or_append_left, len, length, length-drop, length-replicate, length-take, nat_tests, refl, replicate, replicate_more, same_from_all_zip, subst, sym, take, take_all, take_at, with_room, ℕ, ◌++◌, ◌+◌, ◌-◌, ◌<◌, ◌∙◌, ◌∷◌, ◌≡◌, ◌≤◌}
use Rattle.aa_raw.specs.declared.collections.TryReserveErrorKind.TheVariants.{AllocError}
use Rattle.aa_vec.proofs.Becoming.{Becomes-more, Becomes-roomy, Becomes-then}
use Rattle.aa_vec.proofs.GrowthLemmas.{MakesRoom-has}

-- clones of one value and the value itself, where clones are copies
pub all-copied : {T : Type 0} (clones : T → T → Type 0) (k : ℕ) (x : T) (ys : List T) → 0 < k
    → ClonesAreEqual clones → AllZip clones (replicate (k - 1) x) ys → ys ++ x ∷ [] ≡ replicate k x
all-copied clones k x ys some copies e =
    ap (λ l. l ++ x ∷ []) (same_from_all_zip clones (replicate (k - 1) x) ys e copies)
    ∙ replicate_more (k - 1) x
    ∙ ap (λ n. replicate n x) {x = k - 1 + 1} {y = k} (omega (arith, some))

module _ {T A : Type 0} where
  pub AppendFails-rolled_back : (failure : Type 0) (size : ℕ) (old mid new : Vector T A) (k : ℕ)
      (error : TryReserveError) → Becomes (with_room size old (len old) k) old.items 0 0 mid
      → RolledBack mid k new → failure → error.kind ≡ AllocError (len old + k)
      → AppendFails failure size old k error new
  AppendFails-rolled_back failure size old mid new k error e u cause number = grind arith

  -- the same of clones of a range, between the two ends that `bounds_of` returned
  pub AppendFails-bounds : (failure : ℕ → ℕ → Type 0) {size s e : ℕ} {p : ℕ × ℕ}
      {old new : Vector T A} {error : TryReserveError} → p ≡ (s, e)
      → AppendFails (failure p.0 p.1) size old (p.1 - p.0) error new
      → AppendFails (failure s e) size old (e - s) error new
  AppendFails-bounds failure {size} {old = old} {new} {error} same f =
      subst (λ p. AppendFails (failure p.0 p.1) size old (p.1 - p.0) error new) same f

  module _ (clones : T → T → Type 0) where
    -- clones appended come after the old items
    pub AppendsClones-made : (old mid new : Vector T A) → Becomes old old.items 0 0 mid
        → (xs : List T) → AppendsClones clones mid xs new → AppendsClones clones old xs new
    AppendsClones-made old mid new made xs p =
        record {
          added = p.added;
          each = p.each;
          becomes = Becomes-roomy old mid new made (λ l. l ++ p.added) (length xs) p.becomes;
        }

    pub AppendsCopies-made : (old mid new : Vector T A) → Becomes old old.items 0 0 mid
        → (k : ℕ) (x : T) → AppendsCopies clones mid k x new → AppendsCopies clones old k x new
    AppendsCopies-made old mid new made k x p =
        record {
          added = p.added;
          each = p.each;
          becomes = Becomes-roomy old mid new made (λ l. l ++ (p.added ++ x ∷ [])) k p.becomes;
        }

    -- of all of a list, and where they are copies
    pub AppendsClones-all : (old new : Vector T A) (xs : List T) (k : ℕ)
        → AppendsClones clones old (take k xs) new → k ≡ length xs → AppendsClones clones old xs new
    AppendsClones-all old new xs k p e =
        subst (λ l. AppendsClones clones old l new) (take_all k xs (omega (arith, e))) p

    pub AppendsClones-copied : (old new : Vector T A) (xs : List T) → ClonesAreEqual clones
        → AppendsClones clones old xs new
        → Becomes old (old.items ++ xs) (length xs) (length xs) new
    AppendsClones-copied old new xs copies p =
        subst (λ l. Becomes old (old.items ++ l) (length xs) (length xs) new)
        (same_from_all_zip clones xs p.added p.each copies) p.becomes

    -- a clone of the next item of a list
    pub AppendsClones-take : (old mid new : Vector T A) (xs : List T) (i : ℕ) (x y : T)
        → AppendsClones clones old (take i xs) mid → i < length xs → x ≡ get_or xs i x → clones x y
        → Becomes mid (mid.items ++ y ∷ []) 1 1 new → AppendsClones clones old (take (i + 1) xs) new
    AppendsClones-take old mid new xs i x y p h e c q =
        grind (arith, common_steps, length-take, all_zip_more, Becomes-more)

    pub AppendsClones-own : (old mid new : Vector T A) (from i : ℕ) (x y : T)
        → AppendsClones clones old (take i (drop from old.items)) mid → from + i < len old → x
        ≡ get_or mid.items (from + i) x → clones x y → Becomes mid (mid.items ++ y ∷ []) 1 1 new
        → AppendsClones clones old (take (i + 1) (drop from old.items)) new
    AppendsClones-own old mid new from i x y p h e c =
        grind (arith, AppendsClones-take, length-drop, get_or_append_left, get_or-drop)

    -- whose clone fails
    pub own-fails : (never : T → Type 0) (old mid : Vector T A) (from i k : ℕ) (x : T)
        → AppendsClones clones old (take i (drop from old.items)) mid → i < k → from + k ≤ len old
        → x ≡ get_or mid.items (from + i) x → ¬ (never x)
        → ¬ (All never (take k (drop from old.items)))
    own-fails never old mid from i k x p h fits e fails all =
        grind (
          arith,
          nat_tests,
          get_or-take,
          length-take,
          length-drop,
          get_or_append_left,
          get_or-drop,
        )

    -- one more clone of the same
    pub AppendsClones-same : (old mid new : Vector T A) (k i : ℕ) (x y : T)
        → AppendsClones clones old (take i (replicate k x)) mid → i < k → clones x y
        → Becomes mid (mid.items ++ y ∷ []) 1 1 new
        → AppendsClones clones old (take (i + 1) (replicate k x)) new
    AppendsClones-same old mid new k i x y p h =
        AppendsClones-take old mid new (replicate k x) i x y p
        (omega (arith, h, length-replicate k x)) (sym (get_or-replicate k i x x h))

    -- the clones that were appended are dropped
    pub RolledBack-cut : (old mid new : Vector T A) (xs : List T) (k : ℕ)
        → AppendsClones clones old xs mid → Becomes mid (take (len old) mid.items) 0 0 new
        → length xs < k → RolledBack old k new
    RolledBack-cut old mid new xs k p cut less =
        let items : take (len old) mid.items
        ≡ old.items = ap (λ v. take (len old) v.items) p.becomes
        ∙ take_at old.items p.added (len old) refl in
        record {
          done = length xs;
          fewer = less;
          becomes = grind (arith, items, Becomes-then, p.becomes, cut);
        }

  -- there is capacity for all of them then
  pub room-there : (size : ℕ) (old mid : Vector T A) (k : ℕ) → GrowsTo size old k old.items mid
      → len old ≤ old.capacity → k ≤ mid.capacity - len mid
  room-there size old mid k made within =
      rw made.items (MakesRoom-has size (len old) k old mid made.room)

  -- a vector that was filled up with copies, or truncated
  pub Resized-copied : (clones : T → T → Type 0) (size : ℕ) (old mid new : Vector T A) (n : ℕ)
      (x : T) → ClonesAreEqual clones
      → Becomes (with_room size old (len old) (n - len old)) old.items 0 0 mid
      → AppendsCopies clones mid (n - len old) x new → len old < n
      → Becomes (with_room size old (len old) (n - len old))
      (take n old.items ++ replicate (n - len old) x) (n - len old) (n - len old) new
  Resized-copied clones size old mid new n x copies made p more =
      grind (arith, AppendsCopies-made, take_all, all-copied)

  -- and clones of a beginning that were appended
  pub AssignsPart-made : (size : ℕ) (old cleared mid new : Vector T A) → Becomes old [] 0 0 cleared
      → (clones : T → T → Type 0) (failure : Type 0) (xs : List T) (n : ℕ) (error : TryReserveError)
      → Becomes (with_room size cleared (len cleared) (length xs)) cleared.items 0 0 mid
      → n < length xs → AppendsClones clones mid (take n xs) new → failure → error.kind
      ≡ AllocError (length xs) → AssignsPart clones failure size old xs error new
  AssignsPart-made size old cleared mid new c clones failure xs n error m less p cause number =
      grind (arith, length-take, Becomes-roomy)

-- clones, appended one by one
pub ruleset copied = (
  AppendsClones-take,
  AppendsClones-same,
  AppendsClones-own,
  own-fails,
  RolledBack-cut,
  length-replicate,
  length-take,
)

-- and in capacity reserved for all of them
pub ruleset cloned = (
  copied,
  AssignsPart-made,
  AppendsClones-made,
  AppendsClones-all,
  AppendsClones-copied,
  AppendsCopies-made,
  AppendFails-rolled_back,
  Resized-copied,
  AppendFails-bounds,
)
