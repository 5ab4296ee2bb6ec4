-- Items that are appended to a small vector, one by one.
use Rattle.std.proofs.Common.{◌≡◌, ℕ, ◌+◌, ◌-◌, ◌<◌, ◌≤◌, Bool, true, false, List, [], ◌∷◌, ◌++◌, length, take, refl, sym, ap, ◌∙◌, arith, append_assoc, length-append}
use Rattle.std.proofs.Common.{inl, inr, subst}
use Rattle.std.proofs.iter.runs.Consumers.{total_runs}
use Rattle.std.specs.Iterator.{Drains, DrainsIf, Yields}
use Rattle.std.specs.Iterator.Runs.{WholeRun}
use Rattle.std.specs.Prelude.{◌⊎◌, Option, Result, Ok, Err, IfErr, IfOk, OnOk, nat_le, if◌then◌else◌}
use Rattle.std.proofs.lemmas.Bool.Decides.{nat_tests}
use Rattle.std.proofs.lemmas.List.{append-nil, take_at}
use Rattle.std.proofs.lemmas.List.Elements.{same_from_all_zip}
use Rattle.allocator_api2.proofs.Blocks as Blocks
use Rattle.allocator_api2.specs.declared.collections.TryReserveError.{TryReserveError}
use Rattle.aa_inline.specs.Extending.{pushed, pushed_all, ExtendsByAll, ExtendFails, FailsAtItem}
use Rattle.aa_inline.specs.Inlined.{Inlined, capacity, in_block, with_items, with_room, with_written, HasRoom, LacksRoom}

kept-in : {T A : Type 0} (b : Bool) (s t : Inlined T A) → t.items ≡ s.items → (if b then s else t).items ≡ s.items
kept-in true s t e = refl
kept-in false s t e = e

module _ {T A : Type 0} (size N : ℕ) where
  items-with_room : (s : Inlined T A) (k : ℕ) → (with_room size N s k).items ≡ s.items
  unfolding with_room in_block
  items-with_room s k = kept-in (nat_le k (capacity N s - length s.items)) s (in_block size (length s.items + k) s) refl

  -- one more of them
  pub pushed_all-push : (s : Inlined T A) (xs : List T) (x : T) → pushed_all size N s (xs ++ x ∷ []) ≡ pushed size N (pushed_all size N s xs) x
  pushed_all-push s [] x = refl
  pushed_all-push s (y ∷ xs) x = pushed_all-push (pushed size N s y) xs x

  -- they are appended, in order
  pub items-pushed_all : (s : Inlined T A) (xs : List T) → (pushed_all size N s xs).items ≡ s.items ++ xs
  items-pushed_all s [] = sym (append-nil s.items)
  items-pushed_all s (x ∷ xs) = items-pushed_all (pushed size N s x) xs ∙ append_assoc s.items (x ∷ []) xs

  pub length-pushed_all : (s : Inlined T A) (xs : List T) → length (pushed_all size N s xs).items ≡ length s.items + length xs
  length-pushed_all s xs = ap length (items-pushed_all s xs) ∙ length-append s.items xs

  pub items-push : (s new : Inlined T A) (x : T) → new ≡ pushed size N s x → new.items ≡ s.items ++ x ∷ []
  items-push s new x e = ap (λ t. t.items) e

  -- if m items fit, one fits and then fewer others
  pub room-pushed : (s : Inlined T A) (x : T) (m n : ℕ) → n < m → HasRoom N s m → HasRoom N (pushed size N s x) n
  unfolding with_room
  room-pushed s x m n fewer room =
      let one : nat_le 1 (capacity N s - length s.items) ≡ true = grind (arith, nat_tests, fewer, room) in
      rw one (omega (arith, length-append s.items (x ∷ []), fewer, room))

  -- and if they fit, no capacity was reserved for a part of them
  pub room-reserved : (old mid : Inlined T A) (k n : ℕ) → mid ≡ with_room size N old k → k ≤ n → HasRoom N old n → HasRoom N mid n
  unfolding with_room
  room-reserved old mid k n made few room =
      let fits : nat_le k (capacity N old - length old.items) ≡ true = grind (arith, nat_tests, few, room) in
      let same : mid ≡ old = made ∙ ap (λ b. if b then old else in_block size (length old.items + k) old) fits in
      subst (λ s. HasRoom N s n) (sym same) room

-- what was written, if the items are in a block
twice : (b : Bool) (k m n : ℕ) → k + (if b then m else 0) + (if b then n else 0) ≡ k + (if b then m + n else 0)
twice true k m n = omega arith
twice false k m n = omega arith

unmoved : (b : Bool) (k : ℕ) → k + (if b then 0 else 0) ≡ k
unmoved true k = omega arith
unmoved false k = omega arith

module _ {T A : Type 0} where
  -- two writes in turn are one
  pub with_written-with_written : (s : Inlined T A) (xs ys : List T) (m n : ℕ) → with_written (with_written s xs m) ys n ≡ with_written s ys (m + n)
  with_written-with_written s xs ys m n = λ t. record s { items = ys; written = twice s.spilled s.written m n t }

  pub with_written-none : (s : Inlined T A) → with_written s s.items 0 ≡ s
  with_written-none s = λ t. record s { written = unmoved s.spilled s.written t }

  -- one of n items that fit, and then the others
  pub room-with_written : (N : ℕ) (s : Inlined T A) (x : T) (n i : ℕ) → i < n → HasRoom N s (n - i) → HasRoom N (with_written s (s.items ++ x ∷ []) 1) (n - (i + 1))
  room-with_written N s x n i few room = omega (arith, length-append s.items (x ∷ []), few, room)

  -- the items that were appended to `s` are removed again
  pub undone : (s mid new : Inlined T A) (added : List T) (k : ℕ) → mid ≡ with_written s (s.items ++ added) k → new ≡ with_items mid (take (length s.items) mid.items) → new ≡ with_written s s.items k
  undone s mid new added k e f =
      f ∙ ap (λ m. with_items m (take (length s.items) m.items)) e ∙ ap (λ xs. with_written s xs k) (take_at s.items added (length s.items) refl)

module _ {U S T A : Type 0} (gives : U → S → Type 0) (next_gives : S → Option T → S → Type 0) (size N : ℕ) (source : U) (iter : S) (given : gives source iter) (old mid new : Inlined T A) where
  -- all items of the iterator are appended
  pub came_after : (r : Result Unit TryReserveError) → mid.items ≡ old.items → OnOk r ((xs : List T) × Drains next_gives iter xs × (new ≡ pushed_all size N mid xs))
      → OnOk r ((it : S) × gives source it × (xs : List T) × Drains next_gives it xs × (new.items ≡ old.items ++ xs))
  came_after (Ok u) e p = (iter, given, p.0, p.1, ap (λ s. s.items) p.2 ∙ items-pushed_all size N mid p.0 ∙ ap (λ ys. ys ++ p.0) e)
  came_after (Err e) same p = tt

  -- and they are one run
  pub ran_after : (r : Result Unit TryReserveError) → mid.items ≡ old.items → OnOk r ((xs : List T) × Drains next_gives iter xs × (new ≡ pushed_all size N mid xs))
      → OnOk r ((it : S) × gives source it × WholeRun next_gives it (λ p. new.items ≡ old.items ++ p.items))
  ran_after (Ok u) e p =
      let items = ap (λ s. s.items) p.2 ∙ items-pushed_all size N mid p.0 ∙ ap (λ ys. ys ++ p.0) e in
      (iter, given, total_runs next_gives iter (Unit {0}) (λ xs. new.items ≡ old.items ++ xs) (p.0, λ _. p.1, items) tt)
  ran_after (Err e) same p = tt

  module _ (LowerIs : S → ℕ → Type 0) (bound : ℕ) (is_lower : LowerIs iter bound) (made : mid ≡ with_room size N old bound) where
    pub all_came : (r : Result Unit TryReserveError) → OnOk r ((xs : List T) × Drains next_gives iter xs × (new ≡ pushed_all size N mid xs)) → OnOk r ((it : S) × gives source it × ExtendsByAll next_gives LowerIs size N it old new)
    all_came (Ok u) p = (iter, given, record { bound = bound; is_lower = is_lower; added = p.0; yields = p.1; put = p.2 ∙ ap (λ s. pushed_all size N s p.0) made })
    all_came (Err e) p = tt

    pub stopped : (r : Result Unit TryReserveError) → IfErr r (λ e. FailsAtItem next_gives size N iter mid e new) → IfErr r (λ e. (it : S) × gives source it × ExtendFails next_gives LowerIs size N it old e new)
    stopped (Ok u) p = tt
    stopped (Err e) p = (iter, given, record { bound = bound; is_lower = is_lower; why = inr (subst (λ s. FailsAtItem next_gives size N iter s e new) made p) })

-- what was taken before the last item
yields-front : {S T : Type 0} (next_gives : S → Option T → S → Type 0) (s : S) (xs : List T) (x : T) (t : S) → Yields next_gives s (xs ++ x ∷ []) t → (u : S) × Yields next_gives s xs u
yields-front next_gives s [] x t y = (s, refl)
yields-front next_gives s (z ∷ xs) x t y = let r = yields-front next_gives y.0 xs x t y.2 in (r.0, (y.0, y.1, r.1))

module _ {S T A : Type 0} (next_gives : S → Option T → S → Type 0) where
  module _ (size N : ℕ) (iter : S) (old new : Inlined T A) where
    by-cause : (e : TryReserveError) (bound : ℕ) → (LacksRoom size N old bound e × (new ≡ old)) ⊎ FailsAtItem next_gives size N iter (with_room size N old bound) e new
        → (xs : List T) × (new.items ≡ old.items ++ xs) × (t : S) × Yields next_gives iter xs t
    by-cause e bound (inl p) = ([], ap (λ s. s.items) p.1 ∙ sym (append-nil old.items), iter, refl)
    by-cause e bound (inr p) =
        let r = yields-front next_gives iter p.front p.item p.last p.yields in (
          p.front,
          ap (λ s. s.items) p.put ∙ items-pushed_all size N (with_room size N old bound) p.front ∙ ap (λ ys. ys ++ p.front) (items-with_room size N old bound),
          r.0,
          r.1,
        )

    -- where it fails, the items that were taken before are appended
    pub part_came : (LowerIs : S → ℕ → Type 0) (e : TryReserveError) → ExtendFails next_gives LowerIs size N iter old e new → (xs : List T) × (new.items ≡ old.items ++ xs) × (t : S) × Yields next_gives iter xs t
    part_came LowerIs e f = by-cause e f.bound f.why

pub ruleset pushes = (pushed_all-push, items-pushed_all, length-pushed_all)

pub ruleset copied = (Blocks.with_room, same_from_all_zip)

module _ {X E S T : Type 0} (steps : S → Option T → S → Type 0) (becomes : S → Type 0) (items : X → List T) where
  -- of all items, as the trait says it
  pub ok-drained : (W : X → Type 0) (r : Result X E)
      → IfOk r (λ v. (it : S) × (xs : List T) × becomes it × Drains steps it xs × (items v ≡ xs))
      → IfOk r (λ v. (it : S) × (xs : List T) × becomes it × DrainsIf steps (W v) it xs × (items v ≡ xs))
  ok-drained W (Ok v) h = (h.0, h.1, h.2, (h.3.1.0, h.3.1.1, λ _. (h.3.0, h.3.1.2)), h.4)
  ok-drained W (Err e) h = h
