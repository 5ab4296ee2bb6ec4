-- Clones of one item that are appended to a ring, and removed again where one fails.
use Rattle.std.proofs.Common.{◌≡◌, ℕ, suc, ◌+◌, ◌-◌, ◌<◌, List, [], ◌∷◌, ◌++◌, length, take, refl, sym, subst, ap, ◌∙◌, arith, append_assoc, length-append}
use Rattle.std.specs.Prelude.{replicate}
use Rattle.std.specs.List.{AllZip}
use Rattle.std.proofs.lemmas.Bool.Decides.{nat_tests}
use Rattle.std.proofs.lemmas.List.{append-nil, length-replicate, replicate-append-replicate, take_all, take_at}
use Rattle.std.proofs.lemmas.List.Elements.{AllZip-push, same_from_all_zip}
use Rattle.std.proofs.lemmas.Fn.{FoldsTo-push}
use Rattle.allocator_api2.specs.Copies.{MayCallTimes}
use Rattle.aa_ring.specs.Extending.{AppendsClones, AppendsCopies, AppendsPart, AppendsResults, RolledBack}
use Rattle.aa_ring.specs.Ringed.{Ringed, HasRoom, with_room, with_written}

-- one clone more of `x`
replicate-more : {T : Type 0} (k : ℕ) (x : T) → replicate (k + 1) x ≡ replicate k x ++ x ∷ []
replicate-more k x = sym (replicate-append-replicate k 1 x)

module _ {T A : Type 0} where
  -- two writes in turn are one
  pub written-twice : (r : Ringed T A) (xs ys : List T) (m n : ℕ) → with_written (with_written r xs m) ys n ≡ with_written r ys (m + n)
  written-twice r xs ys m n =
      let more : r.written + m + n ≡ r.written + (m + n) = omega arith in
      λ t. record { items = ys; capacity = r.capacity; growth = r.growth; grown = r.grown; written = more t; alloc = r.alloc }

  pub written-none : (r : Ringed T A) → with_written r r.items 0 ≡ r
  written-none r =
      let none : r.written + 0 ≡ r.written = omega arith in
      λ t. record { items = r.items; capacity = r.capacity; growth = r.growth; grown = r.grown; written = none t; alloc = r.alloc }

  -- so many clones of `x` were appended, and `n` in all fit
  abbrev pub PushesSame : (clones : T → T → Type 0) (x : T) (n : ℕ) (old : Ringed T A) (k : ℕ) (new : Ringed T A) → Type 0
  PushesSame clones x n old k new =
      (added : List T) × AllZip clones (replicate k x) added × (new ≡ with_written old (old.items ++ added) k) × HasRoom new (n - k)

  module _ (clones : T → T → Type 0) (x : T) (n : ℕ) (old : Ringed T A) where
    pub same-none : HasRoom old n → PushesSame clones x n old 0 old
    same-none room = ([], tt, sym (written-none old) ∙ ap (λ xs. with_written old xs 0) (sym (append-nil old.items)), omega (arith, room))

    pub same-more : (k : ℕ) (mid new : Ringed T A) (y : T) → k < n → PushesSame clones x n old k mid → clones x y → new ≡ with_written mid (mid.items ++ y ∷ []) 1 → PushesSame clones x n old (k + 1) new
    same-more k mid new y few p c e = (
      p.0 ++ y ∷ [],
      subst (λ l. AllZip clones l (p.0 ++ y ∷ [])) (sym (replicate-more k x)) (AllZip-push clones (replicate k x) p.0 x y p.1 c),
      e ∙ ap (λ s. with_written s (s.items ++ y ∷ []) 1) p.2 ∙ written-twice old (old.items ++ p.0) ((old.items ++ p.0) ++ y ∷ []) k 1 ∙ ap (λ zs. with_written old zs (k + 1)) (append_assoc old.items p.0 (y ∷ [])),
      omega (arith, p.3, few, ap (λ s. s.capacity) e, ap (λ s. length s.items) e, length-append mid.items (y ∷ [])),
    )

    pub same-all : (new : Ringed T A) → PushesSame clones x n old n new → AppendsClones clones old (replicate n x) new
    same-all new p = record { added = p.0; each = p.1; put = p.2 ∙ ap (with_written old (old.items ++ p.0)) (sym (length-replicate n x)) }

    pub same-part : (k : ℕ) (new : Ringed T A) → k < n → PushesSame clones x n old k new → AppendsPart old n new
    same-part k new few p = record { added = p.0; done = k; fewer = few; put = p.2 }

  -- and `x` itself
  pub copies-last : (clones : T → T → Type 0) (old mid new : Ringed T A) (k : ℕ) (x : T) → 0 < k → AppendsClones clones old (replicate (k - 1) x) mid → new ≡ with_written mid (mid.items ++ x ∷ []) 1
      → AppendsCopies clones old k x new
  copies-last clones old mid new k x some p e =
      let n : length (replicate (k - 1) x) + 1 ≡ k = omega (arith, length-replicate (k - 1) x) in
      record {
        added = p.added;
        each = p.each;
        put = e ∙ ap (λ s. with_written s (s.items ++ x ∷ []) 1) p.put ∙ written-twice old (old.items ++ p.added) ((old.items ++ p.added) ++ x ∷ []) (length (replicate (k - 1) x)) 1
            ∙ (λ t. with_written old (append_assoc old.items p.added (x ∷ []) t) (n t));
      }

  -- or what was appended is removed again
  pub undone : (old mid new : Ringed T A) (n m len : ℕ) → AppendsPart old n mid → n < m → len ≡ length old.items → new ≡ with_written mid (take len mid.items) 0 → RolledBack old m new
  undone old mid new n m len p few at e =
      let all : p.done + 0 ≡ p.done = omega arith in
      record {
        done = p.done;
        fewer = omega (arith, p.fewer, few);
        put = e ∙ (λ t. with_written mid (take (at t) mid.items) 0) ∙ ap (λ s. with_written s (take (length old.items) s.items) 0) p.put
            ∙ written-twice old (old.items ++ p.added) (take (length old.items) (old.items ++ p.added)) p.done 0
            ∙ (λ t. with_written old (take_at old.items p.added (length old.items) refl t) (all t));
      }

  -- clones that are equal
  pub copies-same : (clones : T → T → Type 0) (old roomy new : Ringed T A) (n : ℕ) (x : T) → roomy.items ≡ old.items → length old.items < n → ((a b : T) → clones a b → b ≡ a)
      → AppendsCopies clones roomy (n - length old.items) x new → new ≡ with_written roomy (take n old.items ++ replicate (n - length old.items) x) (n - length old.items)
  copies-same clones old roomy new n x same few equal p =
      let k : ℕ = n - length old.items in let next : k - 1 + 1 ≡ k = omega arith in
      let added : p.added ≡ replicate (k - 1) x = same_from_all_zip clones (replicate (k - 1) x) p.added p.each equal in
      let all : p.added ++ x ∷ [] ≡ replicate k x = ap (λ ys. ys ++ x ∷ []) added ∙ sym (replicate-more (k - 1) x) ∙ ap (λ m. replicate m x) next in
      let front : roomy.items ≡ take n old.items = same ∙ sym (take_all n old.items (omega arith)) in
      p.put ∙ (λ t. with_written roomy (front t ++ all t) k)

module _ {T A F : Type 0} (takes : F → Type 0) (step : F → T → F → Type 0) where
  -- the closure was called `k` times of `total`, its results were appended, and the others fit
  pub record PushesResults (total : ℕ) (old : Ringed T A) (f : F) (k : ℕ) (new : Ringed T A) (g : F) : Type 0 where
    pub appends : AppendsResults step old k f g new
    pub more : MayCallTimes takes step (total - k) g
    pub room : HasRoom new (total - k)

  module _ (total : ℕ) (old : Ringed T A) (f : F) where
    pub results-none : HasRoom old total → MayCallTimes takes step total f → PushesResults total old f 0 old f
    results-none room may = record {
      appends = record { results = []; calls = refl; count = refl; put = sym (written-none old) ∙ ap (λ xs. with_written old xs 0) (sym (append-nil old.items)) };
      more = subst (λ n. MayCallTimes takes step n f) {x = total} {y = total - 0} (omega arith) may;
      room = omega (arith, room);
    }

    module _ (k : ℕ) (mid : Ringed T A) (g : F) (few : k < total) (p : PushesResults total old f k mid g) where
      next : MayCallTimes takes step (suc (total - (k + 1))) g
      next = subst (λ n. MayCallTimes takes step n g) {x = total - k} {y = suc (total - (k + 1))} (omega (arith, few)) p.more

      pub results-may : takes g
      results-may = next.0

      pub results-more : (y : T) (h : F) (new : Ringed T A) → step g y h → new ≡ with_written mid (mid.items ++ y ∷ []) 1 → PushesResults total old f (k + 1) new h
      results-more y h new s e = record {
        appends = record {
          results = p.appends.results ++ y ∷ [];
          calls = FoldsTo-push step f p.appends.results g y h p.appends.calls s;
          count = length-append p.appends.results (y ∷ []) ∙ ap (λ n. n + 1) p.appends.count;
          put = e ∙ ap (λ s. with_written s (s.items ++ y ∷ []) 1) p.appends.put ∙ written-twice old (old.items ++ p.appends.results) ((old.items ++ p.appends.results) ++ y ∷ []) k 1
              ∙ ap (λ zs. with_written old zs (k + 1)) (append_assoc old.items p.appends.results (y ∷ []));
        };
        more = next.1 y h s;
        room = omega (arith, p.room, few, ap (λ s. s.capacity) e, ap (λ s. length s.items) e, length-append mid.items (y ∷ []));
      }

-- all results were appended
pub results-all : {T A F : Type 0} (takes : F → Type 0) (step : F → T → F → Type 0) (total : ℕ) (old : Ringed T A) (f : F) (k : ℕ) (new : Ringed T A) (g : F) → k ≡ total → PushesResults takes step total old f k new g → AppendsResults step old total f g new
results-all takes step total old f k new g e p = subst (λ n. AppendsResults step old n f g new) e p.appends

-- in a ring that reserved capacity for them, from n items to m
pub results-roomy : {T A F : Type 0} (step : F → T → F → Type 0) (size : ℕ) (old mid new : Ringed T A) (n m : ℕ) (f g : F) → n ≡ length old.items → mid ≡ with_room size old (m - n) → AppendsResults step mid (m - n) f g new
    → AppendsResults step (with_room size old (m - length old.items)) (m - length old.items) f g new
results-roomy step size old mid new n m f g count room p =
    subst (λ k. AppendsResults step (with_room size old (m - k)) (m - k) f g new) count (subst (λ r. AppendsResults step r (m - n) f g new) room p)

pub ruleset filled = (nat_tests, copies-last, undone, copies-same)

pub ruleset resulting = (nat_tests, results-none, results-may, results-more)
