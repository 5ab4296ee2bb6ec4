-- Clones of one item that are appended to a small vector, and removed again where one fails.
use Rattle.std.proofs.Common.{◌≡◌, ℕ, ◌+◌, ◌-◌, ◌<◌, List, [], ◌∷◌, ◌++◌, length, take, sym, subst, ap, ◌∙◌, arith, append_assoc}
use Rattle.std.specs.Prelude.{replicate}
use Rattle.std.specs.List.{AllZip}
use Rattle.std.proofs.lemmas.Bool.Decides.{nat_tests}
use Rattle.std.proofs.lemmas.List.{append-nil, length-replicate, replicate-append-replicate, take_all}
use Rattle.std.proofs.lemmas.List.Elements.{AllZip-push, same_from_all_zip}
use Rattle.aa_inline.specs.Extending.{AppendsClones, AppendsCopies, AppendsPart, RolledBack}
use Rattle.aa_inline.specs.Inlined.{Inlined, HasRoom, with_items, with_written}
use Rattle.aa_inline.proofs.Extending.{room-with_written, undone, with_written-none, with_written-with_written}

-- one clone more of `x`
replicate-more : {T : Type 0} (k : ℕ) (x : T) → replicate (k + 1) x ≡ replicate k x ++ x ∷ []
replicate-more k x = sym (replicate-append-replicate k 1 x)

module _ {T A : Type 0} where
  -- so many clones of `x` were appended, and `n` in all fit
  abbrev pub PushesSame : (N : ℕ) (clones : T → T → Type 0) (x : T) (n : ℕ) (old : Inlined T A) (k : ℕ) (new : Inlined T A) → Type 0
  PushesSame N clones x n old k new =
      (added : List T) × AllZip clones (replicate k x) added × (new ≡ with_written old (old.items ++ added) k) × HasRoom N new (n - k)

  module _ (N : ℕ) (clones : T → T → Type 0) (x : T) (n : ℕ) (old : Inlined T A) where
    pub same-none : HasRoom N old n → PushesSame N clones x n old 0 old
    same-none room = ([], tt, sym (with_written-none old) ∙ ap (λ xs. with_written old xs 0) (sym (append-nil old.items)), omega (arith, room))

    pub same-more : (k : ℕ) (mid new : Inlined T A) (y : T) → k < n → PushesSame N clones x n old k mid → clones x y → new ≡ with_written mid (mid.items ++ y ∷ []) 1 → PushesSame N clones x n old (k + 1) new
    same-more k mid new y few p c e = (
      p.0 ++ y ∷ [],
      subst (λ l. AllZip clones l (p.0 ++ y ∷ [])) (sym (replicate-more k x)) (AllZip-push clones (replicate k x) p.0 x y p.1 c),
      e ∙ ap (λ s. with_written s (s.items ++ y ∷ []) 1) p.2 ∙ with_written-with_written old (old.items ++ p.0) ((old.items ++ p.0) ++ y ∷ []) k 1 ∙ ap (λ zs. with_written old zs (k + 1)) (append_assoc old.items p.0 (y ∷ [])),
      rw e (room-with_written N mid y n k few p.3),
    )

  -- and `x` itself
  pub copies-last : (clones : T → T → Type 0) (old mid new : Inlined T A) (k : ℕ) (x : T) → 0 < k → AppendsClones clones old (replicate (k - 1) x) mid → new ≡ with_written mid (mid.items ++ x ∷ []) 1
      → AppendsCopies clones old k x new
  copies-last clones old mid new k x some p e =
      let n : length (replicate (k - 1) x) + 1 ≡ k = omega (arith, length-replicate (k - 1) x) in
      record {
        added = p.added;
        each = p.each;
        put = e ∙ ap (λ s. with_written s (s.items ++ x ∷ []) 1) p.put ∙ with_written-with_written old (old.items ++ p.added) ((old.items ++ p.added) ++ x ∷ []) (length (replicate (k - 1) x)) 1
            ∙ (λ t. with_written old (append_assoc old.items p.added (x ∷ []) t) (n t));
      }

  -- or what was appended is removed again
  pub copies-undone : (old mid new : Inlined T A) (n m len : ℕ) → AppendsPart old n mid → n < m → len ≡ length old.items → new ≡ with_items mid (take len mid.items) → RolledBack old m new
  copies-undone old mid new n m len p few at e =
      record { done = p.done; fewer = omega (arith, p.fewer, few); put = undone old mid new p.added p.done p.put (e ∙ ap (λ k. with_items mid (take k mid.items)) at) }

  -- clones that are equal
  pub copies-same : (clones : T → T → Type 0) (old roomy new : Inlined T A) (n : ℕ) (x : T) → roomy.items ≡ old.items → length old.items < n → ((a b : T) → clones a b → b ≡ a)
      → AppendsCopies clones roomy (n - length old.items) x new → new ≡ with_written roomy (take n old.items ++ replicate (n - length old.items) x) (n - length old.items)
  copies-same clones old roomy new n x same few equal p =
      let k : ℕ = n - length old.items in let next : k - 1 + 1 ≡ k = omega arith in
      let added : p.added ≡ replicate (k - 1) x = same_from_all_zip clones (replicate (k - 1) x) p.added p.each equal in
      let all : p.added ++ x ∷ [] ≡ replicate k x = ap (λ ys. ys ++ x ∷ []) added ∙ sym (replicate-more (k - 1) x) ∙ ap (λ m. replicate m x) next in
      let front : roomy.items ≡ take n old.items = same ∙ sym (take_all n old.items (omega arith)) in
      p.put ∙ (λ t. with_written roomy (front t ++ all t) k)

pub ruleset filled = (nat_tests, length-replicate, copies-last, copies-undone, copies-same)
