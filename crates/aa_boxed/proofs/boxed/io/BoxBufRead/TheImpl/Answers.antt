-- What `fill_buf` ensures of the final state of a box implies what its trait requires.
use Rattle.aa_boxed.proofs.{FillKeeps, GName, IfOk, IfSome, Logic, RattleType, SProp, StartsWith, Turns, Ura, [], all, all_i, emp, emp∗, ent, ex, ex_e, ex_i, fact, follows_if, follows_so, length, mono_r, none, param, sem, sep, snd∗, such_by, the_row, via, wand, wand_i, ⊤, ◌≡◌}
use Rattle.aa_boxed.proofs.boxed.io.BoxBufRead.TheImpl.Goals as goal

module _ {M : Type 1} {𝓤 : Ura M} (𝓛 : Logic 𝓤) (R : RattleType) (γ : GName) where
  -- less may be said of the final state of a lender
  said-less : (P Q : R.Denot → Type 0) → ((x : R.Denot) → P x → Q x)
      → ent 𝓤 (sem 𝓛 (follows_so R R γ none (λ _ _. ⊤) P))
      (sem 𝓛 (follows_so R R γ none (λ _ _. ⊤) Q))
  unfolding such_by
  said-less P Q f = ex_e 𝓤 _ (λ s.
      ex_i 𝓤 (λ (t : (s : (R.Denot → R.Denot) × R.Denot) × ((w : R.Denot) → ⊤) × Q s.1). sem 𝓛
      (follows_if R R γ none t.0.0 t.0.1)) (s.0, s.1, f s.0.1 s.2))

  module _ {S X : Type 0} (F E : S → Type 0) where
    -- two facts of the result, and one of the final state of the lender
    abbrev LowerIs : (S → R.Denot → Type 0) → S → X → SProp 𝓤
    LowerIs P r e = sep 𝓤 (fact 𝓤 (F r))
        (sep 𝓤 (fact 𝓤 (E r)) (sem 𝓛 (follows_so R R γ none (λ _ _. ⊤) (P r))))

    tells-less : (P Q : S → R.Denot → Type 0) → ((r : S) (x : R.Denot) → P r x → Q r x)
        → ent 𝓤 (emp 𝓤) (ex 𝓤
        (λ (g : Unit {0}). sep 𝓤 (emp 𝓤) (Turns 𝓤 S X (LowerIs P) (LowerIs Q))))
    tells-less P Q f =
        let D = LowerIs P in let D' = LowerIs Q in let W : SProp 𝓤 = Turns 𝓤 S X D D' in
        let less : (r : S) (e : X) → ent 𝓤 (D r e) (D' r e) = λ r e.
        mono_r 𝓤 (fact 𝓤 (F r)) (mono_r 𝓤 (fact 𝓤 (E r)) (said-less (P r) (Q r) (f r))) in
        let kept : ent 𝓤 (emp 𝓤) W = all_i 𝓤 (λ (r : S). all 𝓤 (λ (e : X). wand 𝓤 (D r e) (D' r e)))
        (λ r. all_i 𝓤 (λ (e : X). wand 𝓤 (D r e) (D' r e)) (λ e.
        wand_i 𝓤 (emp 𝓤) (D r e) (D' r e) (via 𝓤 (D r e) (snd∗ 𝓤 (emp 𝓤) (D r e)) (less r e)))) in
        via 𝓤 (sep 𝓤 (emp 𝓤) W) (via 𝓤 W kept (emp∗ 𝓤 W))
        (ex_i 𝓤 (λ (g : Unit {0}). sep 𝓤 (emp 𝓤) W) tt)

pub fill_buf-meets : goal.fill_buf-meets
fill_buf-meets g c =
    let old = c.args.self.now in let known = g.B.Read.remaining old.value in
    tells-less g.world.𝓛 (the_row (param 0 g.row.B) (param 1 g.row.A) g.A.Allocator)
    c.args.self.ghost_name
    (λ r. IfSome known (λ xs. IfOk r (λ s. StartsWith xs s.now)))
    (λ r. IfSome known (λ xs. IfOk r (λ s. length s.now ≡ 0 → xs ≡ [])))
    (λ r new. FillKeeps known (g.B.Read.remaining new.value) (g.B.BufRead.consumable_len new.value)
    r × (new.alloc ≡ old.alloc))
    (λ r new. FillKeeps known (g.B.Read.remaining new.value) (g.B.BufRead.consumable_len new.value)
    r)
    (λ r new p. p.0)
