-- What the walks of a rack's calls have in common. Assumes `Logic`.
--     reaches      a `&Rack` is a `&` to its inner allocator, and still one to the rack
--     Finds, finding      the contract of `shelf`, and the arguments of a call of it.        finds, found     what is passed to it, and what a caller has of it
pub use Rattle.aa_allocators.proofs.Pooling.{Shelved, passes_shelf}
use Rattle.aa_allocators.proofs.Pooling.{◌≡◌, ℕ, ◌<◌, ◌^◌, List, [], ◌∷◌, refl, ap, w64, Bor, Al, seen, Ura, named, Val, vint, vptr, Fml, Lft, ftrue, flft, SProp, ent, emp, sep, ◌⊑◌, fact, fact_i, ‵, raw, ◌⊛◌, some, later, ◌$◌, ◌∵◌, !, qed, move, keep, drop, use0, use1, use2, split, split3, join, fsplit, fjoin, feq_l, await, done, rewrite, Logic, sem, unhide, param, param_laws, ShrRef, shr_vals, nothing, only, heard, triple_of, inner_of}
use Rattle.aa_watched.proofs.Walk.{Share, Contract, Memory, Routine, Fun, ex, id⊢, updating, at_once, show, flt_i, feq_i, pick, hidden_shr, shr_dup, trues, ⊑_refl}
use base.Share
use types.Kit.{check}
use base.Logic.{guard}
use Rattle.aa_allocators.specs.contracts.rack.Rack as rack
use Rattle.aa_allocators.specs.contracts.rack.Rack.shelf as shelf
use Rattle.aa_allocators.specs.contracts.shelf.Shelf as kept
use Rattle.aa_allocators.proofs.rack.Rack.TheLaws.{the_row_laws}

module _ (Z : Al) where
  abbrev pub Racked : Lft → (rack.the_row Z.row Z.g).Denot → ℕ × ℕ → Fml
  Racked κ h at = hidden_shr (rack.the_row (param 0 Z.row) Z.g) κ h at.0 at.1

  pub reaches : {M : Type 1} {𝓤 : Ura M} (𝓛 : Logic 𝓤) (κ : Lft) (r : Bor (rack.the_row Z.row Z.g).Denot)
      → ent 𝓤 (sem 𝓛 ((ShrRef (named 0) κ (rack.the_row (param 0 Z.row) Z.g)).own_val r (shr_vals r)))
      (sep 𝓤 (sem 𝓛 (seen Z κ (inner_of Z r.ref_ptr) r.now.inner)) (sem 𝓛 (Racked κ r.now r.ref_ptr)))
  reaches 𝓛 κ r =
      qed 𝓛 (‵ ((ShrRef (named 0) κ (rack.the_row (param 0 Z.row) Z.g)).own_val r (shr_vals r)) ∷ []) ∵
      fsplit ! $ drop ! $ shr_dup ! (rack.the_row (param 0 Z.row) Z.g) (the_row_laws (param 0 Z.row) Z.g (param_laws 0 Z.row Z.laws)).shr_laws r.now r.ref_ptr.0 r.ref_ptr.1 κ $
      unhide ! $ fsplit ! $ fsplit ! $ keep ! (0 ∷ 3 ∷ []) $ done !

  module _ {M : Type 1} {𝓤 : Ura M} (𝓛 : Logic 𝓤) (at_mem : Memory → SProp 𝓤) (run : Routine → Fun 𝓤) where
    open 𝓛 use {H, A}

    abbrev pub Finds : Contract 𝓤
    Finds = triple_of 𝓛 (shelf.signature Z.row Z.g Z.d Z.drops) (shelf.spec Z.row Z.g Z.d Z.drops 𝓛 at_mem run)

    module _ (κ : Lft) (q : Share) (at : ℕ × ℕ) (h : (rack.the_row Z.row Z.g).Denot) (n : ℕ) where
      abbrev pub finding : Finds.Ghost
      finding = (((κ, (κ, tt)), (Share.left q, (Share.right q, tt)), (⊑_refl κ, tt), (record { ref_ptr = at; now = h }, (n, tt)), (vptr at.0 at.1 ∷ [], (vint w64 n ∷ [], tt))), tt)

      pub finds : κ ⊑ Z.row.lives → n < 2 ^ 64 → ent 𝓤 (sep 𝓤 (sem 𝓛 (Racked κ h at)) (A.lft κ q)) (Finds.pre finding)
      finds le fits =
          qed 𝓛 (‵ (Racked κ h at) ∷ ‵ (flft κ q) ∷ []) ∵ nothing ! $ use0 𝓛 (raw (fact 𝓤 (κ ⊑ Z.row.lives))) (fact_i 𝓤 (κ ⊑ Z.row.lives) (emp 𝓤) le) $ join ! $
          nothing ! $ flt_i ! n (2 ^ 64) fits $ feq_i ! (List Val) (vint w64 n ∷ []) (vint w64 n ∷ []) refl $ fjoin ! $ fjoin ! $
          move ! (2 ∷ []) $ feq_i ! (List Val) (vptr at.0 at.1 ∷ []) (vptr at.0 at.1 ∷ []) refl $ fjoin ! $ move ! (0 ∷ 1 ∷ []) $ fjoin ! $
          move ! (2 ∷ []) $ use1 𝓛 (‵ (flft κ (Share.left q)) ⊛ ‵ (flft κ (Share.right q))) (𝓛.lfts.lft_split κ q) $ split ! $ nothing ! $ move ! (2 ∷ 0 ∷ []) $ join ! $ move ! (1 ∷ 0 ∷ []) $ join ! $ join ! $ done !

      pub found : (v : Val) → ent 𝓤 (Finds.post finding v)
          (H.⇛ (ex 𝓤 (λ (p : ℕ × ℕ). guard 𝓤 (v ≡ vptr p.0 p.1) (sep 𝓤 (sem 𝓛 (seen (Shelved Z) κ p h.inner)) (A.lft κ q)))))
      found v =
          qed 𝓛 (raw (Finds.post finding v) ∷ []) ∵ updating ! $
          use1 𝓛 (later (some (λ (r : Bor Z.row.Denot). ((‵ (flft κ (Share.left q)) ⊛ ‵ (flft κ (Share.right q)) ⊛ ‵ ftrue)
          ⊛ ‵ ((ShrRef (named 0) κ (kept.the_row (param 0 Z.row) Z.g)).own_val r (v ∷ [])))
          ⊛ some (λ (ws : Unit {0} × (Unit {0} × Unit {0})). ‵ (trues 𝓛 2) ⊛ raw (fact 𝓤 (r.now ≡ h.inner)))))) (id⊢ 𝓤 _) $ await ! tt $ pick ! (λ r.
          split ! $ move ! (1 ∷ []) $ pick ! (λ ws. split ! $ drop ! $ heard ! (r.now ≡ h.inner) (λ same. split ! $ move ! (1 ∷ []) $ fsplit ! $ feq_l ! (λ e.
          move ! (1 ∷ []) $ split3 ! $ use2 𝓛 (‵ (flft κ q)) (𝓛.lfts.lft_join κ q) $ at_once ! $
          show ! (λ (p : ℕ × ℕ). guard 𝓤 (v ≡ vptr p.0 p.1) (sep 𝓤 (sem 𝓛 (seen (Shelved Z) κ p h.inner)) (A.lft κ q))) r.ref_ptr $
          check ! (ap only e) $ keep ! (2 ∷ 0 ∷ []) $
          rewrite ! 0 (λ (x : Z.row.Denot). ‵ (seen (Shelved Z) κ r.ref_ptr x)) same refl $ done !))))
