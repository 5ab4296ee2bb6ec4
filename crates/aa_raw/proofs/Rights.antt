-- A borrow is closed by two rights of a lender. Assumes `Logic`.
--     both_rights      two rights are a right to both
--     closes_late      an open borrow is closed by a right, and the way back from what it is a right to
use Rattle.aa_raw.proofs.Common.{ !, Fml, Lft, Logic, Share, Ura, [], assume, await, by, done, emp, ent, fdead, fjoin, flent, flft, fsep, fseps, fsplit, ftrue, fupd, fwand, group, keep, later, lose as drop, move, now, qed, raw, sem, sep, snd∗, split, upd_i, updating, use0, use1, use3, wand, wand_i, ‵, ℕ, ◌$◌, ◌∵◌, ◌∷◌, ◌⊛◌}
use ghost.Rules.{aged}
use types.Late.{deep, close_deep}

module _ {M : Type 1} {𝓤 : Ura M} (𝓛 : Logic 𝓤) where
  open 𝓛 use {H, A}

  abbrev pub Back : Lft → Fml → Fml → Fml
  Back κ P Q = fwand (fsep (fdead κ) (fseps (Q ∷ []))) (fupd P)

  together : (κ : Lft) (P Q : Fml)
      → ent 𝓤 (emp 𝓤) (sem 𝓛 (fwand (fsep (fdead κ) (fseps (P ∷ Q ∷ []))) (fupd (fsep P Q))))
  unfolding fseps
  together κ P Q = qed 𝓛 [] ∵ assume ! (‵ (fsep (fdead κ) (fsep P (fsep Q ftrue)))) $ fsplit ! $
      drop ! $ fsplit ! $ move ! (1 ∷ []) $ fsplit ! $ keep ! (2 ∷ 0 ∷ []) $ fjoin ! $
      by ! (upd_i 𝓤 (sem 𝓛 (fsep P Q)))

  pub both_rights : (κ : Lft) (P Q : Fml)
      → ent 𝓤 (sep 𝓤 (A.lent κ P) (A.lent κ Q)) (H.⇛ (A.lent κ (fsep P Q)))
  both_rights κ P Q = qed 𝓛 (‵ (flent κ P) ∷ ‵ (flent κ Q) ∷ []) ∵ updating ! $
      use0 𝓛 (‵ (fwand (fsep (fdead κ) (fseps (P ∷ Q ∷ []))) (fupd (fsep P Q)))) (together κ P Q) $
      move ! (1 ∷ 2 ∷ 0 ∷ []) $
      use3 𝓛 (later (‵ (flent κ (fsep P Q)))) (𝓛.more.lent_join κ (fsep P Q) P Q) $ await ! tt $
      now ! $ done !

  pub closes_late : (n : ℕ) (κ : Lft) (q : Share) (P Q : Fml)
      → ent 𝓤 (sep 𝓤 (aged 𝓤 H A n κ q P) (sep 𝓤 (A.lent (deep n κ) Q) (sem 𝓛 (Back κ P Q))))
      (H.⇛ (A.lft κ q))
  closes_late n κ q P Q =
      qed 𝓛 (raw (aged 𝓤 H A n κ q P) ∷ ‵ (flent (deep n κ) Q) ∷ ‵ (Back κ P Q) ∷ []) ∵ updating ! $
      use0 𝓛 (raw (wand 𝓤 (A.dead κ) (A.dead κ)))
      (wand_i 𝓤 (emp 𝓤) (A.dead κ) (A.dead κ) (snd∗ 𝓤 (emp 𝓤) (A.dead κ))) $
      move ! (1 ∷ 2 ∷ 3 ∷ 0 ∷ []) $ group ! 4 $
      use1 𝓛 (later (‵ (flft κ q) ⊛ raw (wand 𝓤 (A.dead κ) (A.bor κ P))))
      (close_deep 𝓛 n κ κ q P Q) $ await ! tt $ split ! $ now ! $ keep ! (0 ∷ []) $ done !
