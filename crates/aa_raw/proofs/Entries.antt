-- Borrowed entries: the values of places, and how places are cut into entries and room. Assumes
-- `Logic` where it speaks of memory.
--     kept, refilled      places keep their own values;  the values of refilled places refill them so again
--     taken               what the entries are once one of them has come back with another value
use Rattle.aa_raw.proofs.Common.{ !, Fml, List, Logic, None, Option, RattleType, Some, Ura, [], ap, done, each, ent, fjoin, froom, fsep, fsplit, ftrue, get_or, keep, length, lone, move, nothing, place_owns, qed, raw_ty as raw, refl, same_Some, sem, sep, slice_set, split, suc, type_size, use1, use2, zero, ‵, ℕ, ◌$◌, ◌*◌, ◌+◌, ◌∙◌, ◌∵◌, ◌∷◌, ◌≡◌, ◌⊛◌}
use Rattle.aa_raw.specs.Entries.{Entry, entry_owns, values_of, with_values}

module _ {K V : Type 0} where
  pub kept : (cs : List (Option (K × V))) → with_values cs (values_of cs) ≡ cs
  kept [] = refl
  kept (None ∷ cs) = ap (λ ds. None ∷ ds) (kept cs)
  kept (Some e ∷ cs) = ap (λ ds. Some e ∷ ds) (kept cs)

  pub refilled : (cs : List (Option (K × V))) (ws : List V)
      → with_values cs (values_of (with_values cs ws)) ≡ with_values cs ws
  refilled [] ws = refl
  refilled (None ∷ cs) ws = ap (λ ds. None ∷ ds) (refilled cs ws)
  refilled (Some e ∷ cs) [] = ap (λ ds. Some e ∷ ds) (refilled cs [])
  refilled (Some e ∷ cs) (w ∷ ws) = ap (λ ds. Some (e.0, w) ∷ ds) (refilled cs ws)

  pub length-with_values : (cs : List (Option (K × V))) (ws : List V) → length (with_values cs ws)
      ≡ length cs
  length-with_values [] ws = refl
  length-with_values (None ∷ cs) ws = ap suc (length-with_values cs ws)
  length-with_values (Some e ∷ cs) [] = ap suc (length-with_values cs [])
  length-with_values (Some e ∷ cs) (w ∷ ws) = ap suc (length-with_values cs ws)

  -- the places where the i-th is out, and has come back
  abbrev pub back_at : List (Option (K × V)) → ℕ → K → List V → V → List (Option (K × V))
  back_at cs i k ws w = slice_set (with_values (slice_set cs i None) ws) i (Some (k, w))

  pub taken : (cs : List (Option (K × V))) (i : ℕ) (k : K) (v : V) → get_or cs i None ≡ Some (k, v)
      → (ws : List V) (w : V) → with_values cs (values_of (back_at cs i k ws w))
      ≡ back_at cs i k ws w
  taken [] i k v is ws w = refl
  taken (None ∷ cs) zero k v is ws w = cc
  taken (Some e ∷ cs) zero k v is ws w = ap (λ ds. Some (e.0, w) ∷ ds) (refilled cs ws)
      ∙ ap (λ (p : K × V). Some (p.0, w) ∷ with_values cs ws) (same_Some e (k, v) is)
  taken (None ∷ cs) (suc i) k v is ws w = ap (λ ds. None ∷ ds) (taken cs i k v is ws w)
  taken (Some e ∷ cs) (suc i) k v is [] w = ap (λ ds. Some e ∷ ds) (taken cs i k v is [] w)
  taken (Some e ∷ cs) (suc i) k v is (x ∷ ws) w =
      ap (λ ds. Some (e.0, x) ∷ ds) (taken cs i k v is ws w)

-- Assumes `Logic`.
module _ (K V : RattleType) where
  -- the room of an empty place
  abbrev pub room_owns : (b o : ℕ) → ℕ → Option (K.Denot × V.Denot) → Fml
  room_owns b o i None = froom (raw (lone (Entry K V).mir)) b (i * type_size (Entry K V) + o)
  room_owns b o i (Some e) = ftrue

module _ (K V : RattleType) {M : Type 1} {𝓤 : Ura M} (𝓛 : Logic 𝓤) (b o : ℕ) where
  abbrev pub Spot : ℕ → Option (K.Denot × V.Denot) → Fml
  Spot = place_owns (Entry K V) b o

  abbrev pub Held : ℕ → Option (K.Denot × V.Denot) → Fml
  Held = entry_owns K V b o

  abbrev pub Room : ℕ → Option (K.Denot × V.Denot) → Fml
  Room = room_owns K V b o

  pub entries_out : (cs : List (Option (K.Denot × V.Denot))) (i : ℕ)
      → ent 𝓤 (sem 𝓛 (each Spot i cs)) (sep 𝓤 (sem 𝓛 (each Held i cs)) (sem 𝓛 (each Room i cs)))
  entries_out [] i = qed 𝓛 (‵ ftrue ∷ []) ∵ nothing ! $ done !
  entries_out (None ∷ cs) i = qed 𝓛 (‵ (each Spot i (None ∷ cs)) ∷ []) ∵ fsplit ! $
      move ! (1 ∷ []) $
      use1 𝓛 (‵ (each Held (suc i) cs) ⊛ ‵ (each Room (suc i) cs)) (entries_out cs (suc i)) $
      split ! $ move ! (2 ∷ 1 ∷ []) $ fjoin ! $ move ! (1 ∷ []) $ nothing ! $ fjoin ! $ done !
  entries_out (Some e ∷ cs) i = qed 𝓛 (‵ (each Spot i (Some e ∷ cs)) ∷ []) ∵ fsplit ! $
      move ! (1 ∷ []) $
      use1 𝓛 (‵ (each Held (suc i) cs) ⊛ ‵ (each Room (suc i) cs)) (entries_out cs (suc i)) $
      split ! $ move ! (2 ∷ 0 ∷ []) $ fjoin ! $ move ! (1 ∷ []) $ nothing ! $ fjoin ! $
      move ! (1 ∷ 0 ∷ []) $ done !

  pub entries_in : (cs : List (Option (K.Denot × V.Denot))) (ws : List V.Denot) (i : ℕ)
      → ent 𝓤 (sep 𝓤 (sem 𝓛 (each Held i (with_values cs ws))) (sem 𝓛 (each Room i cs)))
      (sem 𝓛 (each Spot i (with_values cs ws)))
  entries_in [] ws i = qed 𝓛 (‵ ftrue ∷ ‵ ftrue ∷ []) ∵ keep ! (0 ∷ []) $ done !
  entries_in (None ∷ cs) ws i =
      qed 𝓛 (‵ (fsep ftrue (each Held (suc i) (with_values cs ws))) ∷ ‵ (each Room i (None ∷ cs))
      ∷ []) ∵ fsplit ! $ move ! (2 ∷ []) $ fsplit ! $ move ! (3 ∷ 1 ∷ []) $
      use2 𝓛 (‵ (each Spot (suc i) (with_values cs ws))) (entries_in cs ws (suc i)) $
      keep ! (1 ∷ 0 ∷ []) $ fjoin ! $ done !
  entries_in (Some e ∷ cs) [] i =
      qed 𝓛 (‵ (each Held i (Some e ∷ with_values cs [])) ∷ ‵ (fsep ftrue (each Room (suc i) cs))
      ∷ []) ∵ fsplit ! $ move ! (2 ∷ []) $ fsplit ! $ move ! (3 ∷ 1 ∷ []) $
      use2 𝓛 (‵ (each Spot (suc i) (with_values cs []))) (entries_in cs [] (suc i)) $
      keep ! (2 ∷ 0 ∷ []) $ fjoin ! $ done !
  entries_in (Some e ∷ cs) (w ∷ ws) i =
      qed 𝓛 (‵ (each Held i (Some (e.0, w) ∷ with_values cs ws))
      ∷ ‵ (fsep ftrue (each Room (suc i) cs)) ∷ []) ∵ fsplit ! $ move ! (2 ∷ []) $ fsplit ! $
      move ! (3 ∷ 1 ∷ []) $
      use2 𝓛 (‵ (each Spot (suc i) (with_values cs ws))) (entries_in cs ws (suc i)) $
      keep ! (2 ∷ 0 ∷ []) $ fjoin ! $ done !
