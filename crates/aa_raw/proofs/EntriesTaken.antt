-- One entry is taken out of those that are lent: a `&` to its key and a `&mut` to its value.
-- Assumes `Logic`.
--     takes_entry      from what borrowed entries own, and the token of their lifetime
use Rattle.aa_raw.proofs.Common.{ !, BodyAt as Body, Fml, GName, Goal, Incl, Incl-refl, Item, Laws, Lft, Lifetime, List, Logic, Member, MutRef, None, Option, PartsBack, RattleType, SemTy, Seq, Share, ShrRef, Soaks, Some, Ura, Val, [], align, arith, await, block_ptr, coded_list, done, each, emp, ent, fbor, feq_i, field_back, field_out, fjoin, fjoin3, flft, flt_i, fobs, fsep, fseps, ftrue, full_share, get_or, group, hide, id⊢, keep, later, length, length-set, lone, lose, mem, move, nothing, open_ref, param, param_laws, part_at, part_of, pick, qed, raw, refl, rewrite, sem, sep, slice_set, some, split, split3, subst, sym, ty_size as size, type_size, up, use0, use1, use2, vptr, ‵, ℕ, ◌$◌, ◌*◌, ◌+◌, ◌<◌, ◌^◌, ◌∵◌, ◌∷◌, ◌≡◌, ◌⊛◌}
use types.Follow.{after, after₂, takes_beside, takes_two}
use Rattle.aa_raw.proofs.Entries.{Held, back_at, kept, length-with_values, taken}
use Rattle.aa_raw.proofs.Spots.{around, lift_one, set_one}
use Rattle.aa_raw.specs.Entries.{Entry, Values, entries_owned, values_of, with_values}

module _ (K V : RattleType) where
  -- where the key and the value are in an entry
  abbrev pub key_at : ℕ
  key_at = up (align (lone K.mir)) 0

  abbrev pub value_at : ℕ
  value_at = up (align (lone V.mir)) (key_at + size (lone K.mir))

  abbrev ms : List Member
  ms = record { row = K; ty = lone K.mir } ∷ record { row = V; ty = lone V.mir } ∷ []

module _ (X Y : RattleType) (LX : Laws X) (LY : Laws Y) {M : Type 1} {𝓤 : Ura M} (𝓛 : Logic 𝓤)
    (b o : ℕ) (cs : List (Option (X.Denot × Y.Denot))) (i : ℕ) (within : i < length cs)
    (k : X.Denot) (v : Y.Denot) (is : get_or cs i None ≡ Some (k, v)) where
  abbrev K : RattleType
  K = param 0 X

  abbrev V : RattleType
  V = param 1 Y

  abbrev P : RattleType
  P = Entry K V

  abbrev at : ℕ
  at = i * type_size P + o

  abbrev held : List (Option (X.Denot × Y.Denot)) → Fml
  held ds = each (Held K V 𝓛 b o) 0 ds

  abbrev rest : List (Option (X.Denot × Y.Denot))
  rest = slice_set cs i None

  -- an entry with this key, as a type whose value is the entry's value
  abbrev One : SemTy
  One = record {
    rep = Y.Denot;
    coded = V.coded;
    size = 0;
    own_at = λ w _ _. part_at P full_share (k, w) b at;
  }

  abbrev with_one : Y.Denot → List Y.Denot → List Y.Denot
  with_one w ws = values_of (back_at cs i k ws w)

  mends : (w : Y.Denot) (ws : List Y.Denot)
      → ent 𝓤 (sep 𝓤 (sem 𝓛 (One.own_at w 0 0))
      (sep 𝓤 (sem 𝓛 (held (with_values rest ws))) (emp 𝓤)))
      (sem 𝓛 (held (with_values cs (with_one w ws))))
  mends w ws = let ds = with_values rest ws in
      let long : i < length ds = omega
      (arith, within, length-with_values rest ws, length-set cs i None) in
      qed 𝓛 (‵ (One.own_at w 0 0) ∷ ‵ (held ds) ∷ raw (emp 𝓤) ∷ []) ∵ move ! (1 ∷ []) $
      use1 𝓛 (‵ (Held K V 𝓛 b o i (get_or ds i None)) ⊛ ‵ (around 𝓛 (Held K V 𝓛 b o) ds i 1))
      (lift_one 𝓛 (Held K V 𝓛 b o) ds i long None) $ split ! $ lose ! $ move ! (1 ∷ 0 ∷ []) $
      use2 𝓛 (‵ (held (slice_set ds i (Some (k, w)))))
      (set_one 𝓛 (Held K V 𝓛 b o) ds i long (Some (k, w))) $
      rewrite ! 0 (λ (l : List (Option (X.Denot × Y.Denot))). ‵ (held l))
      (sym (taken cs i k v is ws w)) refl $ keep ! (0 ∷ []) $ done !

  abbrev Key : Fml
  Key = part_at K full_share k b (at + key_at K V)

  halves : ent 𝓤 (sem 𝓛 (part_at P full_share (k, v) b at))
      (sep 𝓤 (sem 𝓛 (part_at V full_share v b (at + value_at K V)))
      (sep 𝓤 (sem 𝓛 (fsep Key ftrue)) (PartsBack 𝓛 full_share [] (ms K V) b at)))
  unfolding part_of
  halves = field_out 𝓛 full_share [] (ms K V)
      ((param_laws 0 X LX).lawful 𝓛, ((param_laws 1 Y LY).lawful 𝓛, tt)) (k, (v, tt)) b at 1

  pub whole : (w : Y.Denot)
      → ent 𝓤 (sep 𝓤 (sem 𝓛 ((mem V).own_at w b (at + value_at K V)))
      (sep 𝓤 (sem 𝓛 (fseps (Key ∷ []))) (PartsBack 𝓛 full_share [] (ms K V) b at)))
      (sem 𝓛 (One.own_at w 0 0))
  unfolding part_of fseps
  whole w = field_back 𝓛 full_share [] (ms K V) (k, (w, tt)) b at 1

  module _ {N : Type 0} {Γ : List (Item 𝓤)} {G : Goal 𝓤 𝓛.H} where
    pub takes_entry : N → Soaks G → (ℓ : Lifetime) (κ : Lft) (q : Share) (γ : GName)
        → Incl κ X.lives → length cs * type_size P < 2 ^ 63
        → ((δ name : GName)
        → Seq N 𝓛 (‵ ((ShrRef ℓ κ K).own_val
        (record { ref_ptr = (b, at + key_at K V); now = k }) (vptr b (at + key_at K V) ∷ []))
        ∷ ‵ ((MutRef ℓ κ V).own_val
        (record { ref_ptr = (b, at + value_at K V); ghost_name = δ; now = v })
        (vptr b (at + value_at K V) ∷ []))
        ∷ ‵ (entries_owned K V κ (block_ptr b o) name rest) ∷ ‵ (flft κ q) ∷ Γ) G)
        → Seq N 𝓛 (‵ (fobs γ ((coded_list Y.coded).code (values_of cs)))
        ∷ ‵ (fbor κ (Body (Values K V b o cs) 0 0 γ)) ∷ ‵ (flft κ q) ∷ Γ) G
    unfolding fseps
    takes_entry t z ℓ κ q γ lives small next =
        let All = Values K V b o cs in let Left = Values K V b o rest in
        let was = (coded_list Y.coded).code (values_of cs) in let pk = at + key_at K V in
        let pv = at + value_at K V in
        open_ref t z All {x = values_of cs} {b = 0} {o = 0} $
        rewrite t 0 (λ (ds : List (Option (X.Denot × Y.Denot))). ‵ (held ds)) (kept cs) refl $
        use1 𝓛 (‵ (Held K V 𝓛 b o i (get_or cs i None)) ⊛ ‵ (around 𝓛 (Held K V 𝓛 b o) cs i 1))
        (lift_one 𝓛 (Held K V 𝓛 b o) cs i within None) $ split t $
        rewrite t 0 (λ (c : Option (X.Denot × Y.Denot)). ‵ (Held K V 𝓛 b o i c)) is refl $
        nothing t $ move t (0 ∷ 2 ∷ []) $
        use2 𝓛 (‵ (held rest)) (set_one 𝓛 (Held K V 𝓛 b o) cs i within None) $
        rewrite t 0 (λ (ds : List (Option (X.Denot × Y.Denot))). ‵ (held ds))
        (sym (kept rest)) refl $
        use0 𝓛 (raw (emp 𝓤)) (id⊢ 𝓤 (emp 𝓤)) $ move t (3 ∷ 4 ∷ 5 ∷ 2 ∷ 1 ∷ 0 ∷ []) $ group t 6 $
        use1 𝓛 (later (some
        (λ (γs : GName × GName).
        (‵ (fobs γs.0 (Y.coded.code v)) ⊛ ‵ (fbor κ (Body One 0 0 γs.0)))
        ⊛ (‵ (fobs γs.1 ((coded_list Y.coded).code (values_of rest)))
        ⊛ ‵ (fbor κ (Body Left 0 0 γs.1)))
        ⊛ ‵ (flft κ q) ⊛ ‵ (after₂ All One Left γ γs.0 γs.1 with_one))))
        (takes_two 𝓛 All One Left with_one κ q 0 0 0 0 0 0 γ (emp 𝓤) mends was was v
        (values_of rest)) $ await t z $ pick t (λ γs. split3 t $
        split t $ move t (3 ∷ []) $ split t $ move t (1 ∷ []) $ lose t $ move t (1 ∷ 2 ∷ 0 ∷ []) $
        open_ref t z One {x = v} {b = 0} {o = 0} $
        use1 𝓛 (‵ (part_at V full_share v b pv)
        ⊛ (‵ (fsep Key ftrue) ⊛ raw (PartsBack 𝓛 full_share [] (ms K V) b at))) halves $
        split t $ move t (1 ∷ []) $ split t $ move t (3 ∷ 4 ∷ 5 ∷ 2 ∷ 0 ∷ 1 ∷ []) $ group t 6 $
        use1 𝓛 (later (some
        (λ (δ : GName). ‵ (fobs δ (Y.coded.code v)) ⊛ ‵ (fbor κ (Body (mem V) b pv δ))
        ⊛ ‵ (flft κ q) ⊛ ‵ (after One (mem V) γs.0 δ (λ w. w)) ⊛ ‵ (fbor κ Key) ⊛ ‵ ftrue)))
        (takes_beside 𝓛 One (mem V) (λ w. w) κ q 0 0 b pv γs.0 (Key ∷ [])
        (PartsBack 𝓛 full_share [] (ms K V) b at) whole (Y.coded.code v) (Y.coded.code v) v) $
        await t z $ pick t (λ δ. split3 t $
        feq_i t (List Val) (vptr b pv ∷ []) (vptr b pv ∷ []) refl $ fjoin3 t $ move t (1 ∷ []) $
        split3 t $ move t (2 ∷ []) $ split t $ move t (0 ∷ 2 ∷ []) $
        use2 𝓛 (later (‵ (K.shr_at k b pk κ) ⊛ ‵ (flft κ q)))
        ((param_laws 0 X LX).shares 𝓛 k κ ((κ, q) ∷ []) b pk lives (Incl-refl κ)) $ await t z $
        split t $
        hide t $ feq_i t (List Val) (vptr b pk ∷ []) (vptr b pk ∷ []) refl $ fjoin t $
        move t (2 ∷ []) $ lose t $ move t (2 ∷ []) $ lose t $
        move t (3 ∷ []) $ split t $ fjoin t $ flt_i t (length rest * type_size P) (2 ^ 63)
        (subst (λ n. n * type_size P < 2 ^ 63) (sym (length-set cs i None)) small) $ fjoin t $
        move t (1 ∷ 3 ∷ 0 ∷ 2 ∷ []) $ next δ γs.1))
