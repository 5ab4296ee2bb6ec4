-- The values of a slot map are lent: the map follows them, and its keys stay. Assumes `Logic`.
--     takes_apart      a slot map in memory is its values, its slots, and the rest
--     returns_whole    a slot map in memory is made again of its slots with other values
--     way_back         what closes the borrow of a slot map, once the values have been lent
use mathlib.Core.Path.{◌≡◌, refl, ap, sym, ◌∙◌}
use Prim.Native.Nat.{ℕ, ◌+◌}
use mathlib.Core.List.{List, [], ◌∷◌}
use seplogic.Ra.Ura.{Ura}
use base.Fraction.{full_share}
use base.Stored.{Gv}
use base.Logic.{SProp, ent, sep, emp, upd, upd_frame, upd_mono, via, id⊢}
use base.Fml.{Fml, GName, Lft, Share, ftrue, fdead, fsep, fseps, feq, fex, flent, flft, fobs, fauth, fbor}
use base.Share
use ghost.Rules.{aged}
use prog.Memory.{align, size, up}
use types.Logic.{Logic, sem}
use types.Kit.{Goal, Item, Seq, Soaks, Step, ‵, raw, ◌⊛◌, await, group, later, pick, some, split3, step, use0, ◌$◌, ◌∵◌, !, qed, by, move, keep, drop, use1, use2, use3, split, assume, fsplit, fjoin, fpick, fpack, feq_l, rewrite, done}
use types.Follow.{takes_part}
use types.Late.{ages, bor_new_deep, deep}
use types.Mut.{open_ref}
use types.SemTy.{SemTy, Body}
use types.Tokens.{name_new}
use denote.Builtin.{u64, unit}
use denote.Follow.{follows, came}
use denote.Memory.{lone, mem, part_at, part_of}
use denote.Model.Fields.{Plain-in, plain_out, view_made}
use denote.Param.{param}
use denote.Param.Laws.{Laws, of_field, param_laws}
use denote.Param.Shared.{copy_shared}
use denote.Plain.{uint_Lawful}
use denote.RattleType.{RattleType}
use denote.Struct.Field.{unit-field}
use denote.Struct.Laws.{unit-copy, unit-laws}
use denote.Struct.Members.{Member, parts_at}
use denote.Struct.Parts.{PartsBack}
use denote.Struct.Pick.{field_back, field_out}
use denote.Struct.Tuple.{tuple_laws}
use mir.Syntax.{w64}
use Rattle.core.specs.declared.alloc.Allocator as alloc
use Rattle.core.specs.contracts.marker.PhantomData as marker
use Rattle.core.specs.contracts.option.Option as option
use Rattle.core.proofs.marker.PhantomData.TheLaws as marker_laws
use Rattle.core.proofs.option.Option.TheLaws as option_laws
use Rattle.allocator_api2.specs.contracts.vec.Vec as vec
use Rattle.allocator_api2.proofs.vec.Vec.TheLaws as vec_laws
use Rattle.aa_raw.proofs.raw_vec.RawVec.TheLaws as block_laws
use Rattle.aa_raw.specs.Block.{with_places}
use Rattle.aa_raw.proofs.Entries.{length-with_values}
use Rattle.aa_raw.specs.Entries.{Entry, values_of, with_values}
use Rattle.aa_raw.specs.EntriesLends as block_lends
use Rattle.aa_raw.specs.contracts.raw_vec.RawVec as block
use Rattle.aa_raw.proofs.counter.Counter.TheLaws as counter_laws
use Rattle.aa_raw.specs.contracts.counter.Counter as counter
use Rattle.aa_raw.proofs.Rights.{Back, both_rights, closes_late}
use Rattle.aa_slots.proofs.Values.{read, same, stays-lent}
use Rattle.aa_slots.proofs.slots.Chain.TheLaws as chain_laws
use Rattle.aa_slots.proofs.slots.Slot.TheLaws as slot_laws
use Rattle.aa_slots.proofs.map.SlotMap.TheLaws as map_laws
use Rattle.aa_slots.specs.Inside.{blocks_of, capacity_of, seen, states_of}
use Rattle.aa_slots.specs.IterMutLends.{with_values_of}
use Rattle.aa_slots.specs.contracts.map.SlotMap as map
use Rattle.aa_slots.specs.contracts.map.SlotMap.TheInside as inside
use Rattle.aa_slots.specs.contracts.slots.Chain as chain
use Rattle.aa_slots.specs.contracts.slots.Slot as slot
use Rattle.aa_slots.specs.declared.map.SlotMap.TheView.{view, invariant}

-- the laws of `()`
pub unit_ok : Laws unit
unit_ok = of_field unit-field unit-laws refl (copy_shared unit-field unit-copy)

module _ (Y Z X : RattleType) (g : alloc.Ghosts Z.Denot) where
  abbrev pub V : RattleType
  V = param 0 Y

  abbrev pub A : RattleType
  A = param 1 Z

  abbrev pub C : RattleType
  C = param 2 X

  abbrev pub Mp : RattleType
  Mp = map.the_row V A C g

  abbrev pub In : RattleType
  In = inside.the_row V A C g

  abbrev pub Bk : RattleType
  Bk = block.the_row (Entry unit V) A g

  abbrev pub Ix : RattleType
  Ix = option.the_row (vec.the_row slot.the_row A g)

  abbrev pub D : Type 0
  D = Mp.Denot

  abbrev of_row : RattleType → Member
  of_row R = record { row = R; ty = lone R.mir }

  abbrev rest_ms : List Member
  rest_ms = of_row chain.the_row ∷ of_row u64 ∷ of_row counter.the_row ∷ of_row (marker.the_row C) ∷ []

  abbrev pub ms : List Member
  ms = of_row Bk ∷ of_row Ix ∷ rest_ms

  -- where the values and the slots are in a map
  abbrev pub block_at : ℕ
  block_at = up (align (lone Bk.mir)) 0

  abbrev pub index_at : ℕ
  index_at = up (align (lone Ix.mir)) (block_at + size (lone Bk.mir))

  abbrev pub Viewed : D → In.Denot → Type 0
  Viewed d a = (view Y.Denot Z.Denot X.Denot g a ≡ d) × invariant Y.Denot Z.Denot X.Denot g a

  -- the map `d` with the values of `u`
  abbrev pub following : D → D → D
  following d u = record { slots = with_values_of d.slots u.slots; capacity = d.capacity; growth = d.growth; resizes = d.resizes; issued = d.issued }

  -- a map that has the slots of `d`, with the values of its own value
  abbrev pub Followed : D → SemTy
  Followed d = record { rep = D; coded = Mp.coded; size = 0; own_at = λ u bl o. (mem Mp).own_at (following d u) bl o }

  itself : (d : D) → following d d ≡ d
  itself d = ap (λ ss. record { slots = ss; capacity = d.capacity; growth = d.growth; resizes = d.resizes; issued = d.issued }) (same d.slots)

  module _ (LY : Laws Y) (LZ : Laws Z) (LX : Laws X) {M : Type 1} {𝓤 : Ura M} (𝓛 : Logic 𝓤) (rb ro : ℕ) where
    open 𝓛 use {A as tokens}

    pub the_index_laws : Laws Ix
    the_index_laws = option_laws.the_row_laws (vec.the_row slot.the_row A g) (vec_laws.the_row_laws slot.the_row A g slot_laws.the_row_laws (param_laws 1 Z LZ))

    module _ (a : In.Denot) where
      abbrev pub Index : Fml
      Index = part_at Ix full_share a.slots rb (ro + index_at)

      abbrev pub Others : Fml
      Others = parts_at full_share rest_ms (index_at + size (lone Ix.mir)) (a.free, (a.issued, (a.moves, (a.kind, tt)))) rb ro

      abbrev pub Gaps : SProp 𝓤
      Gaps = PartsBack 𝓛 full_share [] ms rb ro

      pub takes_apart : ent 𝓤 (sem 𝓛 (part_at In full_share a rb ro)) (sep 𝓤 (sem 𝓛 (part_at Bk full_share a.values rb (ro + block_at))) (sep 𝓤 (sem 𝓛 (fsep Index Others)) Gaps))
      unfolding part_of
      takes_apart = field_out 𝓛 full_share [] ms (
        (block_laws.the_row_laws (Entry unit V) A g (tuple_laws (unit ∷ V ∷ []) (unit_ok, (param_laws 0 Y LY, tt))) (param_laws 1 Z LZ)).lawful 𝓛,
        (the_index_laws.lawful 𝓛, (chain_laws.the_row_laws.lawful 𝓛, (uint_Lawful 𝓛 w64, (counter_laws.the_row_laws.lawful 𝓛, ((marker_laws.the_row_laws C (param_laws 2 X LX)).lawful 𝓛, tt))))),
      )
          (a.values, (a.slots, (a.free, (a.issued, (a.moves, (a.kind, tt)))))) rb ro 0

      -- the map with these values in its places
      module _ (d : D) (viewed : Viewed d a) where
        abbrev pub written : List Y.Denot → Bk.Denot
        written ws = with_places a.values (with_values a.values.places ws)

        abbrev pub next : List Y.Denot → D
        next ws = record { slots = seen (states_of a.slots) (with_values a.values.places ws); capacity = capacity_of a.slots; growth = a.values.growth; resizes = blocks_of a.slots; issued = a.issued }

        fixed : (ws : List Y.Denot) → following d (next ws) ≡ next ws
        fixed ws = ap (λ (z : D). record { slots = with_values_of z.slots (next ws).slots; capacity = z.capacity; growth = z.growth; resizes = z.resizes; issued = z.issued }) (sym viewed.0)
            ∙ ap (λ ss. record { slots = ss; capacity = capacity_of a.slots; growth = a.values.growth; resizes = blocks_of a.slots; issued = a.issued }) (read (states_of a.slots) a.values.places ws)

        abbrev pub Whole : SemTy
        Whole = Followed d

        returns_whole : (ws : List Y.Denot) → ent 𝓤 (sep 𝓤 (sem 𝓛 (part_at Bk full_share (written ws) rb (ro + block_at))) (sep 𝓤 (sem 𝓛 (fsep Index Others)) Gaps)) (sem 𝓛 (Whole.own_at (next ws) rb ro))
        unfolding part_of
        returns_whole ws =
            let n : In.Denot = record { values = written ws; slots = a.slots; free = a.free; issued = a.issued; moves = a.moves; kind = a.kind } in
            qed 𝓛 (‵ (part_at Bk full_share (written ws) rb (ro + block_at)) ∷ ‵ (fsep Index Others) ∷ raw Gaps ∷ []) ∵
            use3 𝓛 (‵ (part_at In full_share n rb ro)) (field_back 𝓛 full_share [] ms (written ws, (a.slots, (a.free, (a.issued, (a.moves, (a.kind, tt)))))) rb ro 0) $
            use1 𝓛 (‵ ((mem Mp).own_at (next ws) rb ro)) (Plain-in Mp In (map_laws.the_opens V A C g) 𝓛 full_share (next ws) n
            (view_made In D Mp.coded (view Y.Denot Z.Denot X.Denot g) (invariant Y.Denot Z.Denot X.Denot g) 𝓛 (next ws) n (refl, (stays-lent viewed.1.0 ws, record { moved = viewed.1.1.moved; each = rw (length-with_values a.values.places ws) viewed.1.1.each; once = viewed.1.1.once; policy = viewed.1.1.policy }))) rb ro) $
            rewrite ! 0 (λ (u : D). ‵ ((mem Mp).own_at u rb ro)) (sym (fixed ws)) refl $ done !

        module _ (κ : Lft) (δ tie₀ tie : GName) (u : Gv) where
          abbrev pub Kept : Fml
          Kept = Body Whole rb ro tie

          abbrev pub Parts : Fml
          Parts = fsep (Body (mem Bk) rb (ro + block_at) δ) Index

          done_with : (ws : List Y.Denot) → ent 𝓤 (sep 𝓤 (sem 𝓛 (Whole.own_at (next ws) rb ro)) (sep 𝓤 (tokens.obs tie u) (tokens.auth tie u))) (upd 𝓤 (sem 𝓛 Kept))
          done_with ws = let n = next ws in let code = Mp.coded.code n in let Half = sep 𝓤 (tokens.obs tie code) (tokens.auth tie code) in
              qed 𝓛 (‵ (Whole.own_at n rb ro) ∷ ‵ (fobs tie u) ∷ ‵ (fauth tie u) ∷ []) ∵ move ! (1 ∷ 2 ∷ []) $
              use2 𝓛 (raw (upd 𝓤 Half)) (𝓛.names.name_set_upd tie u u code) $
              by ! (via 𝓤 (upd 𝓤 (sep 𝓤 Half (sem 𝓛 (Whole.own_at n rb ro)))) (upd_frame 𝓤 Half (sem 𝓛 (Whole.own_at n rb ro)))
              (upd_mono 𝓤 (qed 𝓛 ((‵ (fobs tie code) ⊛ ‵ (fauth tie code)) ∷ ‵ (Whole.own_at n rb ro) ∷ []) {P = sem 𝓛 Kept} (
              split ! $ drop ! $ move ! (1 ∷ 0 ∷ []) $ fjoin ! $ fpack ! D (λ t. fsep (Whole.own_at t rb ro) (fauth tie (Mp.coded.code t))) n $ done !))))

          pub way_back : ent 𝓤 (sep 𝓤 (sem 𝓛 (follows Bk Bk δ tie₀ (block_lends.with_values_of a.values))) (sep 𝓤 (sem 𝓛 Others) (sep 𝓤 Gaps (sep 𝓤 (tokens.obs tie u) (tokens.auth tie u))))) (sem 𝓛 (Back 𝓛 κ Kept Parts))
          unfolding fseps
          way_back = let F = block_lends.with_values_of a.values in
              qed 𝓛 (‵ (follows Bk Bk δ tie₀ F) ∷ ‵ Others ∷ raw Gaps ∷ ‵ (fobs tie u) ∷ ‵ (fauth tie u) ∷ []) ∵ assume ! (‵ (fsep (fdead κ) (fsep Parts ftrue))) $
              fsplit ! $ drop ! $ fsplit ! $ fsplit ! $ fpick ! (λ z. fsplit ! $ move ! (1 ∷ 4 ∷ []) $
              use2 𝓛 (‵ (fex Bk.Denot (λ y. fsep (feq Bk.Denot z (F y)) (fauth tie₀ (Bk.coded.code y))))) (came 𝓛 Bk Bk F δ tie₀ z) $ fpick ! (λ y. fsplit ! $ feq_l ! (λ is. drop ! $
              rewrite ! 0 (λ (t : Bk.Denot). ‵ ((mem Bk).own_at t rb (ro + block_at))) is refl $
              -- [the block; the slots; nothing; the rest; the gaps; the two halves of the name]
              move ! (1 ∷ 3 ∷ []) $ fjoin ! $ move ! (1 ∷ 0 ∷ 3 ∷ []) $
              use3 𝓛 (‵ (Whole.own_at (next (values_of y.places)) rb ro)) (returns_whole (values_of y.places)) $ move ! (0 ∷ 2 ∷ 3 ∷ []) $ keep ! (0 ∷ 1 ∷ 2 ∷ []) $ by ! (done_with (values_of y.places)))))

          module _ {N : Type 0} {Γ : List (Item 𝓤)} {G : Goal 𝓤 𝓛.H} where
            -- the open borrow is closed, and its token is whole again
            pub ends_lent : N → Soaks G → (n : ℕ) (q : Share) → Step N 𝓛 (‵ (flft κ q) ∷ Γ) G
                (‵ (follows Bk Bk δ tie₀ (block_lends.with_values_of a.values)) ∷ raw (aged 𝓤 𝓛.H 𝓛.A n κ (Share.left q) Kept) ∷ ‵ (flent (deep n κ) (Body (mem Bk) rb (ro + block_at) δ)) ∷ ‵ (flent (deep n κ) Index)
                ∷ ‵ Others ∷ raw Gaps ∷ ‵ (fobs tie u) ∷ ‵ (fauth tie u) ∷ ‵ (flft κ (Share.right q)) ∷ Γ) G
            ends_lent t z n q = step (λ s. move t (2 ∷ 3 ∷ []) $
                use2 𝓛 (later (‵ (flent (deep n κ) Parts))) (both_rights 𝓛 (deep n κ) (Body (mem Bk) rb (ro + block_at) δ) Index) $ await t z $ move t (1 ∷ 3 ∷ 4 ∷ 5 ∷ 6 ∷ []) $ group t 5 $
                use1 𝓛 (‵ (Back 𝓛 κ Kept Parts)) way_back $ move t (2 ∷ 1 ∷ 0 ∷ []) $ use3 𝓛 (later (‵ (flft κ (Share.left q)))) (closes_late 𝓛 n κ (Share.left q) Kept Parts) $ await t z $
                use2 𝓛 (‵ (flft κ q)) (𝓛.lfts.lft_join κ q) $ s)

    keeps : (d u : D) → ent 𝓤 (sep 𝓤 (sem 𝓛 ((Followed d).own_at u rb ro)) (emp 𝓤)) (sem 𝓛 ((mem Mp).own_at (following d u) rb ro))
    keeps d u = qed 𝓛 (‵ ((Followed d).own_at u rb ro) ∷ raw (emp 𝓤) ∷ []) ∵ keep ! (0 ∷ []) $ done !

    module _ {N : Type 0} {Γ : List (Item 𝓤)} {G : Goal 𝓤 𝓛.H} where
      -- [the name of the block and its borrow; half of the token; the borrow of the slots; the open borrow; the two rights; the rest and the gaps; the two halves of the tie; what the map follows]
      pub begins_lent : N → Soaks G → (κ : Lft) (q : Share) (γ : GName) (d : D)
          → ((a : In.Denot) (viewed : Viewed d a) (tie δ : GName) (n : ℕ)
          → Seq N 𝓛 (‵ (fobs δ (Bk.coded.code a.values)) ∷ ‵ (fbor κ (Body (mem Bk) rb (ro + block_at) δ)) ∷ ‵ (flft κ (Share.right q)) ∷ ‵ (fbor κ (Index a)) ∷ raw (aged 𝓤 𝓛.H 𝓛.A n κ (Share.left q) (Body (Followed d) rb ro tie))
          ∷ ‵ (flent (deep n κ) (Body (mem Bk) rb (ro + block_at) δ)) ∷ ‵ (flent (deep n κ) (Index a)) ∷ ‵ (Others a) ∷ raw (Gaps a) ∷ ‵ (fobs tie (Mp.coded.code d)) ∷ ‵ (fauth tie (Mp.coded.code d)) ∷ ‵ (follows Mp Mp γ tie (following d)) ∷ Γ) G)
          → Seq N 𝓛 (‵ (fobs γ (Mp.coded.code d)) ∷ ‵ (fbor κ (Body (mem Mp) rb ro γ)) ∷ ‵ (flft κ q) ∷ Γ) G
      begins_lent t z κ q γ d next = let c = Mp.coded.code d in
          open_ref t z (mem Mp) {x = d} {b = rb} {o = ro} $ rewrite t 0 (λ (u : D). ‵ ((mem Mp).own_at u rb ro)) (sym (itself d)) refl $ use0 𝓛 (raw (emp 𝓤)) (id⊢ 𝓤 (emp 𝓤)) $ move t (2 ∷ 3 ∷ 4 ∷ 1 ∷ 0 ∷ []) $ group t 5 $
          use1 𝓛 (later (some (λ (tie : GName). ‵ (fobs tie c) ⊛ ‵ (fbor κ (Body (Followed d) rb ro tie)) ⊛ ‵ (flft κ q) ⊛ ‵ (follows Mp Mp γ tie (following d)))))
          (takes_part 𝓛 (mem Mp) (Followed d) (following d) κ q rb ro rb ro γ (emp 𝓤) (keeps d) c c d) $ await t z $ pick t (λ tie.
          split3 t $ move t (2 ∷ []) $ split t $ use1 𝓛 (‵ (flft κ (Share.left q)) ⊛ ‵ (flft κ (Share.right q))) (𝓛.lfts.lft_split κ q) $ split t $ move t (3 ∷ 4 ∷ 0 ∷ []) $
          open_ref t z (Followed d) {x = d} {b = rb} {o = ro} $ rewrite t 0 (λ (u : D). ‵ ((mem Mp).own_at u rb ro)) (itself d) refl $
          use1 𝓛 (some (λ (x : (a : In.Denot) × Viewed d a). ‵ (part_at In full_share x.0 rb ro))) (plain_out Mp In (map_laws.the_opens V A C g) 𝓛 full_share d rb ro) $ pick t (λ x. let a = x.0 in
          use1 𝓛 (‵ (part_at Bk full_share a.values rb (ro + block_at)) ⊛ ‵ (fsep (Index a) (Others a)) ⊛ raw (Gaps a)) (takes_apart a) $ split3 t $ move t (3 ∷ []) $ ages t (λ n.
          name_new t z (Bk.coded.code a.values) (λ δ. move t (3 ∷ 1 ∷ []) $ fjoin t $ fpack t Bk.Denot (λ y. fsep ((mem Bk).own_at y rb (ro + block_at)) (fauth δ (Bk.coded.code y))) a.values $ bor_new_deep t z n κ $
          move t (4 ∷ []) $ fsplit t $ bor_new_deep t z n κ $ move t (5 ∷ 3 ∷ 10 ∷ 0 ∷ 6 ∷ 4 ∷ 1 ∷ 2 ∷ 7 ∷ 8 ∷ 9 ∷ 11 ∷ []) $ next a x.1 tie δ n))))
