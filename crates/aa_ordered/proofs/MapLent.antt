-- The values of a map are lent: the map follows them, and its keys stay. Assumes `Logic`.
--     takes_apart      a map in memory is its arena and its length
--     returns_whole    a map in memory is made again of its block with other values
--     way_back         what closes the borrow of a map, once the values have been lent
use mathlib.Core.Path.{◌≡◌, refl, ap, sym, ◌∙◌}
use Prim.Native.Nat.{ℕ, ◌+◌}
use mathlib.Core.List.{List, [], ◌∷◌}
use seplogic.Ra.Ura.{Ura}
use base.Fraction.{full_share}
use base.Stored.{Gv}
use base.Logic.{SProp, ent, sep, emp, upd, upd_frame, upd_mono, via, id⊢}
use base.Fml.{Fml, GName, Lft, Share, ftrue, fdead, fsep, fseps, feq, fex, flent, flft, fobs, fauth, fbor}
use base.Share
use ghost.Rules.{aged}
use prog.Memory.{align, size, up}
use types.Logic.{Logic, sem}
use types.Kit.{Goal, Item, Seq, Soaks, Step, ‵, raw, ◌⊛◌, await, group, later, pick, some, split3, step, use0, ◌$◌, ◌∵◌, !, qed, by, move, keep, drop, use1, use2, use3, split, assume, fsplit, fjoin, fpick, fpack, feq_l, rewrite, done}
use types.Follow.{takes_part}
use types.Late.{ages, bor_new_deep, deep}
use types.Mut.{open_ref}
use types.SemTy.{SemTy, Body}
use types.Tokens.{name_new}
use denote.Builtin.{usize}
use denote.Follow.{follows, came}
use denote.Memory.{lone, mem, part_at, part_of}
use denote.Model.Fields.{Plain-in, plain_out, view_made}
use denote.Param.Laws.{Laws, param_laws}
use denote.Plain.{uint_Lawful}
use denote.RattleType.{RattleType}
use denote.Struct.Members.{Member, parts_at}
use denote.Struct.Parts.{PartsBack}
use denote.Struct.Pick.{field_back, field_out}
use denote.Struct.Tuple.{tuple_laws}
use mir.Syntax.{w64}
use Rattle.core.specs.declared.alloc.Allocator as alloc
use Rattle.aa_raw.specs.Entries.{Entry, values_of}
use Rattle.aa_raw.specs.EntriesLends as block_lends
use Rattle.aa_raw.proofs.Rights.{Back, both_rights, closes_late}
use Rattle.aa_ordered.proofs.ArenaLent.{A, Ar, Bk, In, K, V, block_at, following as arena_following, Gaps as arena_gaps, Index, Others as arena_others, Viewed as arena_viewed, next as arena_next, returns_whole as arena_returns, takes_apart as arena_apart, written}
use Rattle.aa_ordered.proofs.Revalued.{read-map, same, stays-map}
use Rattle.aa_ordered.proofs.leaves.Leaves.TheLaws as arena_laws
use Rattle.aa_ordered.specs.IterLends.{with_values_of}
use Rattle.aa_ordered.specs.Leaves.{items}
use Rattle.core.specs.declared.cmp.Ord as ord
use Rattle.core.specs.declared.cmp.PartialEq as eq
use Rattle.core.specs.declared.cmp.PartialOrd as po
use Rattle.aa_ordered.proofs.map.OrderedMap.TheLaws as map_laws
use Rattle.aa_ordered.specs.contracts.map.OrderedMap as ordered
use Rattle.aa_ordered.specs.contracts.map.OrderedMap.TheInside as inside
use Rattle.aa_ordered.specs.declared.map.OrderedMap.TheView.{view, invariant}

module _ (X Y Z : RattleType) (co : ord.Ghosts X.Denot) (ce : eq.Ghosts X.Denot) (cp : po.Ghosts X.Denot) (g : alloc.Ghosts Z.Denot) where
  abbrev pub Mp : RattleType
  Mp = ordered.the_row (K X Y Z g) (V X Y Z g) (A X Y Z g) co ce cp g

  abbrev pub InM : RattleType
  InM = inside.the_row (K X Y Z g) (V X Y Z g) (A X Y Z g) co ce cp g

  abbrev pub D : Type 0
  D = Mp.Denot

  abbrev of_row : RattleType → Member
  of_row R = record { row = R; ty = lone R.mir }

  abbrev rest_ms : List Member
  rest_ms = of_row usize ∷ []

  abbrev pub ms : List Member
  ms = of_row (Ar X Y Z g) ∷ rest_ms

  -- where the arena is in a map, and its block and its heads
  abbrev pub leaves_at : ℕ
  leaves_at = up (align (lone (Ar X Y Z g).mir)) 0

  abbrev pub Viewed : D → InM.Denot → Type 0
  Viewed d m = (view X.Denot Y.Denot Z.Denot co ce cp g m ≡ d) × invariant X.Denot Y.Denot Z.Denot co ce cp g m

  -- a map with the value `d`, its fields, and those of its arena
  abbrev pub Opened : D → Type 0
  Opened d = (m : InM.Denot) × Viewed d m × ((a : (In X Y Z g).Denot) × arena_viewed X Y Z g m.leaves a)

  -- the map `d` with the values of `u`
  abbrev pub following : D → D → D
  following d u = record d { entries = with_values_of d.entries u.entries }

  -- a map that has the keys of `d`, with the values of its own value
  abbrev pub Followed : D → SemTy
  Followed d = record { rep = D; coded = Mp.coded; size = 0; own_at = λ u bl o. (mem Mp).own_at (following d u) bl o }

  itself : (d : D) → following d d ≡ d
  itself d = ap (λ es. record d { entries = es }) (same d.entries)

  module _ (LX : Laws X) (LY : Laws Y) (LZ : Laws Z) {M : Type 1} {𝓤 : Ura M} (𝓛 : Logic 𝓤) (rb ro : ℕ) where
    open 𝓛 use {A as tokens}

    abbrev pub ao : ℕ
    ao = ro + leaves_at

    the_arena_laws : Laws (Ar X Y Z g)
    the_arena_laws = arena_laws.the_row_laws (Entry (K X Y Z g) (V X Y Z g)) (A X Y Z g) g (tuple_laws (K X Y Z g ∷ V X Y Z g ∷ []) (param_laws 0 X LX, (param_laws 1 Y LY, tt))) (param_laws 2 Z LZ)

    abbrev pub MapOthers : InM.Denot → Fml
    MapOthers m = parts_at full_share rest_ms (leaves_at + size (lone (Ar X Y Z g).mir)) (m.len, tt) rb ro

    abbrev pub MapGaps : SProp 𝓤
    MapGaps = PartsBack 𝓛 full_share [] ms rb ro

    pub takes_apart : (m : InM.Denot) → ent 𝓤 (sem 𝓛 (part_at InM full_share m rb ro)) (sep 𝓤 (sem 𝓛 (part_at (Ar X Y Z g) full_share m.leaves rb ao)) (sep 𝓤 (sem 𝓛 (MapOthers m)) MapGaps))
    unfolding part_of
    takes_apart m = field_out 𝓛 full_share [] ms (the_arena_laws.lawful 𝓛, (uint_Lawful 𝓛 w64, tt)) (m.leaves, (m.len, tt)) rb ro 0

    module _ (d : D) (x : Opened d) where
      abbrev m : InM.Denot
      m = x.0

      abbrev a : (In X Y Z g).Denot
      a = x.2.0

      abbrev pub Heads : Fml
      Heads = Index X Y Z g LX LY LZ 𝓛 rb ao a

      abbrev pub Others : Fml
      Others = arena_others X Y Z g LX LY LZ 𝓛 rb ao a

      abbrev pub Gaps : SProp 𝓤
      Gaps = sep 𝓤 (arena_gaps X Y Z g LX LY LZ 𝓛 rb ao a) (sep 𝓤 (sem 𝓛 (MapOthers m)) MapGaps)

      -- the map with these values in the places of its block
      abbrev arena_with : List Y.Denot → (Ar X Y Z g).Denot
      arena_with ws = arena_following X Y Z g m.leaves (arena_next X Y Z g LX LY LZ 𝓛 rb ao a m.leaves x.2.1 ws)

      abbrev pub next : List Y.Denot → D
      next ws = view X.Denot Y.Denot Z.Denot co ce cp g (record { leaves = arena_with ws; len = m.len })

      fixed : (ws : List Y.Denot) → following d (next ws) ≡ next ws
      fixed ws = ap (λ (z : D). record z { entries = with_values_of z.entries (next ws).entries }) (sym x.1.0)
          ∙ ap (λ es. record { entries = es; capacity = (next ws).capacity; resizes = (next ws).resizes }) (read-map m.leaves.lists (items (arena_next X Y Z g LX LY LZ 𝓛 rb ao a m.leaves x.2.1 ws)))

      abbrev pub Whole : SemTy
      Whole = Followed d

      abbrev pub written_block : List Y.Denot → (Bk X Y Z g).Denot
      written_block ws = written X Y Z g LX LY LZ 𝓛 rb ao a m.leaves x.2.1 ws

      returns_whole : (ws : List Y.Denot) → ent 𝓤 (sep 𝓤 (sem 𝓛 (part_at (Bk X Y Z g) full_share (written_block ws) rb (ao + block_at X Y Z g))) (sep 𝓤 (sem 𝓛 (fsep Heads Others)) Gaps)) (sem 𝓛 (Whole.own_at (next ws) rb ro))
      unfolding part_of
      returns_whole ws =
          let n : InM.Denot = record { leaves = arena_with ws; len = m.len } in
          qed 𝓛 (‵ (part_at (Bk X Y Z g) full_share (written_block ws) rb (ao + block_at X Y Z g)) ∷ ‵ (fsep Heads Others) ∷ (raw (arena_gaps X Y Z g LX LY LZ 𝓛 rb ao a) ⊛ ‵ (MapOthers m) ⊛ raw MapGaps) ∷ []) ∵
          move ! (2 ∷ []) $ split3 ! $ move ! (3 ∷ 4 ∷ 0 ∷ []) $
          use3 𝓛 (‵ (part_at (Ar X Y Z g) full_share (arena_with ws) rb ao)) (arena_returns X Y Z g LX LY LZ 𝓛 rb ao a m.leaves x.2.1 ws) $
          use3 𝓛 (‵ (part_at InM full_share n rb ro)) (field_back 𝓛 full_share [] ms (arena_with ws, (m.len, tt)) rb ro 0) $
          use1 𝓛 (‵ ((mem Mp).own_at (next ws) rb ro)) (Plain-in Mp InM (map_laws.the_opens (K X Y Z g) (V X Y Z g) (A X Y Z g) co ce cp g) 𝓛 full_share (next ws) n
          (view_made InM D Mp.coded (view X.Denot Y.Denot Z.Denot co ce cp g) (invariant X.Denot Y.Denot Z.Denot co ce cp g) 𝓛 (next ws) n (refl, stays-map x.1.1 (items (arena_next X Y Z g LX LY LZ 𝓛 rb ao a m.leaves x.2.1 ws)))) rb ro) $
          rewrite ! 0 (λ (u : D). ‵ ((mem Mp).own_at u rb ro)) (sym (fixed ws)) refl $ done !

      module _ (κ : Lft) (δ tie₀ tie : GName) (u : Gv) where
        abbrev pub Kept : Fml
        Kept = Body Whole rb ro tie

        abbrev pub Parts : Fml
        Parts = fsep (Body (mem (Bk X Y Z g)) rb (ao + block_at X Y Z g) δ) Heads

        done_with : (ws : List Y.Denot) → ent 𝓤 (sep 𝓤 (sem 𝓛 (Whole.own_at (next ws) rb ro)) (sep 𝓤 (tokens.obs tie u) (tokens.auth tie u))) (upd 𝓤 (sem 𝓛 Kept))
        done_with ws = let n = next ws in let code = Mp.coded.code n in let Half = sep 𝓤 (tokens.obs tie code) (tokens.auth tie code) in
            qed 𝓛 (‵ (Whole.own_at n rb ro) ∷ ‵ (fobs tie u) ∷ ‵ (fauth tie u) ∷ []) ∵ move ! (1 ∷ 2 ∷ []) $
            use2 𝓛 (raw (upd 𝓤 Half)) (𝓛.names.name_set_upd tie u u code) $
            by ! (via 𝓤 (upd 𝓤 (sep 𝓤 Half (sem 𝓛 (Whole.own_at n rb ro)))) (upd_frame 𝓤 Half (sem 𝓛 (Whole.own_at n rb ro)))
            (upd_mono 𝓤 (qed 𝓛 ((‵ (fobs tie code) ⊛ ‵ (fauth tie code)) ∷ ‵ (Whole.own_at n rb ro) ∷ []) {P = sem 𝓛 Kept} (
            split ! $ drop ! $ move ! (1 ∷ 0 ∷ []) $ fjoin ! $ fpack ! D (λ t. fsep (Whole.own_at t rb ro) (fauth tie (Mp.coded.code t))) n $ done !))))

        pub way_back : ent 𝓤 (sep 𝓤 (sem 𝓛 (follows (Bk X Y Z g) (Bk X Y Z g) δ tie₀ (block_lends.with_values_of a.block))) (sep 𝓤 (sem 𝓛 Others) (sep 𝓤 Gaps (sep 𝓤 (tokens.obs tie u) (tokens.auth tie u))))) (sem 𝓛 (Back 𝓛 κ Kept Parts))
        unfolding fseps
        way_back = let F = block_lends.with_values_of a.block in
            qed 𝓛 (‵ (follows (Bk X Y Z g) (Bk X Y Z g) δ tie₀ F) ∷ ‵ Others ∷ raw Gaps ∷ ‵ (fobs tie u) ∷ ‵ (fauth tie u) ∷ []) ∵ assume ! (‵ (fsep (fdead κ) (fsep Parts ftrue))) $
            fsplit ! $ drop ! $ fsplit ! $ fsplit ! $ fpick ! (λ z. fsplit ! $ move ! (1 ∷ 4 ∷ []) $
            use2 𝓛 (‵ (fex (Bk X Y Z g).Denot (λ y. fsep (feq (Bk X Y Z g).Denot z (F y)) (fauth tie₀ ((Bk X Y Z g).coded.code y))))) (came 𝓛 (Bk X Y Z g) (Bk X Y Z g) F δ tie₀ z) $ fpick ! (λ y. fsplit ! $ feq_l ! (λ is. drop ! $
            rewrite ! 0 (λ (t : (Bk X Y Z g).Denot). ‵ ((mem (Bk X Y Z g)).own_at t rb (ao + block_at X Y Z g))) is refl $
            -- [the block; the heads; nothing; the rest; the gaps; the two halves of the name]
            move ! (1 ∷ 3 ∷ []) $ fjoin ! $ move ! (1 ∷ 0 ∷ 3 ∷ []) $
            use3 𝓛 (‵ (Whole.own_at (next (values_of y.places)) rb ro)) (returns_whole (values_of y.places)) $ move ! (0 ∷ 2 ∷ 3 ∷ []) $ keep ! (0 ∷ 1 ∷ 2 ∷ []) $ by ! (done_with (values_of y.places)))))

        module _ {N : Type 0} {Γ : List (Item 𝓤)} {G : Goal 𝓤 𝓛.H} where
          -- the open borrow is closed, and its token is whole again
          pub ends_lent : N → Soaks G → (n : ℕ) (q : Share) → Step N 𝓛 (‵ (flft κ q) ∷ Γ) G
              (‵ (follows (Bk X Y Z g) (Bk X Y Z g) δ tie₀ (block_lends.with_values_of a.block)) ∷ raw (aged 𝓤 𝓛.H 𝓛.A n κ (Share.left q) Kept) ∷ ‵ (flent (deep n κ) (Body (mem (Bk X Y Z g)) rb (ao + block_at X Y Z g) δ)) ∷ ‵ (flent (deep n κ) Heads)
              ∷ ‵ Others ∷ raw Gaps ∷ ‵ (fobs tie u) ∷ ‵ (fauth tie u) ∷ ‵ (flft κ (Share.right q)) ∷ Γ) G
          ends_lent t z n q = step (λ s. move t (2 ∷ 3 ∷ []) $
              use2 𝓛 (later (‵ (flent (deep n κ) Parts))) (both_rights 𝓛 (deep n κ) (Body (mem (Bk X Y Z g)) rb (ao + block_at X Y Z g) δ) Heads) $ await t z $ move t (1 ∷ 3 ∷ 4 ∷ 5 ∷ 6 ∷ []) $ group t 5 $
              use1 𝓛 (‵ (Back 𝓛 κ Kept Parts)) way_back $ move t (2 ∷ 1 ∷ 0 ∷ []) $ use3 𝓛 (later (‵ (flft κ (Share.left q)))) (closes_late 𝓛 n κ (Share.left q) Kept Parts) $ await t z $
              use2 𝓛 (‵ (flft κ q)) (𝓛.lfts.lft_join κ q) $ s)

    keeps : (d u : D) → ent 𝓤 (sep 𝓤 (sem 𝓛 ((Followed d).own_at u rb ro)) (emp 𝓤)) (sem 𝓛 ((mem Mp).own_at (following d u) rb ro))
    keeps d u = qed 𝓛 (‵ ((Followed d).own_at u rb ro) ∷ raw (emp 𝓤) ∷ []) ∵ keep ! (0 ∷ []) $ done !

    module _ {N : Type 0} {Γ : List (Item 𝓤)} {G : Goal 𝓤 𝓛.H} where
      -- [the name of the block and its borrow; half of the token; the borrow of the heads; the open borrow; the two rights; the rest and the gaps; the two halves of the tie; what the arena follows]
      pub begins_lent : N → Soaks G → (κ : Lft) (q : Share) (γ : GName) (d : D)
          → ((x : Opened d) (tie δ : GName) (n : ℕ)
          → Seq N 𝓛 (‵ (fobs δ ((Bk X Y Z g).coded.code x.2.0.block)) ∷ ‵ (fbor κ (Body (mem (Bk X Y Z g)) rb (ao + block_at X Y Z g) δ)) ∷ ‵ (flft κ (Share.right q)) ∷ ‵ (fbor κ (Heads d x)) ∷ raw (aged 𝓤 𝓛.H 𝓛.A n κ (Share.left q) (Body (Followed d) rb ro tie))
          ∷ ‵ (flent (deep n κ) (Body (mem (Bk X Y Z g)) rb (ao + block_at X Y Z g) δ)) ∷ ‵ (flent (deep n κ) (Heads d x)) ∷ ‵ (Others d x) ∷ raw (Gaps d x) ∷ ‵ (fobs tie (Mp.coded.code d)) ∷ ‵ (fauth tie (Mp.coded.code d)) ∷ ‵ (follows Mp Mp γ tie (following d)) ∷ Γ) G)
          → Seq N 𝓛 (‵ (fobs γ (Mp.coded.code d)) ∷ ‵ (fbor κ (Body (mem Mp) rb ro γ)) ∷ ‵ (flft κ q) ∷ Γ) G
      begins_lent t z κ q γ d next = let c = Mp.coded.code d in
          open_ref t z (mem Mp) {x = d} {b = rb} {o = ro} $ rewrite t 0 (λ (u : D). ‵ ((mem Mp).own_at u rb ro)) (sym (itself d)) refl $ use0 𝓛 (raw (emp 𝓤)) (id⊢ 𝓤 (emp 𝓤)) $ move t (2 ∷ 3 ∷ 4 ∷ 1 ∷ 0 ∷ []) $ group t 5 $
          use1 𝓛 (later (some (λ (tie : GName). ‵ (fobs tie c) ⊛ ‵ (fbor κ (Body (Followed d) rb ro tie)) ⊛ ‵ (flft κ q) ⊛ ‵ (follows Mp Mp γ tie (following d)))))
          (takes_part 𝓛 (mem Mp) (Followed d) (following d) κ q rb ro rb ro γ (emp 𝓤) (keeps d) c c d) $ await t z $ pick t (λ tie.
          split3 t $ move t (2 ∷ []) $ split t $ use1 𝓛 (‵ (flft κ (Share.left q)) ⊛ ‵ (flft κ (Share.right q))) (𝓛.lfts.lft_split κ q) $ split t $ move t (3 ∷ 4 ∷ 0 ∷ []) $
          open_ref t z (Followed d) {x = d} {b = rb} {o = ro} $ rewrite t 0 (λ (u : D). ‵ ((mem Mp).own_at u rb ro)) (itself d) refl $
          use1 𝓛 (some (λ (s : (m : InM.Denot) × Viewed d m). ‵ (part_at InM full_share s.0 rb ro))) (plain_out Mp InM (map_laws.the_opens (K X Y Z g) (V X Y Z g) (A X Y Z g) co ce cp g) 𝓛 full_share d rb ro) $ pick t (λ s. let m = s.0 in
          use1 𝓛 (‵ (part_at (Ar X Y Z g) full_share m.leaves rb ao) ⊛ ‵ (MapOthers m) ⊛ raw MapGaps) (takes_apart m) $ split3 t $
          use1 𝓛 (some (λ (y : (a : (In X Y Z g).Denot) × arena_viewed X Y Z g m.leaves a). ‵ (part_at (In X Y Z g) full_share y.0 rb ao))) (plain_out (Ar X Y Z g) (In X Y Z g) (arena_laws.the_opens (Entry (K X Y Z g) (V X Y Z g)) (A X Y Z g) g) 𝓛 full_share m.leaves rb ao) $ pick t (λ y. let a = y.0 in let x : Opened d = (m, s.1, y) in
          use1 𝓛 (‵ (part_at (Bk X Y Z g) full_share a.block rb (ao + block_at X Y Z g)) ⊛ ‵ (fsep (Heads d x) (Others d x)) ⊛ raw (arena_gaps X Y Z g LX LY LZ 𝓛 rb ao a)) (arena_apart X Y Z g LX LY LZ 𝓛 rb ao a) $ split3 t $
          move t (2 ∷ 3 ∷ 4 ∷ []) $ group t 3 $ use1 𝓛 (raw (Gaps d x)) (id⊢ 𝓤 (Gaps d x)) $ move t (1 ∷ 2 ∷ 0 ∷ []) $ move t (3 ∷ []) $ ages t (λ n.
          name_new t z ((Bk X Y Z g).coded.code x.2.0.block) (λ δ. move t (3 ∷ 1 ∷ []) $ fjoin t $ fpack t (Bk X Y Z g).Denot (λ y. fsep ((mem (Bk X Y Z g)).own_at y rb (ao + block_at X Y Z g)) (fauth δ ((Bk X Y Z g).coded.code y))) a.block $ bor_new_deep t z n κ $
          move t (4 ∷ []) $ fsplit t $ bor_new_deep t z n κ $ move t (5 ∷ 3 ∷ 10 ∷ 0 ∷ 6 ∷ 4 ∷ 1 ∷ 2 ∷ 7 ∷ 8 ∷ 9 ∷ 11 ∷ []) $ next x tie δ n)))))
