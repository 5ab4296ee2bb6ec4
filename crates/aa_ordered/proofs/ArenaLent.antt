-- An arena whose values are lent, in memory. Assumes `Logic`.
--     takes_apart      an arena in memory is its block, its heads, and the rest
--     returns_whole    an arena in memory is made again of its block with other values
use mathlib.Core.Path.{◌≡◌, refl, ap, sym, ◌∙◌}
use Prim.Native.Nat.{ℕ, ◌+◌}
use mathlib.Core.List.{List, [], ◌∷◌}
use seplogic.Ra.Ura.{Ura}
use base.Fraction.{full_share}
use base.Logic.{SProp, ent, sep}
use base.Fml.{Fml, fsep}
use prog.Memory.{align, size, up}
use types.Logic.{Logic, sem}
use types.Kit.{‵, raw, ◌$◌, ◌∵◌, !, qed, use1, use3, rewrite, done}
use types.SemTy.{SemTy}
use denote.Builtin.{usize}
use denote.Memory.{lone, mem, part_at, part_of}
use denote.Model.Fields.{Plain-in, view_made}
use denote.Param.{param}
use denote.Param.Laws.{Laws, param_laws}
use denote.Plain.{uint_Lawful}
use denote.RattleType.{RattleType}
use denote.Struct.Members.{Member, parts_at}
use denote.Struct.Parts.{PartsBack}
use denote.Struct.Pick.{field_back, field_out}
use denote.Struct.Tuple.{tuple_laws}
use mir.Syntax.{w64}
use Rattle.core.specs.declared.alloc.Allocator as alloc
use Rattle.allocator_api2.specs.contracts.vec.Vec as vec
use Rattle.allocator_api2.proofs.vec.Vec.TheLaws as vec_laws
use Rattle.aa_raw.proofs.counter.Counter.TheLaws as counter_laws
use Rattle.aa_raw.proofs.raw_vec.RawVec.TheLaws as block_laws
use Rattle.aa_raw.specs.Block.{with_places}
use Rattle.aa_raw.specs.Entries.{Entry, with_values}
use Rattle.aa_raw.specs.contracts.counter.Counter as counter
use Rattle.aa_raw.specs.contracts.raw_vec.RawVec as block
use Rattle.std.specs.Prelude.{length, map, take}
use Rattle.aa_ordered.proofs.Revalued.{read-lists, same-lists, stays}
use Rattle.aa_ordered.proofs.leaves.Head.TheLaws as head_laws
use Rattle.aa_ordered.proofs.leaves.Leaves.TheLaws as arena_laws
use Rattle.aa_ordered.specs.Arena.{list_of}
use Rattle.aa_ordered.specs.IterLends.{revalued}
use Rattle.aa_ordered.specs.Leaves.{items}
use Rattle.aa_ordered.specs.contracts.leaves.Head as head
use Rattle.aa_ordered.specs.contracts.leaves.Leaves as arena
use Rattle.aa_ordered.specs.contracts.leaves.Leaves.TheInside as inside
use Rattle.aa_ordered.specs.declared.leaves.Leaves.TheView.{view, invariant}

module _ (X Y Z : RattleType) (g : alloc.Ghosts Z.Denot) where
  abbrev pub K : RattleType
  K = param 0 X

  abbrev pub V : RattleType
  V = param 1 Y

  abbrev pub A : RattleType
  A = param 2 Z

  abbrev pub Ar : RattleType
  Ar = arena.the_row (Entry K V) A g

  abbrev pub In : RattleType
  In = inside.the_row (Entry K V) A g

  abbrev pub Bk : RattleType
  Bk = block.the_row (Entry K V) A g

  abbrev pub Ix : RattleType
  Ix = vec.the_row head.the_row A g

  abbrev pub D : Type 0
  D = Ar.Denot

  abbrev of_row : RattleType → Member
  of_row R = record { row = R; ty = lone R.mir }

  abbrev rest_ms : List Member
  rest_ms = of_row usize ∷ of_row counter.the_row ∷ []

  abbrev pub ms : List Member
  ms = of_row Bk ∷ of_row Ix ∷ rest_ms

  -- where the block, the heads and the number of lists are in an arena
  abbrev pub block_at : ℕ
  block_at = up (align (lone Bk.mir)) 0

  abbrev pub index_at : ℕ
  index_at = up (align (lone Ix.mir)) (block_at + size (lone Bk.mir))

  abbrev pub used_at : ℕ
  used_at = up (align (lone usize.mir)) (index_at + size (lone Ix.mir))

  abbrev pub Viewed : D → In.Denot → Type 0
  Viewed d a = (view (X.Denot × Y.Denot) Z.Denot g a ≡ d) × invariant (X.Denot × Y.Denot) Z.Denot g a

  -- the map `d` with the values of `u`
  abbrev pub following : D → D → D
  following d u = record d { lists = revalued d.lists (items u) }

  -- an arena that has the lists of `d`, with the values of its own value
  abbrev pub Followed : D → SemTy
  Followed d = record { rep = D; coded = Ar.coded; size = 0; own_at = λ u bl o. (mem Ar).own_at (following d u) bl o }

  itself : (d : D) → following d d ≡ d
  itself d = ap (λ ls. record d { lists = ls }) (same-lists d.lists)

  module _ (LX : Laws X) (LY : Laws Y) (LZ : Laws Z) {M : Type 1} {𝓤 : Ura M} (𝓛 : Logic 𝓤) (rb ro : ℕ) where
    open 𝓛 use {A as tokens}

    pub the_index_laws : Laws Ix
    the_index_laws = vec_laws.the_row_laws head.the_row A g head_laws.the_row_laws (param_laws 2 Z LZ)

    module _ (a : In.Denot) where
      abbrev pub Index : Fml
      Index = part_at Ix full_share a.heads rb (ro + index_at)

      abbrev pub Others : Fml
      Others = parts_at full_share rest_ms (index_at + size (lone Ix.mir)) (a.used, (a.resizes, tt)) rb ro

      abbrev pub Gaps : SProp 𝓤
      Gaps = PartsBack 𝓛 full_share [] ms rb ro

      pub takes_apart : ent 𝓤 (sem 𝓛 (part_at In full_share a rb ro)) (sep 𝓤 (sem 𝓛 (part_at Bk full_share a.block rb (ro + block_at))) (sep 𝓤 (sem 𝓛 (fsep Index Others)) Gaps))
      unfolding part_of
      takes_apart = field_out 𝓛 full_share [] ms (
        (block_laws.the_row_laws (Entry K V) A g (tuple_laws (K ∷ V ∷ []) (param_laws 0 X LX, (param_laws 1 Y LY, tt))) (param_laws 2 Z LZ)).lawful 𝓛,
        (the_index_laws.lawful 𝓛, (uint_Lawful 𝓛 w64, (counter_laws.the_row_laws.lawful 𝓛, tt))),
      )
          (a.block, (a.heads, (a.used, (a.resizes, tt)))) rb ro 0

      -- the arena with these values in its places
      module _ (d : D) (viewed : Viewed d a) where
        abbrev pub written : List Y.Denot → Bk.Denot
        written ws = with_places a.block (with_values a.block.places ws)

        abbrev pub next : List Y.Denot → D
        next ws = record { lists = map (list_of (with_values a.block.places ws)) (take a.used a.heads.items); room = length a.heads.items; resizes = a.resizes.count }

        fixed : (ws : List Y.Denot) → following d (next ws) ≡ next ws
        fixed ws = ap (λ (z : D). record z { lists = revalued z.lists (items (next ws)) }) (sym viewed.0)
            ∙ ap (λ ls. record { lists = ls; room = length a.heads.items; resizes = a.resizes.count }) (read-lists a.block.places ws (take a.used a.heads.items))

        abbrev pub Whole : SemTy
        Whole = Followed d

        pub returns_whole : (ws : List Y.Denot) → ent 𝓤 (sep 𝓤 (sem 𝓛 (part_at Bk full_share (written ws) rb (ro + block_at))) (sep 𝓤 (sem 𝓛 (fsep Index Others)) Gaps)) (sem 𝓛 (Whole.own_at (next ws) rb ro))
        unfolding part_of
        returns_whole ws =
            let n : In.Denot = record { block = written ws; heads = a.heads; used = a.used; resizes = a.resizes } in
            qed 𝓛 (‵ (part_at Bk full_share (written ws) rb (ro + block_at)) ∷ ‵ (fsep Index Others) ∷ raw Gaps ∷ []) ∵
            use3 𝓛 (‵ (part_at In full_share n rb ro)) (field_back 𝓛 full_share [] ms (written ws, (a.heads, (a.used, (a.resizes, tt)))) rb ro 0) $
            use1 𝓛 (‵ ((mem Ar).own_at (next ws) rb ro)) (Plain-in Ar In (arena_laws.the_opens (Entry K V) A g) 𝓛 full_share (next ws) n
            (view_made In D Ar.coded (view (X.Denot × Y.Denot) Z.Denot g) (invariant (X.Denot × Y.Denot) Z.Denot g) 𝓛 (next ws) n (refl, stays a.block.places ws a.heads.items a.used viewed.1)) rb ro) $
            rewrite ! 0 (λ (u : D). ‵ ((mem Ar).own_at u rb ro)) (sym (fixed ws)) refl $ done !
