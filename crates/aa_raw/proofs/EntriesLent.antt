-- The entries of a block are lent: its borrow is cut into one of their values, and the block
-- follows. Assumes `Logic`.
--     opens_block      the block behind a `&mut` is its places, the word that leads there, and the way back from both
--     lends_all        from there, the values borrowed under a name of their own, and what the block follows
use Rattle.aa_raw.proofs.Common.{ !, Block, BodyAt as Body, Fml, GName, Ghosts, Goal, Gv, Item, Laws, Lft, List, Logic, Member, Option, PartsBack, RattleType, SProp, SemTy, Seq, Share, Soaks, Ura, Val, [], ap, await, block_ptr, by, cell_at, coded_list, done, each, emp, ent, fauth, fbor, field_back, field_out, fjoin, flft, flt_i, fobor, fobs, follows, fpack, fpick, fsep, fsplit, full_share, group, id⊢, keep, later, length, lone, lose, mem, move, open_ref, param, param_laws, part_at, part_of, pick, qed, raw, refl, rest_at, rewrite, sem, sep, some, split, split3, subst, sym, tuple_laws, type_size, uint_Lawful, use0, use1, use2, usize, w64, with_places, ‵, ℕ, ◌$◌, ◌*◌, ◌+◌, ◌<◌, ◌^◌, ◌∙◌, ◌∵◌, ◌∷◌, ◌≡◌, ◌⊛◌}
use denote.Model.Fields.{Plain-in, plain_out, view_made}
use types.Follow.{after, takes_part}
use Rattle.aa_raw.proofs.Access.{row_had, row_made, word}
use Rattle.aa_raw.proofs.Entries.{Held, Room, Spot, entries_in, entries_out, kept, length-with_values, refilled}
use Rattle.aa_raw.proofs.counter.Counter.TheLaws as counter_laws
use Rattle.aa_raw.proofs.counter.GrowthCounters.TheLaws as growth_counters_laws
use Rattle.aa_raw.proofs.raw_vec.RawVec.TheLaws as block_laws
use Rattle.aa_raw.proofs.row.Claim.TheLaws as claim_laws
use Rattle.aa_raw.proofs.row.Row.TheLaws as row_laws
use Rattle.aa_raw.specs.Entries.{Entry, Values, entries_owned, values_of, with_values}
use Rattle.aa_raw.specs.EntriesLends.{with_values_of}
use Rattle.aa_raw.specs.contracts.counter.Counter as counter
use Rattle.aa_raw.specs.contracts.counter.GrowthCounters as growth_counters
use Rattle.aa_raw.specs.contracts.raw_vec.RawVec as block
use Rattle.aa_raw.specs.contracts.raw_vec.RawVec.TheInside as inside
use Rattle.aa_raw.specs.contracts.row.Claim as claim
use Rattle.aa_raw.specs.contracts.row.Row as row
use Rattle.aa_raw.specs.declared.raw_vec.RawVec.TheView.{view, invariant}

module _ (X Y Z : RattleType) (g : Ghosts Z.Denot) where
  abbrev pub K : RattleType
  K = param 0 X

  abbrev pub V : RattleType
  V = param 1 Y

  abbrev pub A : RattleType
  A = param 2 Z

  abbrev pub Bk : RattleType
  Bk = block.the_row (Entry K V) A g

  abbrev pub In : RattleType
  In = inside.the_row (Entry K V) A g

  abbrev of_row : RattleType → Member
  of_row R = record { row = R; ty = lone R.mir }

  abbrev pub ms : List Member
  ms = of_row (row.the_row (Entry K V)) ∷ of_row usize ∷ of_row (claim.the_row (Entry K V) A g)
      ∷ of_row growth_counters.the_row ∷ of_row counter.the_row ∷ of_row counter.the_row ∷ of_row A
      ∷ []

module _ (X Y Z : RattleType) (LX : Laws X) (LY : Laws Y) (LZ : Laws Z)
    (g : Ghosts Z.Denot) {M : Type 1} {𝓤 : Ura M} (𝓛 : Logic 𝓤) (rb ro : ℕ) where
  abbrev pair_laws : Laws (Entry (K X Y Z g) (V X Y Z g))
  pair_laws = tuple_laws (K X Y Z g ∷ V X Y Z g ∷ []) (param_laws 0 X LX, (param_laws 1 Y LY, tt))

  abbrev pub Back : (In X Y Z g).Denot → SProp 𝓤
  Back a = sep 𝓤 (sem 𝓛
      (rest_at full_share (ms X Y Z g) 0
      (a.row, (a.word, (a.claim, (a.grown, (a.written, (a.runs, (a.alloc, tt))))))) rb ro 0))
      (PartsBack 𝓛 full_share [] (ms X Y Z g) rb ro)

  pub field_of : (a : (In X Y Z g).Denot) → ent 𝓤 (sem 𝓛 (part_at (In X Y Z g) full_share a rb ro))
      (sep 𝓤 (sem 𝓛 (part_at (row.the_row (Entry (K X Y Z g) (V X Y Z g))) full_share a.row rb
      (ro + 0))) (Back a))
  unfolding part_of
  field_of a = field_out 𝓛 full_share [] (ms X Y Z g) (
    (row_laws.the_row_laws (Entry (K X Y Z g) (V X Y Z g)) pair_laws).lawful 𝓛,
    (
      uint_Lawful 𝓛 w64,
      (
        (claim_laws.the_row_laws (Entry (K X Y Z g) (V X Y Z g)) (A X Y Z g) g pair_laws
            (param_laws 2 Z LZ)).lawful 𝓛,
        (
          growth_counters_laws.the_row_laws.lawful 𝓛,
          (
            counter_laws.the_row_laws.lawful 𝓛,
            (counter_laws.the_row_laws.lawful 𝓛, ((param_laws 2 Z LZ).lawful 𝓛, tt)),
          ),
        ),
      ),
    ),
  )
      (a.row, (a.word, (a.claim, (a.grown, (a.written, (a.runs, (a.alloc, tt))))))) rb ro 0

  abbrev P : RattleType
  P = Entry (K X Y Z g) (V X Y Z g)

  abbrev Rw : RattleType
  Rw = row.the_row P

  abbrev D : Type 0
  D = Block P.Denot Z.Denot

  abbrev Cell : ℕ → ℕ → Fml
  Cell b o = cell_at full_share Rw.mir (word b o ∷ []) rb (ro + 0)

  abbrev held : ℕ → ℕ → List (Option P.Denot) → Fml
  held b o cs = each (Held (K X Y Z g) (V X Y Z g) 𝓛 b o) 0 cs

  abbrev rooms : ℕ → ℕ → List (Option P.Denot) → Fml
  rooms b o cs = each (Room (K X Y Z g) (V X Y Z g) 𝓛 b o) 0 cs

  abbrev Viewed : D → (In X Y Z g).Denot → Type 0
  Viewed d a = (view P.Denot Z.Denot g a ≡ d) × invariant P.Denot Z.Denot g a

  module _ (d : D) (a : (In X Y Z g).Denot) (seen : Viewed d a) (b o : ℕ)
      (lies : a.row.ptr ≡ block_ptr b o) (small : length d.places * type_size P < 2 ^ 63) where
    abbrev Rest : SProp 𝓤
    Rest = sep 𝓤 (sem 𝓛 (rooms b o d.places)) (sep 𝓤 (sem 𝓛 (Cell b o)) (Back a))

    back : (ws : List Y.Denot) → ent 𝓤 (sep 𝓤 (sem 𝓛 (held b o (with_values d.places ws))) Rest)
        (sem 𝓛 ((mem (Bk X Y Z g)).own_at (with_places d (with_values d.places ws)) rb ro))
    unfolding part_of
    back ws =
        let cs = with_values d.places ws in let long = length-with_values d.places ws in
        let r : Rw.Denot = record { ptr = a.row.ptr; places = cs } in
        let n : (In X Y Z g).Denot =
        record {
          row = r;
          word = a.word;
          claim = a.claim;
          grown = a.grown;
          written = a.written;
          runs = a.runs;
          alloc = a.alloc;
        } in
        let ok : invariant P.Denot Z.Denot g n =
        record {
          claim = seen.1.claim;
          long = long
              ∙ ap (λ (z : D). length z.places) (sym seen.0) ∙ seen.1.long;
        } in
        qed 𝓛 (‵ (held b o cs) ∷ ‵ (rooms b o d.places) ∷ ‵ (Cell b o) ∷ raw (Back a) ∷ []) ∵
        use2 𝓛 (‵ (each (Spot (K X Y Z g) (V X Y Z g) 𝓛 b o) 0 cs))
        (entries_in (K X Y Z g) (V X Y Z g) 𝓛 b o d.places ws 0) $
        row_made P ! r b o lies (subst (λ k. k * type_size P < 2 ^ 63) (sym long) small) $
        move ! (1 ∷ 0 ∷ []) $ fjoin ! $
        fpack ! (List Val) (λ us. fsep (cell_at full_share Rw.mir us rb (ro + 0)) (Rw.own_val r us))
        (word b o ∷ []) $
        use2 𝓛 (‵ (part_at (In X Y Z g) full_share n rb ro))
        (field_back 𝓛 full_share [] (ms X Y Z g)
        (r, (a.word, (a.claim, (a.grown, (a.written, (a.runs, (a.alloc, tt))))))) rb ro 0) $
        by ! (Plain-in (Bk X Y Z g) (In X Y Z g) (block_laws.the_opens P (A X Y Z g) g) 𝓛 full_share
        (with_places d cs) n
        (view_made (In X Y Z g) D (Bk X Y Z g).coded (view P.Denot Z.Denot g)
        (invariant P.Denot Z.Denot g) 𝓛 (with_places d cs) n
        (ap (λ (z : D). with_places z cs) seen.0, ok)) rb ro)

    -- the entries with the values of a block, as a type whose value is the block
    abbrev Whole : SemTy
    Whole = record {
      rep = D;
      coded = (Bk X Y Z g).coded;
      size = 0;
      own_at = λ w _ _. held b o (with_values d.places (values_of w.places));
    }

    abbrev Parts : SemTy
    Parts = Values (K X Y Z g) (V X Y Z g) b o d.places

    abbrev blocked : List Y.Denot → D
    blocked ws = with_places d (with_values d.places ws)

    again : (ws : List Y.Denot) → ent 𝓤 (sep 𝓤 (sem 𝓛 (Parts.own_at ws 0 0)) (emp 𝓤))
        (sem 𝓛 (Whole.own_at (blocked ws) 0 0))
    again ws = qed 𝓛 (‵ (held b o (with_values d.places ws)) ∷ raw (emp 𝓤) ∷ []) ∵
        rewrite ! 0 (λ (cs : List (Option P.Denot)). ‵ (held b o cs))
        (sym (refilled d.places ws)) refl $ keep ! (0 ∷ []) $ done !

    module _ {N : Type 0} {Γ : List (Item 𝓤)} {G : Goal 𝓤 𝓛.H} where
      -- from [the places; the word; the way back; the open borrow; the two halves of its name]
      pub lends_all : N → Soaks G → (κ : Lft) (q : Share) (γ : GName) (u v : Gv)
          → ((tie name : GName)
          → Seq N 𝓛 (‵ (entries_owned (K X Y Z g) (V X Y Z g) κ (block_ptr b o) name d.places)
          ∷ ‵ (flft κ q) ∷ ‵ (follows (Bk X Y Z g) (Bk X Y Z g) γ tie (with_values_of d)) ∷ Γ)
          G)
          → Seq N 𝓛 (‵ (each (Spot (K X Y Z g) (V X Y Z g) 𝓛 b o) 0 d.places) ∷ ‵ (Cell b o)
          ∷ raw (Back a) ∷ ‵ (fobor κ q (Body (mem (Bk X Y Z g)) rb ro γ)) ∷ ‵ (fobs γ u)
          ∷ ‵ (fauth γ v) ∷ Γ) G
      lends_all t z κ q γ u v k =
          let c = (Bk X Y Z g).coded.code d in
          use1 𝓛 (‵ (held b o d.places) ⊛ ‵ (rooms b o d.places))
          (entries_out (K X Y Z g) (V X Y Z g) 𝓛 b o d.places 0) $ split t $
          rewrite t 0 (λ (cs : List (Option P.Denot)). ‵ (held b o cs)) (sym (kept d.places)) refl $
          move t (1 ∷ 2 ∷ 3 ∷ []) $ group t 3 $ move t (2 ∷ 3 ∷ 4 ∷ 1 ∷ 0 ∷ []) $ group t 5 $
          use1 𝓛 (later (some (λ (tie : GName). ‵ (fobs tie c) ⊛ ‵ (fbor κ (Body Whole 0 0 tie))
          ⊛ ‵ (flft κ q) ⊛ ‵ (follows (Bk X Y Z g) (Bk X Y Z g) γ tie (with_values_of d)))))
          (takes_part 𝓛 (mem (Bk X Y Z g)) Whole (with_values_of d) κ q rb ro 0 0 γ Rest
          (λ w. back (values_of w.places)) u v d) $ await t z $ pick t (λ tie.
          split3 t $ move t (2 ∷ []) $ split t $ move t (2 ∷ 3 ∷ 0 ∷ []) $
          open_ref t z Whole {x = d} {b = 0} {o = 0} $ use0 𝓛 (raw (emp 𝓤)) (id⊢ 𝓤 (emp 𝓤)) $
          move t (2 ∷ 3 ∷ 4 ∷ 1 ∷ 0 ∷ []) $ group t 5 $
          use1 𝓛 (later (some
          (λ (name : GName). ‵ (fobs name ((coded_list Y.coded).code (values_of d.places)))
          ⊛ ‵ (fbor κ (Body Parts 0 0 name)) ⊛ ‵ (flft κ q)
          ⊛ ‵ (after Whole Parts tie name blocked))))
          (takes_part 𝓛 Whole Parts blocked κ q 0 0 0 0 tie (emp 𝓤) again c c
          (values_of d.places)) $ await t z $ pick t (λ name.
          split3 t $ fjoin t $ flt_i t (length d.places * type_size P) (2 ^ 63) small $ fjoin t $
          move t (1 ∷ []) $ split t $ move t (1 ∷ []) $ lose t $ move t (1 ∷ 0 ∷ []) $ k tie name))

  -- [the places; the word; the way back; the open borrow; the two halves of its name]
  module _ {N : Type 0} {Γ : List (Item 𝓤)} {G : Goal 𝓤 𝓛.H} where
    pub opens_block : N → Soaks G → {κ : Lft} {q : Share} {γ : GName} (d : D)
        → ((a : (In X Y Z g).Denot) (seen : Viewed d a) (b o : ℕ) → a.row.ptr ≡ block_ptr b o
        → length d.places * type_size P < 2 ^ 63
        → Seq N 𝓛 (‵ (each (Spot (K X Y Z g) (V X Y Z g) 𝓛 b o) 0 d.places) ∷ ‵ (Cell b o)
        ∷ raw (Back a) ∷ ‵ (fobor κ q (Body (mem (Bk X Y Z g)) rb ro γ))
        ∷ ‵ (fobs γ ((Bk X Y Z g).coded.code d)) ∷ ‵ (fauth γ ((Bk X Y Z g).coded.code d)) ∷ Γ)
        G)
        → Seq N 𝓛 (‵ (fobs γ ((Bk X Y Z g).coded.code d))
        ∷ ‵ (fbor κ (Body (mem (Bk X Y Z g)) rb ro γ)) ∷ ‵ (flft κ q) ∷ Γ) G
    unfolding part_of
    opens_block t z d k = open_ref t z (mem (Bk X Y Z g)) {x = d} {b = rb} {o = ro} $
        use1 𝓛 (some (λ (x : (a : (In X Y Z g).Denot) × Viewed d a). ‵
        (part_at (In X Y Z g) full_share x.0 rb ro)))
        (plain_out (Bk X Y Z g) (In X Y Z g) (block_laws.the_opens P (A X Y Z g) g) 𝓛 full_share
        d rb ro) $ pick t (λ x.
        use1 𝓛 (‵ (part_at Rw full_share x.0.row rb (ro + 0)) ⊛ raw (Back x.0)) (field_of x.0) $
        split t $ fpick t (λ vs. fsplit t $ move t (1 ∷ []) $
        row_had P t x.0.row vs (λ b o lies is small. let same = ap (λ (w : D). w.places) x.1.0 in
        move t (1 ∷ []) $
        rewrite t 0 (λ (ws : List Val). ‵ (cell_at full_share Rw.mir ws rb (ro + 0))) is refl $
        move t (1 ∷ []) $
        rewrite t 0 (λ (cs : List (Option P.Denot)).
        ‵ (each (Spot (K X Y Z g) (V X Y Z g) 𝓛 b o) 0 cs)) same refl $
        k x.0 x.1 b o lies
        (subst (λ (cs : List (Option P.Denot)). length cs * type_size P < 2 ^ 63) same small))))
