-- A row and its claim as the block that an allocator resizes, and conversely. Assumes `Logic`.
--     never_zst      elements that take bytes are no ZSTs
--     block_of_row, row_of_block      places of which the first are filled are a block with these values, and a block with values is these and empty places
--     opens_block, closes_block      the two `&mut` are opened to a block, and closed over another
use Rattle.aa_raw.proofs.Common.{ !, Al, Array, BodyAt as Body, El, Fml, GName, Goal, Gv, IsCapacity, Item, Lft, List, Logic, None, Ptr, R, Seq, Share, Soaks, Some, Step, Ty, Ura, Val, [], ap, arith, array_apart, array_of, as_raw, as_written, block_ptr, block_with_items, cell_at, cells, check, closes, done, drop, el_x, elτ, ent, fauth, fbor, fjoin3, flft, fobor, fobs, froom, fsplit3, full_share, given, guard, learn, length, length-append, length-drop, length-map, length-replicate, length-take, map, mem, move, opens, part_at, qed, refl, replicate, rewrite, row, sem, sep, split, step, subst, sym, sz, take, take-append-drop, token, ty_array, use1, use2, whole_array, whole_in, whole_out, ‵, ℕ, ◌$◌, ◌*◌, ◌++◌, ◌+◌, ◌-◌, ◌<◌, ◌^◌, ◌∙◌, ◌∵◌, ◌∷◌, ◌≡◌, ◌≤◌, ◌⊛◌}
use Rattle.aa_raw.proofs.Access.{Open, Rw, Small, Word, closes_row, opens_row}
use Rattle.aa_raw.proofs.Claims.{Cl, Right, claim_had, claim_made, claim_of, mark, right_had, right_made}
use Rattle.aa_raw.proofs.Spots.{Place, Spot, SpotsFrom, all_room, at, cut_spots, empties, join_spots, start, values_in, values_out}

pub never_zst : (k n s : ℕ) → 0 < k * s → s ≡ 0 → 18446744073709551615 ≤ n
never_zst k n s some zst = let wrong : 0 < k * 0 = subst (λ (j : ℕ). 0 < k * j) zst some in
    absurd (omega arith)

module _ (E : El) {M : Type 1} {𝓤 : Ura M} (𝓛 : Logic 𝓤) (tok : Ty → Ptr → Fml)
    (b o len cap : ℕ) where
  -- the right to deallocate the block
  abbrev Held : Fml
  Held = tok (array_of (R E) cap) (block_ptr b o)

  abbrev Block : List (el_x E) → Fml
  Block = block_with_items tok (R E) (block_ptr b o) len cap

  -- where the places after the first `len` begin
  far : at E 𝓛 b o len ≡ o + len * sz E
  far = omega arith

  block_of_row : (cs : List (Place E)) (xs : List (el_x E)) → take len cs ≡ map Some xs → length cs
      ≡ cap → len ≤ cap → ent 𝓤 (sep 𝓤 (sem 𝓛 (SpotsFrom E 𝓛 b o 0 cs)) (sem 𝓛 Held))
      (sem 𝓛 (Block xs))
  block_of_row cs xs filled all within = let front = take len cs in let back = drop len cs in
      let many : length front ≡ len = omega (arith, length-take len cs, all) in
      let rest : length back ≡ cap - len = omega (arith, length-drop len cs, all) in
      let count : length xs ≡ len = sym (length-map xs Some)
      ∙ sym (ap (λ (ds : List (Place E)). length ds) filled) ∙ many in
      qed 𝓛 (‵ (SpotsFrom E 𝓛 b o 0 cs) ∷ ‵ Held ∷ []) ∵
      rewrite ! 0 (λ (ds : List (Place E)). ‵ (SpotsFrom E 𝓛 b o 0 ds))
      (sym (take-append-drop len cs)) refl $
      use1 𝓛 (‵ (SpotsFrom E 𝓛 b o 0 front) ⊛ ‵ (SpotsFrom E 𝓛 b o len back))
      (cut_spots 𝓛 (Spot E 𝓛 b o) front back 0 len (omega (arith, many))) $ split ! $
      rewrite ! 0 (λ (ds : List (Place E)). ‵ (SpotsFrom E 𝓛 b o 0 ds)) filled refl $
      use1 𝓛 (‵ (cells (mem (R E)) xs b (at E 𝓛 b o 0))) (values_out E 𝓛 b o xs 0) $
      rewrite ! 0 (λ (k : ℕ). ‵ (cells (mem (R E)) xs b k)) (start E 𝓛 b o) refl $
      use1 𝓛 (‵ (row (R E) full_share xs b o)) (whole_out 𝓛 (R E) xs b o) $
      use1 𝓛 (‵ (part_at (Array (R E) len) full_share xs b o))
      (whole_array E 𝓛 full_share len xs b o count) $ move ! (1 ∷ []) $
      use1 𝓛 (‵ (froom (ty_array (elτ E) (length back)) b (at E 𝓛 b o len)))
      (all_room E 𝓛 b o back len) $
      rewrite ! 0 (λ (k : ℕ). ‵ (froom (ty_array (elτ E) k) b (at E 𝓛 b o len))) rest refl $
      rewrite ! 0 (λ (k : ℕ). ‵ (froom (ty_array (elτ E) (cap - len)) b k)) far refl $
      as_raw ! (ty_array (elτ E) (cap - len)) b (o + len * sz E) $ move ! (1 ∷ 0 ∷ 2 ∷ []) $
      fjoin3 ! $ done !

  row_of_block : (xs : List (el_x E))
      → ent 𝓤 (sem 𝓛 (Block xs))
      (guard 𝓤 (length xs ≡ len)
      (sep 𝓤 (sem 𝓛 (SpotsFrom E 𝓛 b o 0 (map Some xs ++ replicate (cap - len) None)))
      (sem 𝓛 Held)))
  row_of_block xs = let front : List (Place E) = map Some xs in
      let none : List (Place E) = replicate (cap - len) None in
      qed 𝓛 (‵ (Block xs) ∷ []) ∵ fsplit3 ! $
      use1 𝓛 (given (length xs ≡ len) (‵ (row (R E) full_share xs b o)))
      (array_apart E 𝓛 full_share len xs b o) $ learn ! (λ count.
      use1 𝓛 (‵ (cells (mem (R E)) xs b o)) (whole_in 𝓛 (R E) xs b o) $
      rewrite ! 0 (λ (k : ℕ). ‵ (cells (mem (R E)) xs b k)) (sym (start E 𝓛 b o)) refl $
      use1 𝓛 (‵ (SpotsFrom E 𝓛 b o 0 front)) (values_in E 𝓛 b o xs 0) $ move ! (1 ∷ []) $
      as_written ! (ty_array (elτ E) (cap - len)) b (o + len * sz E) $
      rewrite ! 0 (λ (k : ℕ). ‵ (froom (ty_array (elτ E) (cap - len)) b k)) (sym far) refl $
      use1 𝓛 (‵ (SpotsFrom E 𝓛 b o len none)) (empties E 𝓛 b o (cap - len) len) $
      move ! (1 ∷ 0 ∷ []) $ use2 𝓛 (‵ (SpotsFrom E 𝓛 b o 0 (front ++ none)))
      (join_spots 𝓛 (Spot E 𝓛 b o) front none 0 len (omega (arith, length-map xs Some, count)))
      $ check ! count $ done !)

module _ (E : El) (Z : Al) where
  -- the claim's word in memory, and its open borrow
  abbrev pub Mark : ℕ → ℕ → Fml
  Mark cb co = cell_at full_share (Cl E Z).mir (mark ∷ []) cb co

  abbrev pub OpenClaim : Lft → Share → GName → ℕ → ℕ → Fml
  OpenClaim κ q γ cb co = fobor κ q (Body (mem (Cl E Z)) cb co γ)

  -- a block with values, for as many as `cap`
  abbrev pub Filled : Z.row.Denot → ℕ → ℕ → List (el_x E) → ℕ → ℕ → Fml
  Filled h n cap xs b o = block_with_items (token Z h) (R E) (block_ptr b o) n cap xs

  -- the row that a block is
  abbrev pub resized : ℕ → ℕ → List (Place E) → ℕ → (Rw E).Denot
  resized b o front more = record { ptr = block_ptr b o; places = front ++ replicate more None }

module _ (E : El) (Z : Al) {M : Type 1} {𝓤 : Ura M} {𝓛 : Logic 𝓤} {K : Type 0} {Γ : List (Item 𝓤)}
    {G : Goal 𝓤 𝓛.H} (h : Z.row.Denot) (n cap rb ro cb co : ℕ) (xs : List (el_x E)) where
  pub opens_block : K → Soaks G → {κ κ' : Lft} {q q' : Share} {γ γ' : GName} (d : (Rw E).Denot)
      (d' : (Cl E Z).Denot) → (d'.ptr ≡ d.ptr) × (d'.len ≡ cap) × (d'.alloc ≡ h)
      → length d.places ≡ cap → n ≤ cap → 0 < cap * sz E → take n d.places ≡ map Some xs
      → ((b o : ℕ) → d.ptr ≡ block_ptr b o → Small (R E) d
      → Seq K 𝓛 (‵ (Filled E Z h n cap xs b o) ∷ ‵ (Word E b o rb ro) ∷ ‵ (Open E κ q γ rb ro)
      ∷ ‵ (fobs γ ((Rw E).coded.code d)) ∷ ‵ (fauth γ ((Rw E).coded.code d))
      ∷ ‵ (Mark E Z cb co) ∷ ‵ (OpenClaim E Z κ' q' γ' cb co) ∷ ‵ (fobs γ' ((Cl E Z).coded.code d'))
      ∷ ‵ (fauth γ' ((Cl E Z).coded.code d')) ∷ Γ) G)
      → Seq K 𝓛 (‵ (fobs γ' ((Cl E Z).coded.code d')) ∷ ‵ (fbor κ' (Body (mem (Cl E Z)) cb co γ'))
      ∷ ‵ (flft κ' q') ∷ ‵ (fobs γ ((Rw E).coded.code d))
      ∷ ‵ (fbor κ (Body (mem (Rw E)) rb ro γ)) ∷ ‵ (flft κ q) ∷ Γ) G
  opens_block t z d d' held all le some filled k =
      opens t z (Cl E Z) {h = d'} cb co
      (λ vs. move t (1 ∷ []) $ claim_had E Z t d' vs (λ marked. move t (1 ∷ []) $
      rewrite t 0 (λ (ws : List Val). ‵ (cell_at full_share (Cl E Z).mir ws cb co)) marked refl $
      move t (5 ∷ 6 ∷ 7 ∷ []) $ opens_row E t z d rb ro (λ b o lies small. move t (6 ∷ []) $
      rewrite t 0 (λ (w : Z.row.Denot × Ptr × ℕ). ‵ (Right E Z w.0 w.1 w.2))
      (λ i. (held.2 i, (held.0 ∙ lies) i, held.1 i)) refl $
      use1 𝓛 (‵ (token Z h (array_of (R E) cap) (block_ptr b o)))
      (right_had E 𝓛 (token Z h) (block_ptr b o) cap (cap * sz E) some) $ move t (1 ∷ 0 ∷ []) $
      use2 𝓛 (‵ (Filled E Z h n cap xs b o))
      (block_of_row E 𝓛 (token Z h) b o n cap d.places xs filled all le) $ k b o lies small)))

  pub closes_block : K → Soaks G → {κ κ' : Lft} {q q' : Share} {γ γ' : GName} {u v u' v' : Gv}
      (b o : ℕ) (front : List (Place E)) → front ≡ map Some xs → n ≤ cap → IsCapacity (R E) cap
      → Step K 𝓛 (‵ (fobs γ ((Rw E).coded.code (resized E Z b o front (cap - n))))
      ∷ ‵ (fbor κ (Body (mem (Rw E)) rb ro γ)) ∷ ‵ (flft κ q)
      ∷ ‵ (fobs γ' ((Cl E Z).coded.code (claim_of E Z h (block_ptr b o) cap)))
      ∷ ‵ (fbor κ' (Body (mem (Cl E Z)) cb co γ')) ∷ ‵ (flft κ' q') ∷ Γ) G
      (‵ (Filled E Z h n cap xs b o) ∷ ‵ (Word E b o rb ro) ∷ ‵ (Open E κ q γ rb ro) ∷ ‵ (fobs γ u)
      ∷ ‵ (fauth γ v) ∷ ‵ (Mark E Z cb co) ∷ ‵ (OpenClaim E Z κ' q' γ' cb co) ∷ ‵ (fobs γ' u')
      ∷ ‵ (fauth γ' v') ∷ Γ) G
  closes_block t z b o front filled le room =
      step (λ s. let none : List (Place E) = replicate (cap - n) None in
      let row = resized E Z b o front (cap - n) in let p : Ptr = block_ptr b o in
      use1 𝓛 (given (length xs ≡ n)
      (‵ (SpotsFrom E 𝓛 b o 0 (map Some xs ++ none)) ⊛ ‵ (token Z h (array_of (R E) cap) p)))
      (row_of_block E 𝓛 (token Z h) b o n cap xs) $ learn t (λ count. split t $
      let long : length row.places ≡ cap = omega (
        arith,
        length-append front none,
        ap (λ (ds : List (Place E)). length ds) filled,
        length-map xs Some,
        count,
        length-replicate {A = Place E} (cap - n) None,
        le,
      ) in
      rewrite t 0 (λ (ds : List (Place E)). ‵ (SpotsFrom E 𝓛 b o 0 (ds ++ none)))
      (sym filled) refl $ move t (0 ∷ 2 ∷ 3 ∷ 4 ∷ 5 ∷ []) $
      closes_row E t z row rb ro b o row.places refl
      (subst (λ (j : ℕ). j * sz E < 2 ^ 63) (sym long) room.0) $ move t (3 ∷ []) $
      use1 𝓛 (‵ (Right E Z h p cap)) (right_made E 𝓛 (token Z h) p cap (cap * sz E)) $
      claim_made E Z t h p cap room $ move t (4 ∷ 0 ∷ 5 ∷ 6 ∷ 7 ∷ []) $
      closes t z (Cl E Z) (claim_of E Z h p cap) (mark ∷ []) cb co $ move t (3 ∷ 4 ∷ 5 ∷ []) $ s))
