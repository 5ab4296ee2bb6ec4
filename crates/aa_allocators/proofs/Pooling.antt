-- What the walks of a pool's calls have in common. Assumes `Logic`.
--     shelf_of      where the shelf of a `Pool` lies
--     Shelved      the shelf, with a pool's right to free a block
--     passes_shelf      a call of the shelf is passed what one of that allocator is, but names the handle's lifetime
--     reaches      a `&Pool` is a `&` to its inner allocator and one to its shelf
pub use Rattle.aa_watched.proofs.Walk.{◌≡◌, ℕ, ◌+◌, ◌<◌, ◌^◌, Bool, List, [], ◌∷◌, refl, ap, w64, Bor, true, false, Ok, Err, T, arith, lit<, subst, sym, ◌*◌, ◌++◌, ◌/◌, ◌∙◌, ◌%◌, block_if_ok, owned_block, bool, Al, α, seen, token, Answer, answer_val, Answer-typed, Answer-Ok, Answer-err, Takes, at_takes, Answered, Takes-goes, Takes-gives, answers, Gives, at_gives, Gives-goes, Gives-Gives, after, front, arm_body, proved, leaves, Ura, inst_fn, named, Fn, Body, Ty, ty_array, ty_ptr, ty_unit, Val, vunit, vint, vptr, vbool, WT, has_ty, Fml, Lft, ftrue, flft, fex, froom, fwand, SProp, ent, emp, sep, fst∗, never, ◌⊑◌, ⊑_trans, ⊑_meet, ⊑_static, fact, fact_i, tables, Dv, dv_self, capped_is, size, align, up, capped, Env, Wp, after_seq, at_return, WpFn, alloc_all, pass_all, free_all, look_at, get, get_in, get_tag, through, sets, sets_last, lands_as, env, lands_last, ‵, raw, ◌⊛◌, some, later, ◌$◌, ◌∵◌, !, qed, move, keep, drop, use0, use1, use2, split, split3, join, pick, fsplit, fjoin, feq_i, feq_l, await, done, prop, at_ret, any_q, Sq, Post, given, learn, suffices, group, regoal, fpack, fpick, rewrite, Logic, sem, vrt, in_variant, agg, whole, stop, fld, addr, lit, no_more, and_then, of_opd, first, branches, skips, switches_on, exec, returns, returns_within, enter, unit_lit, blocks, false_lit, true_lit, unhide, hide, param, layout, param_laws, uint_vals, uint_Tells, owns, Ptr, block_ptr, null_ptr, ptr_val, in_a_block, rawptr_vals, rawptr_Tells, ShrRef, shr_vals, Signature, types_at, nothing, only, heard, Bound, calls_at, calls_at_last, on_entry, triple_of, framed, walk_of, ends_at, inner_of, dropped, gone, trues, spent, ended}
pub use Rattle.aa_allocators.proofs.Shelving.{block_unless, generics, right_to}
use Rattle.aa_allocators.specs.contracts.pool.Pool as pool
use Rattle.aa_allocators.specs.contracts.shelf.Shelf as shelf
use Rattle.aa_allocators.proofs.shelf.Shelf.TheLaws.{the_row_laws}

module _ (Z : Al) where
  abbrev pub shelf_of : ℕ × ℕ → ℕ × ℕ
  shelf_of at = (at.0, at.1 + up (align (layout (shelf.the_row (param 0 Z.row) Z.g))) (up 8 (up (align (α Z)) 0 + size (α Z)) + 8))

  -- the shelf, as an allocator: what it allocates, a pool may free
  abbrev pub Shelved : Al
  Shelved = record Z { row = shelf.the_row (param 0 Z.row) Z.g; laws = the_row_laws (param 0 Z.row) Z.g (param_laws 0 Z.row Z.laws); g = record { dealloc_token = λ heap. right_to (Z.g.dealloc_token heap) } }

  pub passes_shelf : {M : Type 1} {𝓤 : Ura M} (𝓛 : Logic 𝓤) (κ : Lft) → κ ⊑ Z.row.lives → (S : Signature) (y : Bound 𝓛 S) {X : SProp 𝓤} (R : SProp 𝓤)
      → (κ ⊑ Shelved.row.lives → ent 𝓤 X (sep 𝓤 (on_entry 𝓛 S y.0 y.1 y.3 y.4) (sep 𝓤 (fact 𝓤 (κ ⊑ Shelved.row.lives)) R)))
      → ent 𝓤 X (sep 𝓤 (on_entry 𝓛 S y.0 y.1 y.3 y.4) (sep 𝓤 (fact 𝓤 (κ ⊑ Z.row.lives)) R))
  passes_shelf {𝓤 = 𝓤} 𝓛 κ le S y {X} R goes =
      let L : Lft = Z.row.lives ++ [] in let one : κ ⊑ L = ⊑_meet κ Z.row.lives [] le (⊑_static κ) in
      let within : κ ⊑ Shelved.row.lives = ⊑_meet κ L ((L ++ []) ++ []) one (⊑_meet κ (L ++ []) [] (⊑_meet κ L [] one (⊑_static κ)) (⊑_static κ)) in
      qed 𝓛 (raw X ∷ []) ∵ use1 𝓛 (raw (on_entry 𝓛 S y.0 y.1 y.3 y.4) ⊛ raw (fact 𝓤 (κ ⊑ Shelved.row.lives)) ⊛ raw R) (goes within) $ split3 ! $
      move ! (1 ∷ []) $ drop ! $ use0 𝓛 (raw (fact 𝓤 (κ ⊑ Z.row.lives))) (fact_i 𝓤 (κ ⊑ Z.row.lives) (emp 𝓤) le) $ move ! (1 ∷ 0 ∷ 2 ∷ []) $ done !

  pub reaches : {M : Type 1} {𝓤 : Ura M} (𝓛 : Logic 𝓤) (κ : Lft) (r : Bor (pool.the_row Z.row Z.g).Denot)
      → ent 𝓤 (sem 𝓛 ((ShrRef (named 0) κ (pool.the_row (param 0 Z.row) Z.g)).own_val r (shr_vals r)))
      (sep 𝓤 (sem 𝓛 (seen Z κ (inner_of Z r.ref_ptr) r.now.inner)) (sem 𝓛 (seen Shelved κ (shelf_of r.ref_ptr) r.now.inner)))
  reaches 𝓛 κ r =
      qed 𝓛 (‵ ((ShrRef (named 0) κ (pool.the_row (param 0 Z.row) Z.g)).own_val r (shr_vals r)) ∷ []) ∵
      fsplit ! $ drop ! $ unhide ! $ fsplit ! $ fsplit ! $ move ! (1 ∷ []) $ fsplit ! $ move ! (1 ∷ []) $ fsplit ! $ hide ! $
      rewrite ! 0 (λ (h : Z.row.Denot). ‵ (seen Shelved κ (shelf_of r.ref_ptr) h)) r.now.ours refl $ keep ! (3 ∷ 0 ∷ []) $ done !
