use Rattle.aa_boxed.proofs.{IsRun-as_block, None, Option, Some, [], ap, is_some, param, refl, run-as_block, slice_of, true, type_size, value_of, ◌∙◌, ◌∷◌, ◌≡◌}
use Rattle.aa_boxed.proofs.boxed.Box.into_boxed_slice.Goals as goal
use Rattle.aa_boxed.specs.Slice.{new_slice, with_items}

held-is : {T : Type 0} (c : Option T) (h : is_some c ≡ true) → c ≡ Some (value_of c h)
held-is (Some x) h = refl
held-is None h = cc

pub from_block-requires-clause-filled : goal.from_block-requires-clause-filled
from_block-requires-clause-filled g c =
    let v = c.b.inside in let x = value_of v.block.place v.filled in
    rw c.into_raw_vec.ensures (IsRun-as_block _ v.block x (held-is v.block.place v.filled))

pub returns : goal.returns
returns g c =
    let v = c.b.inside in let x = value_of v.block.place v.filled in
    let size = type_size (param 0 g.row.T) in
    let items = run-as_block size v.block x (held-is v.block.place v.filled) in
    c.from_block.ensures ∙ ap (λ b. slice_of b 1) c.into_raw_vec.ensures
    ∙ ap (λ xs. with_items (new_slice size (x ∷ []) v.block.alloc) xs) items
    ∙ ap (λ b. new_slice size (b.value ∷ []) b.alloc) c.b.view_is
