use Rattle.std.proofs.Common.{◌≡◌, ap, flat_map, length, subst, sum_by, sym, take, ◌∙◌}
use Rattle.std.proofs.lemmas.List.Folds.{flat_map-map}
use Rattle.allocator_api2.specs.IntoIter.{Remaining}
use Rattle.allocator_api2.specs.Vector.{Vector}
use Rattle.aa_ordered.specs.Arena.{list_of}
use Rattle.aa_ordered.specs.Leaves.{LeavesView, items}
use Rattle.aa_ordered.specs.Taking.{rest_of, AreParts}
use Rattle.aa_ordered.specs.declared.leaves.Head.{Head}
use Rattle.aa_ordered.proofs.Taking.{all-count, all-parts, all-rest, part}
use Rattle.aa_ordered.proofs.leaves.Leaves.into_items.Goals as goal

pub invariant_of-result : goal.invariant_of-result
invariant_of-result g c =
    let a = c.self.inside in let cs = a.block.places in let hs = take a.used a.heads.items in
    let cut : c.truncate.new.self.items ≡ hs = ap (λ (v : Vector Head _). v.items) c.truncate.ensures.truncated in
    let is : c.into_iter.result.items ≡ hs = ap (λ (r : Remaining Head _). r.items) c.into_iter.ensures ∙ cut in
    let left : c.count_items-left.result ≡ length (flat_map (list_of cs) hs) = c.count_items-left.ensures ∙ ap (sum_by (λ (h : Head). h.len)) (c.as_slice.ensures ∙ cut) ∙ all-count cs hs c.self.invariant.held in
    subst (λ gs. AreParts cs (part 0 0) gs (part 0 0) × (c.count_items-left.result ≡ length (rest_of cs (part 0 0) gs (part 0 0)))) (sym is)
    (all-parts cs a.heads.items a.used c.self.invariant, left ∙ sym (ap length (all-rest cs hs)))

pub returns : goal.returns
returns g c =
    let a = c.self.inside in let cs = a.block.places in let hs = take a.used a.heads.items in
    let cut : c.truncate.new.self.items ≡ hs = ap (λ (v : Vector Head _). v.items) c.truncate.ensures.truncated in
    let is : c.into_iter.result.items ≡ hs = ap (λ (r : Remaining Head _). r.items) c.into_iter.ensures ∙ cut in
    let left : c.count_items-left.result ≡ length (flat_map (list_of cs) hs) = c.count_items-left.ensures ∙ ap (sum_by (λ (h : Head). h.len)) (c.as_slice.ensures ∙ cut) ∙ all-count cs hs c.self.invariant.held in
    ap (λ gs. rest_of cs (part 0 0) gs (part 0 0)) is ∙ all-rest cs hs ∙ sym (flat_map-map (λ l. l) (list_of cs) hs) ∙ ap (λ (v : LeavesView _). items v) c.self.view_is
