use Rattle.std.proofs.Common.{◌≡◌, ◌++◌, ◌∷◌, [], ap, append_assoc, sym, ◌∙◌}
use Rattle.std.proofs.lemmas.List.Elements.{All-push}
use Rattle.aa_ordered.specs.declared.leaves.Head.{Head}
use Rattle.aa_ordered.proofs.leaves.taking.first_list.Goals as goal

pub each-preserved : goal.each-preserved
each-preserved g c =
    let inv = c.each.invariant in let h = c.in_ok-head.head in
    record {
      empty = inv.empty ++ h ∷ [];
      all = inv.all ∙ ap (λ zs. inv.empty ++ zs) c.in_ok-head.ensures.0 ∙ sym (append_assoc inv.empty (h ∷ []) c.next.new.self.items);
      none = All-push (λ (f : Head). f.len ≡ 0) inv.empty h inv.none c.if-head-ne0.false;
    }
