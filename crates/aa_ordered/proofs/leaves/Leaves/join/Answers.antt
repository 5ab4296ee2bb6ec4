use Rattle.std.proofs.Common.{◌+◌, ◌≤◌, ◌++◌, ◌∷◌, [], ap, drop, le_of_eq, length, sym, take, take_all, ◌∙◌}
use Rattle.aa_ordered.specs.Leaves.{LeavesView, list_at, replaced, with_lists}
use Rattle.aa_ordered.proofs.Edits.{second-gone}
use Rattle.aa_ordered.proofs.leaves.Leaves.join.Goals as goal

pub returns : goal.returns
returns g c =
    let v = c.args.self.now in let i = c.args.i in let xs = list_at v i in let ys = list_at v (i + 1) in let k = length c.list-count.result.now in
    let all : length ys ≤ k = le_of_eq (sym (ap length c.list-count.ensures.list)) in
    c.drop_list.ensures ∙ ap (λ (w : LeavesView _). with_lists w (replaced w.lists (i + 1) 1 [])) c.shift_back.ensures
    ∙ ap (with_lists v) (second-gone v.lists i c.requires.lists (xs ++ take k ys) (drop k ys) ∙ ap (λ zs. replaced v.lists i 2 ((xs ++ zs) ∷ [])) (take_all k ys all))
