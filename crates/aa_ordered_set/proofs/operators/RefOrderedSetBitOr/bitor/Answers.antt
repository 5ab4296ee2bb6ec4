use Rattle.std.proofs.Common.{List, ap, arith, length, rules, ◌≤◌, ◌∙◌, ◌≡◌}
use Rattle.aa_ordered_set.proofs.Combining.{counted, made-set}
use Rattle.aa_ordered_set.proofs.operators.RefOrderedSetBitOr.bitor.Goals as goal

pub clones_of-requires : goal.clones_of-requires
clones_of-requires g c =
    let many = counted _ c.union.result c.in-Some.count c.in-Some.ensures c.union.ensures.merged in
    let enough : (it : List g.row.T.Denot) → it ≡ c.union-2.result → length it ≤ c.in-Some.count = λ it is. omega (arith, many, ap length (is ∙ c.union-2.ensures.merged)) in
    search (rules, enough)

pub returns : goal.returns
returns g c =
    let many = counted _ c.union.result c.in-Some.count c.in-Some.ensures c.union.ensures.merged in
    made-set g.T.Ord.cmp g.T.Clone.is_clone _ c.union-2.result c.in-Some.count c.clones_of.result many c.union-2.ensures.merged c.clones_of.ensures.made c.clones_of.ensures.error
