use Rattle.std.proofs.Common.{List, ap, arith, length, rules, ◌≤◌, ◌∙◌, ◌≡◌}
use Rattle.aa_ordered_set.proofs.Combining.{counted, made-set}
use Rattle.aa_ordered_set.proofs.operators.RefOrderedSetBitAnd.bitand.Goals as goal

pub clones_of-requires : goal.clones_of-requires
clones_of-requires g c =
    let many = counted _ c.intersection.result c.in-Some.count c.in-Some.ensures c.intersection.ensures in
    let enough : (it : List g.row.T.Denot) → it ≡ c.intersection-2.result → length it ≤ c.in-Some.count = λ it is. omega (arith, many, ap length (is ∙ c.intersection-2.ensures)) in
    search (rules, enough)

pub returns : goal.returns
returns g c =
    let many = counted _ c.intersection.result c.in-Some.count c.in-Some.ensures c.intersection.ensures in
    made-set g.T.Ord.cmp g.T.Clone.is_clone _ c.intersection-2.result c.in-Some.count c.clones_of.result many c.intersection-2.ensures c.clones_of.ensures.made c.clones_of.ensures.error
