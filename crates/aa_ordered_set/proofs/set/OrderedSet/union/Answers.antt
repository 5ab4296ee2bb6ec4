use Rattle.std.proofs.Common.{true, subst, sym, ◌∙◌, ◌≡◌}
use Rattle.std.specs.Set.{sorted_merge}
use Rattle.std_collections.proofs.SortedSets.{sorted_merged}
use Rattle.aa_ordered_set.specs.Sets.{IsAscending}
use Rattle.aa_ordered_set.proofs.set.OrderedSet.union.Goals as goal

pub returns : goal.returns
returns g c =
    let cmp = g.T.Ord.cmp in let xs = c.args.self.now.elements in let ys = c.args.other.now.elements in
    let merged : sorted_merge cmp true c.of.result c.of-2.result ≡ sorted_merge cmp true xs ys =
    λ i. sorted_merge cmp true ((c.of.ensures ∙ c.iter.ensures.all) i) ((c.of-2.ensures ∙ c.iter-2.ensures.all) i) in
    record {
      merged = merged;
      ascending = subst (IsAscending cmp) (sym merged) (sorted_merged g.met.T.Ord.total true xs ys c.iter.ensures.ascending c.iter-2.ensures.ascending);
    }
