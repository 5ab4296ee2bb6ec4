use Rattle.guide.proofs.laws.distinct_sorted_keys.Goals as goal

pub returns : goal.returns
returns g c =
    rw c.distinct_keys.ensures.kept (c.dedup_by_removes_all_duplicates_of_sorted.ensures.by_key (λ p. p.0) _ c.requires.sorted)
