use Rattle.aa_ordered_set.proofs.extend.OrderedSetExtendRef.TheImpl.Goals as goal

pub extend-asks : goal.extend-asks
extend-asks g c =
    record { finite = λ it becomes. let asked = c.requires it becomes in (asked.0, asked.1) }
