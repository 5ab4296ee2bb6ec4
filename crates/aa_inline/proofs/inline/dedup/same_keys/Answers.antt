use Rattle.aa_inline.proofs.inline.dedup.same_keys.Goals as goal

pub call_on-second-requires : goal.call_on-second-requires
call_on-second-requires g c = c.requires.1 _ _ _ c.call_on-first.ensures
