use Rattle.std.proofs.Common.{None, arith, get_or-drop, ◌+◌, ◌∙◌}
use Rattle.aa_table.specs.Places.{hashes}
use Rattle.aa_table.proofs.Moving.{past}
use Rattle.aa_table.proofs.Placed.{free}
use Rattle.aa_table.proofs.Retaining.{passed-all}
use Rattle.aa_table.proofs.table.retain.retain_in.Goals as goal

pub returns-clause-kept : goal.returns-clause-kept
returns-clause-kept g c =
    let i = c.each.invariant in let cs = c.each.places.places in let at = c.each.slot in
    let h = hashes g.S.BuildHasher g.S.Hasher.Hasher g.K.Hash.hash_input c.args.builder.now in
    passed-all g.P.Keeper.calls c.args.keeper.now c.args.places.now.places cs c.each.keeper at i.passed
    (λ s. get_or-drop at cs s None ∙ free h cs i.index (at + s) (past c.each.index.tags.items (at + s) (omega (arith, c.each-test.false, i.slots, c.len-slot-end.ensures.count))))
