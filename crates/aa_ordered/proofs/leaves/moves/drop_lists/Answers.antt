use Rattle.std.proofs.Common.{◌*◌, ◌<◌, None, get_or, length, replicate, ◌∙◌}
use Rattle.std.proofs.lemmas.List.{get_or_default, length-replicate}
use Rattle.aa_raw.proofs.Places.{length-with_run}
use Rattle.aa_ordered.proofs.Edits.{head, held-emptied, held-first}
use Rattle.aa_ordered.proofs.leaves.moves.drop_lists.Goals as goal

pub drop_run-requires : goal.drop_run-requires
drop_run-requires g c =
    let hs = c.args.heads.now in let i = c.each.i in let h = get_or hs i (head 0 0) in let lt : i < length hs = c.each-test.true in
    (held-first c.each.block.places hs c.requires.once i h (get_or_default hs i (head 0 0) h lt) lt c.each.invariant.held).1

pub each-preserved : goal.each-preserved
each-preserved g c =
    let hs = c.args.heads.now in let i = c.each.i in let h = get_or hs i (head 0 0) in let lt : i < length hs = c.each-test.true in let read = get_or_default hs i (head 0 0) h lt in
    let cs = c.each.block.places in let first = held-first cs hs c.requires.once i h read lt c.each.invariant.held in
    rw c.drop_run.ensures (record {
      count = length-with_run cs (h.leaf * 64) h.len (replicate h.len None) first.1.0 (length-replicate h.len None) ∙ c.each.invariant.count;
      held = held-emptied cs hs c.requires.once i h read lt c.each.invariant.held;
    })
