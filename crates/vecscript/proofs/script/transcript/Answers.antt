use Rattle.vecscript.proofs.Common.{arith, lines, nat_tests, command_lines}
use Rattle.vecscript.proofs.Sparing.{found-after, found-after-fits, good-after, length-command_lines}
use Rattle.vecscript.proofs.TextLines.{length-lines}
use Rattle.vecscript.proofs.Pieces.{HasRun-start, HasRun-next, HasRun-end, HasRun-prints}
use Rattle.vecscript.proofs.script.transcript.Goals as goal

-- nothing was run
pub pieces-init : goal.pieces-init
pieces-init g c =
    rw (c.new-transcript.ensures.items, c.of-rest.ensures)
    (HasRun-start _ c.chosen_growth-growth.result.0 _ _ c.args.keep.now c.args.same.now _ c.chosen_growth-growth.result.2.now _
    (rw c.deref.ensures.value at c.chosen_growth-growth.ensures.after) c.with_growth_in-main.ensures.made c.with_growth_in-side.ensures.made)

-- a piece more was run
pub pieces-preserved : goal.pieces-preserved
pieces-preserved g c =
    HasRun-next _ _ _ c.pieces.rest.text.now _ _ c.pieces.invariant _ _ _ _ c.in-Ok.ensures.ran.2 c.in-Ok.ensures.ran.1

-- it could not be run, and a line among all may be bad
pub after-requires : goal.after-requires
after-requires g c =
    let ls = lines c.args.text.items in let after = rw c.deref.ensures.value at c.chosen_growth-growth.ensures.after in
    λ number is. omega (arith, found-after-fits _ _ (command_lines ls) after c.fault.result c.fault.ensures.found.0 number is, length-command_lines ls, length-lines c.args.text.items, c.args.text.small)

pub returns-in_default-clause-error : goal.returns-in_default-clause-error
returns-in_default-clause-error g c =
    rw c.after.ensures (found-after _ _ _ (rw c.deref.ensures.value at c.chosen_growth-growth.ensures.after) c.fault.result c.fault.ensures.found)

pub returns-in_default-clause-good_if_out_of_memory : goal.returns-in_default-clause-good_if_out_of_memory
returns-in_default-clause-good_if_out_of_memory g c =
    rw c.after.ensures (good-after _ _ _ (rw c.deref.ensures.value at c.chosen_growth-growth.ensures.after) c.fault.result c.fault.ensures.good_if_out_of_memory)

-- all pieces were run, so that no line is bad
pub returns-clause-good_if_out_of_memory : goal.returns-clause-good_if_out_of_memory
returns-clause-good_if_out_of_memory g c = λ refused. (HasRun-end _ _ _ c.pieces.rest.text.now c.pieces.transcript.items _ c.pieces.invariant (grind (arith, nat_tests))).good

pub returns-in-Ok-print_lists-clause-good : goal.returns-in-Ok-print_lists-clause-good
returns-in-Ok-print_lists-clause-good g c = (HasRun-end _ _ _ c.pieces.rest.text.now c.pieces.transcript.items _ c.pieces.invariant (grind (arith, nat_tests))).good

pub returns-in-Ok-print_lists-clause-printed : goal.returns-in-Ok-print_lists-clause-printed
returns-in-Ok-print_lists-clause-printed g c =
    let grows = (rw c.deref.ensures.value at c.chosen_growth-growth.ensures.growth) in let main = c.with_growth_in-main in let side = c.with_growth_in-side in
    HasRun-prints _ c.args.alloc c.args.keep.now c.args.same.now (lines c.args.text.items) main.result side.result _ c.pieces.rest.text.now _ _
    (rw grows at main.ensures.made, main.ensures.alloc) (rw grows at side.ensures.made, side.ensures.alloc) c.pieces.invariant (grind (arith, nat_tests)) c.in-Ok-print_lists.ensures
