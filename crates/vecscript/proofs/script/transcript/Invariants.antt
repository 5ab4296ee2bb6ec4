use Rattle.vecscript.proofs.Common.{◌≡◌, length, lines, state_of, command_lines}
use Rattle.std.specs.Prelude.{⊤}
use Rattle.allocator_api2.specs.Machine.{calls_of}
use Rattle.vecscript.proofs.Pieces.{HasRun}
use Rattle.vecscript.proofs.script.transcript.Given as goal

abbrev pub invariant-pieces : goal.invariant-pieces
invariant-pieces g l =
    HasRun (calls_of (λ a b. b ≡ a) (λ _. ⊤) g.K.FnMut g.S.FnMut)
    (state_of l.initial.main l.initial.side l.initial.keep l.initial.same) (command_lines (lines l.fn.text.items)) l.rest.text.now l.transcript.items
    (state_of l.main l.side l.keep l.same)

abbrev pub decreases-pieces : goal.decreases-pieces
decreases-pieces g l = length l.rest.text.now
