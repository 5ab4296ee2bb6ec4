use Rattle.std.proofs.Common.{◌≡◌, ◌++◌, take}
use Rattle.vecscript.specs.Print.{elements_text}
use Rattle.vecscript.proofs.print.print_elements.Given as goal

abbrev pub invariant-loop-x : goal.invariant-loop-x
invariant-loop-x l = l.output.items ≡ l.initial.output.items ++ elements_text (take l.x-index l.elements)
