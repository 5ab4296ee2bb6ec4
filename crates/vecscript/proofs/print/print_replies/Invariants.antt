use Rattle.vecscript.proofs.Common.{◌≡◌, ◌++◌, take, replies_text}
use Rattle.vecscript.proofs.print.print_replies.Given as goal

abbrev pub invariant-loop-reply : goal.invariant-loop-reply
invariant-loop-reply l = l.output.items ≡ l.initial.output.items ++ replies_text (take l.reply-index l.replies)
