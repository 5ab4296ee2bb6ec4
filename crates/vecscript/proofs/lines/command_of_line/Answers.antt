use Rattle.vecscript.proofs.Common.{rules}
use Rattle.vecscript.proofs.Looks.{bad-unpushed, bad-unread}
use Rattle.vecscript.proofs.lines.command_of_line.Goals as goal

-- the words are no push
pub returns-in_err-command-in-Some-pushed-clause-error : goal.returns-in_err-command-in-Some-pushed-clause-error
returns-in_err-command-in-Some-pushed-clause-error c =
    let push = c.in-Some-pushed.ensures in
    let bad = bad-unpushed c.args.number c.args.line.now _ (rw push.0 at c.in-Some.ensures.steps) c.in-Some-pushed.command push.1 in
    search (rules, bad)

-- the words are no other command
pub returns-in-None-clause-error : goal.returns-in-None-clause-error
returns-in-None-clause-error c = bad-unread c.args.number c.args.line.now _ _ c.in-Some.ensures.steps c.other_command.result c.other_command.ensures
