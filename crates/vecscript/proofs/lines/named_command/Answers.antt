use Rattle.vecscript.proofs.Common.{◌≡◌, false, codes, rules}
use Rattle.std.specs.Str.{bytes_eq}
use Rattle.vecscript.proofs.Table.{read-after, read-extend, read-splice}
use Rattle.vecscript.proofs.lines.named_command.Goals as goal

pub returns-then-eq : goal.returns-then-eq
returns-then-eq c =
    let extend : c.args.name.now ≡ codes "extend" = search (rules, c.if-eq.ensures, c.as_slice.ensures) in
    read-extend _ _ _ _ extend (search rules)

pub returns-then-eq-2 : goal.returns-then-eq-2
returns-then-eq-2 c =
    let splice : c.args.name.now ≡ codes "splice" = search (rules, c.if-eq-2.ensures, c.as_slice-2.ensures) in
    read-splice _ _ _ _ splice (search rules)

pub returns-else-eq-2 : goal.returns-else-eq-2
returns-else-eq-2 c =
    let no_extend : bytes_eq c.args.name.now (codes "extend") ≡ false = search (rules, c.if-eq.ensures, c.as_slice.ensures) in
    let no_splice : bytes_eq c.args.name.now (codes "splice") ≡ false = search (rules, c.if-eq-2.ensures, c.as_slice-2.ensures) in
    read-after c.args.name.now _ c.args.line.number c.command.result no_extend no_splice c.command.ensures
