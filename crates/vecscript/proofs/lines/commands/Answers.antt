use Rattle.vecscript.proofs.Common.{◌≡◌, inl, [], ap, arith}
use Rattle.allocator_api2.specs.Vector.{Vector}
use Rattle.vecscript.proofs.Read.{AreRead, HasSeen-start, HasSeen-next, AreRead-next, HasNoBad-none, with_command}
use Rattle.vecscript.proofs.lines.commands.Goals as goal

-- no line is read yet
pub loop-index-init : goal.loop-index-init
loop-index-init c =
    let enumerated = c.enumerate-index-items.ensures in
    let read = HasSeen-start (AreRead []) c.args.text.now (HasNoBad-none, tt) in
    rw (c.in_ok-commands.ensures.made.items, c.into_iter-index-iterator.ensures.into_iter_gives, enumerated.source, enumerated.count)
    ((tt, tt, inl (omega arith)), tt, read)

-- the line that was taken is read
pub loop-index-preserved-in-Continue-branch-4 : goal.loop-index-preserved-in-Continue-branch-4
loop-index-preserved-in-Continue-branch-4 c =
    let read = HasSeen-next _ (AreRead (with_command c.loop-index.commands.items c.in_ok-command.field-0)) _ _ c.next.new.self.iter.rest.now _ _ _ c.loop-index.invariant.2 c.in-Some.ensures.steps.0 c.in-Some.ensures.steps.2
    (AreRead-next c.in-Some.line.now c.loop-index.commands.items c.in_ok-command.field-0 c.in_ok-command.ensures.parsed) in
    let more : c.push.new.self.items ≡ with_command c.loop-index.commands.items c.in_ok-command.field-0 =
    rw c.in-Some-2.is (ap (λ (v : Vector _ _). v.items) c.in_ok-push.ensures.pushed) in
    ((tt, tt, inl (omega arith)), tt, rw more read)

pub loop-index-preserved : goal.loop-index-preserved
loop-index-preserved c =
    let read = HasSeen-next _ (AreRead (with_command c.loop-index.commands.items c.in_ok-command.field-0)) _ _ c.next.new.self.iter.rest.now _ _ _ c.loop-index.invariant.2 c.in-Some.ensures.steps.0 c.in-Some.ensures.steps.2
    (AreRead-next c.in-Some.line.now c.loop-index.commands.items c.in_ok-command.field-0 c.in_ok-command.ensures.parsed) in
    ((tt, tt, inl (omega arith)), tt, rw c.in_default.is at read)
