use Rattle.std.proofs.Common.{rules}
use Rattle.aa_vec.proofs.Counted.{ExtendsAll-items, ExtendsFull-items}
use Rattle.allocator_api2.proofs.ByKind.{failed_by_kind}
use Rattle.allocator_api2.proofs.ExtendErrors.{stops-full}
use Rattle.allocator_api2.proofs.runner.commands.extend.Goals as goal

pub returns-in-Ok : goal.returns-in-Ok
returns-in-Ok g c =
    let extended = rw c.new.ensures at
    (ExtendsAll-items _ _ _ _ _ c.in-Ok.ensures.extended.1.appended) in
    search (rules, extended)

pub returns-in-Err : goal.returns-in-Err
returns-in-Err g c =
    let extended = rw c.new.ensures at
    (ExtendsFull-items _ _ _ _ _ _ c.in-Err.ensures.extended.1.error) in
    let misfits = stops-full _ _ _ _ _ _ _ extended in
    search (rules, extended, misfits, failed_by_kind)
