use Rattle.vecscript.proofs.Common.{refl}
use Rattle.std.specs.contracts.prelude.U8PartialEq.TheImpl.{ghosts}
use Rattle.vecscript.specs.Faults.{fault_text}
use Rattle.vecscript.specs.Print.{line_of}
use Rattle.vecscript.proofs.Beginnings.{whole-text}
use Rattle.vecscript.proofs.script.report.Goals as goal

-- the line was not cut, and a beginning of it was written
pub returns : goal.returns
returns g c =
    let whole = whole-text ghosts.eq (line_of (fault_text c.args.fault.now)) _ refl c.of-text.ensures.text (rw (c.as_bytes-line.ensures.value, c.as_str.ensures.value) at c.if-ends_with.ensures.value) in
    rw (c.as_bytes-line.ensures.value, c.as_str.ensures.value, whole) at c.write_text.ensures.part
