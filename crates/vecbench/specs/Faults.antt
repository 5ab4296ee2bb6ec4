-- The text of a fault, and its exit status.
use Rattle.std.specs.Prelude.{◌≡◌, ℕ, List, ◌++◌, ⊤, codes, decimal, ◌↔◌}
use Rattle.std.specs.IoError.{error_kind}
use Rattle.std.specs.declared.io.Error.{Error}
use Rattle.std.specs.declared.io.ErrorKind.TheVariants.{OutOfMemory as OutOfMemoryError}
use Rattle.vecbench.specs.declared.bench.Fault.{Fault}
use Rattle.vecbench.specs.declared.bench.Fault.TheVariants.{BadLine, OutOfMemory, InputOutput}

abbrev pub status_of : Fault → ℕ
status_of (BadLine number) = 1
status_of OutOfMemory = 2
status_of InputOutput = 3

abbrev pub fault_text : Fault → List ℕ
fault_text (BadLine number) = codes "bad line " ++ decimal number
fault_text OutOfMemory = codes "out of memory"
fault_text InputOutput = codes "input or output failed"

-- `fault` names no line
abbrev pub NamesNoLine : Fault → Type 0
NamesNoLine (BadLine number) = ⊥
NamesNoLine OutOfMemory = ⊤
NamesNoLine InputOutput = ⊤

-- `fault` is the fault of an input or output error `error`: no bad line, and out of memory just if
-- the error is
pub record IsFaultOf (error : Error) (fault : Fault) : Type 0 where
  pub names_no_line : NamesNoLine fault
  pub memory : (fault ≡ OutOfMemory) ↔ (error_kind error ≡ OutOfMemoryError)
