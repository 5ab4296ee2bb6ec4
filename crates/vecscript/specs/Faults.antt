-- What a fault says of the script, its exit status and its text.
use Rattle.std.specs.Prelude.{◌≡◌, ℕ, ◌+◌, List, ◌++◌, ⊤, Option, IfSome, Result, MatchResult, Bool, MatchBool, codes, decimal, ◌↔◌, ◌⊎◌}
use Rattle.std.specs.IoError.{error_kind}
use Rattle.std.specs.Str.Lines.{lines}
use Rattle.std.specs.declared.io.Error.{Error}
use Rattle.std.specs.declared.io.ErrorKind.{ErrorKind}
use Rattle.std.specs.declared.io.ErrorKind.TheVariants.{OutOfMemory as IoOutOfMemory, Other}
use Rattle.vecscript.specs.Lines.{IsFirstBad, command_lines}
use Rattle.vecscript.specs.declared.script.Fault.{Fault}
use Rattle.vecscript.specs.declared.script.Fault.TheVariants.{BadLine, OutOfMemory, InputOutput}

-- if the fault is a bad line, it is the first bad one of `lines`
abbrev pub IsFoundAmong : List (List ℕ) → Fault → Type 0
IsFoundAmong lines (BadLine number) = IsFirstBad lines number
IsFoundAmong lines OutOfMemory = ⊤
IsFoundAmong lines InputOutput = ⊤

-- if the fault is a bad line and the text of the script is known, it is the script's first bad line
abbrev pub IsFoundIn : Option (List ℕ) → Fault → Type 0
IsFoundIn text fault = IfSome text (λ bytes. IsFoundAmong (command_lines (lines bytes)) fault)

-- the same fault of lines that follow `before` others
abbrev pub after : ℕ → Fault → Fault
after before (BadLine number) = BadLine (before + number)
after before fault = fault

-- `r` is a value that satisfies `P`, or the fault that the line of this number is bad, if there is
-- no such value
abbrev pub ReadsAs : {X : Type 0} → ℕ → (X → Type 0) → Result X Fault → Type 0
ReadsAs {X} number P r = MatchResult r P (λ fault. (fault ≡ BadLine number) × ((x : X) → ¬ (P x)))

-- the same, or an allocation failed
abbrev pub ReadsAsOrOutOfMemory : {X : Type 0} → ℕ → (X → Type 0) → Result X Fault → Type 0
ReadsAsOrOutOfMemory {X} number P r =
    MatchResult r P
    (λ fault. (fault ≡ OutOfMemory) ⊎ ((fault ≡ BadLine number) × ((x : X) → ¬ (P x))))

-- `b` is whether some value satisfies `P`
abbrev pub Decides : {X : Type 0} → Bool → (X → Type 0) → Type 0
Decides {X} b P = MatchBool b ((x : X) × P x) ((x : X) → ¬ (P x))

-- the fault is not a bad line
abbrev pub NamesNoLine : Fault → Type 0
NamesNoLine (BadLine number) = ⊥
NamesNoLine OutOfMemory = ⊤
NamesNoLine InputOutput = ⊤

-- the exit status for the fault
abbrev pub status_of : Fault → ℕ
status_of (BadLine number) = 1
status_of OutOfMemory = 2
status_of InputOutput = 3

-- the text that reports the fault
abbrev pub fault_text : Fault → List ℕ
fault_text (BadLine number) = codes "bad line " ++ decimal number
fault_text OutOfMemory = codes "out of memory"
fault_text InputOutput = codes "input or output failed"

-- `fault` is reported for `error`: it is not a bad line, and it is `OutOfMemory` exactly for an
-- error of this kind
pub record IsFaultOf (error : Error) (fault : Fault) : Type 0 where
  pub names_no_line : NamesNoLine fault
  pub memory : (fault ≡ OutOfMemory) ↔ (error_kind error ≡ IoOutOfMemory)

-- the kind that is returned for an error of a read: the reader's own lack of memory becomes `Other`
abbrev pub read_kind : ErrorKind → ErrorKind
read_kind IoOutOfMemory = Other
read_kind kind = kind
