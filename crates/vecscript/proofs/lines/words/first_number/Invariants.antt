use Rattle.vecscript.proofs.Common.{◌≡◌, ◌<◌, ◌^◌, take, AllDigits, digits_value}
use Rattle.vecscript.proofs.lines.words.first_number.Given as goal

abbrev pub invariant-digits : goal.invariant-digits
invariant-digits l =
    AllDigits 10 (take l.index l.line) × (l.value ≡ digits_value 10 (take l.index l.line)) × (l.value < 2 ^ 64)
