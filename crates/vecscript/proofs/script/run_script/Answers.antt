use Rattle.vecscript.proofs.Common.{◌≡◌, ℕ, List, inr, lines, IfSome_then, IsTranscript, AppendsBeginning}
use Rattle.vecscript.proofs.script.run_script.Goals as goal

-- a beginning of the text is printed
pub returns-clause-part : goal.returns-clause-part
returns-clause-part g c =
    let begun = rw c.deref.ensures.value at c.print_transcript.ensures.part in
    let answers : (bytes : List ℕ) → c.in_ok-text.text.items ≡ bytes
    → (transcript : List ℕ) × IsTranscript _ c.args.alloc c.args.keep.now c.args.same.now (lines bytes) transcript × AppendsBeginning _ _ transcript =
    λ bytes same. (c.in_ok-transcript.transcript.items, (rw same at c.in_ok-transcript.ensures.printed), begun) in
    inr (IfSome_then _ c.in_ok-text.ensures.text answers)
