use Rattle.std.proofs.Common.{rules}
use Rattle.std.proofs.lemmas.Str.{IsUtf8-append}
use Rattle.ex_small.proofs.text.TextBuilder.push_str.Goals as goal

pub invariant_of-self-2 : goal.invariant_of-self-2
invariant_of-self-2 g c = (rw c.in_ok-extend_from_slice_copied.ensures.extended.items (IsUtf8-append _ _ c.self.invariant.0 c.as_bytes.ensures.utf8), search rules)
