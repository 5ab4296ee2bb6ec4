use Rattle.aa_boxed.proofs.{IsUtf8, IsUtf8-append, IsUtf8-had, ap, arith, string_bytes, subst, sym, take_all, ◌++◌, ◌∙◌}
use Rattle.aa_boxed.proofs.boxed.text.append_within_capacity.Goals as goal

pub from_utf8_unchecked-requires : goal.from_utf8_unchecked-requires
from_utf8_unchecked-requires g c =
    let text = c.args.text in let more = c.as_bytes-byte-items in let put = c.loop-byte in
    let all = ap (λ bs. string_bytes text ++ bs)
    (take_all put.byte-index more.result.now (omega (arith, c.loop-byte-test.false))) in
    subst IsUtf8 (sym (put.invariant.items ∙ all))
    (IsUtf8-append _ _ (IsUtf8-had _ text.ok) more.ensures.utf8)
