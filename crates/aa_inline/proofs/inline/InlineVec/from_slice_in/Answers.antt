use Rattle.std.proofs.Common.{rules, ◌++◌, length, inl, refl, sym, subst, ap, ◌∙◌}
use Rattle.std.specs.List.{AllZip}
use Rattle.std.specs.Mem.{type_size}
use denote.Param.{param}
use Rattle.aa_inline.specs.Inlined.{with_written, with_room}
use Rattle.aa_inline.proofs.inline.InlineVec.from_slice_in.Goals as goal

pub returns-in-Err-clause-error : goal.returns-in-Err-clause-error
returns-in-Err-clause-error g c = inl (rw c.new_in-small.ensures at c.in-Err.ensures.error)

pub returns-then-push_clones-clause-made : goal.returns-then-push_clones-clause-made
returns-then-push_clones-clause-made g c =
    let n = length c.args.source.now in let a = c.if-push_clones.ensures.added refl in let made = c.in_default.ensures in
    let roomy = made.reserved ∙ ap (λ s. with_room (type_size (param 0 g.row.T)) g.row.N s n) c.new_in-small.ensures in
    let none = made.items ∙ ap (λ s. s.items) c.new_in-small.ensures in
    let put = a.put ∙ ap (λ xs. with_written c.reserve.new.self (xs ++ a.added) n) none in
    record {
      each = subst (λ ys. AllZip g.T.Clone.is_clone c.args.source.now ys) (sym (ap (λ s. s.items) put)) a.each;
      put = put ∙ (λ t. with_written (roomy t) (sym (ap (λ s. s.items) put) t) n);
    }

pub push_clones-requires : goal.push_clones-requires
push_clones-requires g c = (search rules, search rules)
