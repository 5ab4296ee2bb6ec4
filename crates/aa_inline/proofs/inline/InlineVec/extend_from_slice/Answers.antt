use Rattle.std.proofs.Common.{◌≡◌, ◌+◌, length, take, inr, refl, sym, ap, ◌∙◌}
use Rattle.allocator_api2.specs.declared.collections.TryReserveErrorKind.TheVariants.{AllocError}
use Rattle.aa_inline.specs.Inlined.{with_items, with_written}
use Rattle.aa_inline.proofs.Extending.{undone}
use Rattle.aa_inline.proofs.inline.InlineVec.extend_from_slice.Goals as goal

pub returns-clause-failed : goal.returns-clause-failed
returns-clause-failed g c =
    let roomy = c.reserve.new.self in let mid = c.push_clones.new.self in let new = c.truncate.new.self in
    let made = c.in_default.ensures in let part = c.if-push_clones.ensures.part refl in
    let cut : new ≡ with_items mid (take (length roomy.items) mid.items) =
    c.truncate.ensures.truncated ∙ ap (λ k. with_items mid (take k mid.items)) (c.len-len.ensures ∙ sym (ap length made.items)) in
    inr (
      c.if-push_clones.ensures.failed refl,
      c.into.ensures ∙ ap (λ k. AllocError (k + length c.args.source.now)) c.len-len.ensures,
      record { done = part.done; fewer = part.fewer; put = undone roomy mid new part.added part.done part.put cut ∙ ap (λ s. with_written s s.items part.done) made.reserved },
    )
