use Rattle.std.proofs.Common.{replicate, ap, ◌∙◌, rules}
use Rattle.allocator_api2.proofs.Callers.{all_same}
use Rattle.aa_table.specs.declared.slots.Overflow.{Overflow}
use Rattle.aa_table.proofs.slots.clear_all.Goals as goal

pub returns-clause-tags : goal.returns-clause-tags
returns-clause-tags c = all_same _ 0 _ _ _ (λ f y h s. search rules) c.fill_with.ensures.ran.1 ∙ ap (λ n. replicate n 0) c.fill_with.ensures.len

pub returns-clause-overflows : goal.returns-clause-overflows
returns-clause-overflows c =
    let none : Overflow = record { byte = 0 } in
    all_same _ none _ _ _ (λ f y h s. search rules) c.fill_with-2.ensures.ran.1 ∙ ap (λ n. replicate n none) c.fill_with-2.ensures.len
