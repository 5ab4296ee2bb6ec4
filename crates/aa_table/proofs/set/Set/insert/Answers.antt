use Rattle.std.proofs.Common.{ap, false, sym, ◌∙◌, ◌≡◌}
use Rattle.std.specs.Prelude.{is_some, not}
use Rattle.std.specs.Set.{is_member}
use Rattle.aa_table.specs.SetContents.{SetView}
use Rattle.aa_table.proofs.Elements.{member, permuted}
use Rattle.aa_table.proofs.set.Set.insert.Goals as goal

pub returns-in-Err-clause-absent : goal.returns-in-Err-clause-absent
returns-in-Err-clause-absent g c =
    sym (ap (λ (s : SetView _ _). is_member g.T.PartialEq.eq s.elements c.args.value) c.self.view_is)
    ∙ sym (member (g.T.PartialEq.eq c.args.value) c.self.inside.table.entries) ∙ ap is_some c.in-Err.ensures.new

pub returns-clause-added : goal.returns-clause-added
returns-clause-added g c = λ t.
    let none : is_some c.in-Ok.old ≡ false = c.is_none.ensures ∙ ap not t in
    rw (ap (λ (s : SetView _ _). s.elements) (sym c.self.view_is)) (permuted _ _ (c.in-Ok.ensures.added none))
