use Rattle.std.proofs.Common.{ap, refl, sym, true≢false, ◌∙◌}
use Rattle.std.specs.Prelude.{is_some}
use Rattle.aa_table.specs.Contents.{entry_of, value, TableView}
use Rattle.aa_table.proofs.Placed.{entry-read}
use Rattle.aa_table.proofs.Sound.{absent, findable, is-here}
use Rattle.aa_table.proofs.table.Table.stored.Goals as goal

pub find_near-requires : goal.find_near-requires
find_near-requires g c = findable c.self.invariant c.args.key.now _ refl

pub unreachable-requires : goal.unreachable-requires
unreachable-requires g c =
    let none = sym (absent c.self.invariant c.args.key.now c.in-None.ensures.absent) ∙ ap (λ (f : TableView _ _ _). value g.K.PartialEq.eq f.entries c.args.key.now) c.self.view_is in
    true≢false (sym c.requires.there ∙ ap is_some (sym none))

pub returns : goal.returns
returns g c =
    let t = c.self.invariant in let e = c.place-entry.result.now in let at = c.place-entry.ensures in
    let here = is-here t c.args.key.now c.in-Some.slot e at c.in-Some.ensures.found in
    sym (ap (λ (f : TableView _ _ _). entry_of g.K.PartialEq.eq f.entries c.args.key.now) c.self.view_is)
    ∙ entry-read (g.K.PartialEq.eq c.args.key.now) c.self.inside.places.places c.in-Some.slot e at here (t.once c.args.key.now)
