use Rattle.std.proofs.Common.{ap, refl, sym, true, true≢false, ◌∙◌, ◌≡◌}
use Rattle.std.specs.Prelude.{is_some}
use Rattle.aa_table.specs.Contents.{keys_like, value, TableView}
use Rattle.aa_table.proofs.Sound.{absent, absent-keys, findable, present}
use Rattle.aa_table.proofs.table.Table.try_insert.Goals as goal

pub find_in-requires : goal.find_in-requires
find_in-requires g c = findable c.self.invariant c.args.key c.hash_of-hash.result c.hash_of-hash.ensures

pub returns-in-Some : goal.returns-in-Some
returns-in-Some g c =
    let there : is_some (value g.K.PartialEq.eq c.args.self.now.entries c.args.key) ≡ true =
    sym (ap (λ (f : TableView _ _ _). is_some (value g.K.PartialEq.eq f.entries c.args.key)) c.self.view_is) ∙ present c.self.invariant c.args.key _ c.in-Some.ensures.found in (
      (refl, (λ w e. absurd (true≢false (sym e))), refl),
      record {
        fits = λ none _. absurd (true≢false (sym there ∙ ap is_some none));
        writes_back = tt;
        new = tt;
        value = tt;
        error = (refl, refl, there);
      },
    )

pub insert_vacant-requires-clause-absent : goal.insert_vacant-requires-clause-absent
insert_vacant-requires-clause-absent g c = sym (ap (λ (f : TableView _ _ _). keys_like g.K.PartialEq.eq c.args.key f.entries) c.self.view_is) ∙ absent-keys c.self.invariant c.args.key c.in_default.ensures.absent

pub returns-in-Ok : goal.returns-in-Ok
returns-in-Ok g c = (
  (refl, (λ w e. c.insert_vacant.follows.holds w (rw c.in-Ok.is refl)), tt),
  record {
    fits = λ _ _. refl;
    writes_back = tt;
    new = sym (ap (λ (f : TableView _ _ _). value g.K.PartialEq.eq f.entries c.args.key) c.self.view_is) ∙ absent c.self.invariant c.args.key c.in_default.ensures.absent;
    value = c.in-Ok.ensures.value;
    error = tt;
  },
)

pub returns-in-Err : goal.returns-in-Err
returns-in-Err g c =
    let none = sym (ap (λ (f : TableView _ _ _). value g.K.PartialEq.eq f.entries c.args.key) c.self.view_is) ∙ absent c.self.invariant c.args.key c.in_default.ensures.absent in (
      (refl, (λ w e. absurd (true≢false (sym e))), rw c.in-Err.is at c.insert_vacant.follows.holds-at-none),
      record {
        fits = λ _ room. c.in-Err.ensures.fits room;
        writes_back = tt;
        new = tt;
        value = tt;
        error = (c.in-Err.ensures.returned, none, c.in-Err.ensures.error);
      },
    )
