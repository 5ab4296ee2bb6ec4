use Rattle.vecscript.proofs.Common.{refl, sym, ◌∙◌}
use Rattle.vecscript.proofs.Read.{HasSeen-start, HasSeen-next}
use Rattle.vecscript.proofs.Sparing.{AllBlank, AllBlank-next, growth_chosen, chosen, unchosen, unsaid}
use Rattle.vecscript.proofs.lines.chosen_growth.Goals as goal

pub blank-init : goal.blank-init
blank-init c = HasSeen-start AllBlank c.args.text.now tt

-- a line more is blank
pub blank-preserved : goal.blank-preserved
blank-preserved c =
    HasSeen-next AllBlank AllBlank _ _ _ _ _ _ c.blank.invariant c.in-Some.ensures.steps refl (AllBlank-next c.in-Some.line.now c.in-None.ensures)

-- or it chooses sparing growth
pub returns-in-Some-true : goal.returns-in-Some-true
returns-in-Some-true c =
    let (some, says) = c.in-Some-true.ensures in let at = c.next.new.self.rest.now in let is = sym says ∙ c.in-Some-true.field-0-test in
    record { growth = rw is at (sym (growth_chosen _ _ at _ _ c.blank.invariant c.in-Some.ensures.steps some)); after = chosen _ _ at _ _ c.blank.invariant c.in-Some.ensures.steps some is }

-- or says a command
pub returns-in-Some-false : goal.returns-in-Some-false
returns-in-Some-false c =
    let (some, says) = c.in-Some-false.ensures in let at = c.next.new.self.rest.now in let is = sym says ∙ c.in-Some-false.field-0-test in
    record { growth = rw is at (sym (growth_chosen _ _ at _ _ c.blank.invariant c.in-Some.ensures.steps some)); after = unchosen _ _ at _ _ c.blank.invariant c.in-Some.ensures.steps some is }

-- or none is left
pub returns : goal.returns
returns c = let last = unsaid _ _ _ c.blank.invariant c.in_default.ensures.steps.0 in record { growth = sym last.0; after = last.1 }
