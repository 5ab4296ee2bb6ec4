use Rattle.aa_table.proofs.Groups.{no_slot, first_slot}
use Rattle.aa_table.proofs.slots.slot_past.Goals as goal

pub returns-then-later-eq0-clause-none : goal.returns-then-later-eq0-clause-none
returns-then-later-eq0-clause-none c = no_slot c.args.tags.now c.args.from c.args.tag c.requires.room c.args.past c.requires.past c.if-later-eq0.true

pub returns-else-later-eq0-clause-some : goal.returns-else-later-eq0-clause-some
returns-else-later-eq0-clause-some c =
    let it = first_slot c.args.tags.now c.args.from c.args.tag c.requires.room c.args.past c.requires.past c.if-later-eq0.false in
    (it.behind, it.within, it.tag)

pub returns-else-later-eq0-clause-first : goal.returns-else-later-eq0-clause-first
returns-else-later-eq0-clause-first c =
    (first_slot c.args.tags.now c.args.from c.args.tag c.requires.room c.args.past c.requires.past c.if-later-eq0.false).first
