use Rattle.std.proofs.Common.{subst}
use Rattle.std.specs.Prelude.{OnOk}
use Rattle.aa_table.specs.SetContents.{SetView}
use Rattle.aa_table.specs.Shrinking.{CountsShrink, SameSlots}
use Rattle.aa_table.proofs.set.Set.shrink_to.Goals as goal

pub returns-clause-resizes : goal.returns-clause-resizes
returns-clause-resizes g c =
    let u = c.shrink_to.new.self in
    subst (λ (s : SetView _ _). OnOk c.shrink_to.result (CountsShrink (SameSlots s.capacity u.capacity) u.capacity s.resizes u.resizes)) c.self.view_is c.shrink_to.ensures.resizes
