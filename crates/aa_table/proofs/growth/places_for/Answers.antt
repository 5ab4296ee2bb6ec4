use Rattle.std.proofs.Common.{None, get_or, ap, ◌∙◌}
use Rattle.allocator_api2.specs.Block.{Block}
use Rattle.aa_table.proofs.Moving.{empty-at}
use Rattle.aa_table.proofs.Memory.{has-places}
use Rattle.aa_table.proofs.growth.places_for.Goals as goal

pub returns-in-Ok-with_capacity_in-clause-empty : goal.returns-in-Ok-with_capacity_in-clause-empty
returns-in-Ok-with_capacity_in-clause-empty g c = λ s. ap (λ (b : Block _ _). get_or b.places s None) c.in-Ok-with_capacity_in.ensures.made ∙ empty-at _ _ s

pub returns-in-Ok-with_capacity_in-clause-least : goal.returns-in-Ok-with_capacity_in-clause-least
returns-in-Ok-with_capacity_in-clause-least g c = has-places _ c.args.slots c.in-Ok-with_capacity_in.made.places (ap (λ (b : Block _ _). b.places) c.in-Ok-with_capacity_in.ensures.made)
