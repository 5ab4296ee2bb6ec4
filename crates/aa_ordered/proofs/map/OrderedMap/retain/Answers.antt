use Rattle.std.proofs.Common.{ap, sym}
use Rattle.aa_ordered.specs.Entries.{OrderedView}
use Rattle.aa_ordered.proofs.map.OrderedMap.retain.Goals as goal

pub returns-clause-kept : goal.returns-clause-kept
returns-clause-kept g c = (c.retain_in.new.f, rw (ap (λ (m : OrderedView _ _). m.entries) (sym c.self.view_is)) c.retain_in.ensures.kept)
