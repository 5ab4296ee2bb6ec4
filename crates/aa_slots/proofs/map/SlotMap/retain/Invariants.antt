use Rattle.std.proofs.Common.{◌≡◌}
use Rattle.aa_slots.proofs.Retaining.{IsPassed}
use Rattle.aa_slots.proofs.map.SlotMap.retain.Given as goal

-- the slots before `index` were passed over
abbrev pub invariant-each : goal.invariant-each
invariant-each g l =
    goal.F-IsAlwaysCallable g l.f
    × (l.self.capacity ≡ l.fn.self.capacity)
    × (l.self.growth ≡ l.fn.self.growth)
    × (l.self.resizes ≡ l.fn.self.resizes)
    × (l.self.issued ≡ l.fn.self.issued)
    × IsPassed (goal.F-step g) l.fn.f l.fn.self.slots l.f l.self.slots l.index
