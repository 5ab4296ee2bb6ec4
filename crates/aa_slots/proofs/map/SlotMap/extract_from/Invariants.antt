use Rattle.std.proofs.Common.{◌≡◌, length}
use Rattle.aa_slots.proofs.Extracting.{PassesTo}
use Rattle.aa_slots.specs.Slotted.{pairs_from}
use Rattle.aa_slots.proofs.map.SlotMap.extract_from.Given as goal

-- the closure was called for the pairs before the slot `at`, and returned `false` for each
abbrev pub invariant-each : goal.invariant-each
invariant-each g l = record {
  callable : goal.F-IsAlwaysCallable g l.f;
  counted : l.left ≡ length (pairs_from l.self.slots l.at);
  passes : PassesTo (goal.F-step g) l.fn.f l.fn.self.slots l.fn.at l.self.slots l.at l.f;
  slots : length l.self.slots ≡ length l.fn.self.slots;
  others : l.self ≡ record l.fn.self { slots = l.self.slots };
}

abbrev pub decreases-each : goal.decreases-each
decreases-each g l = l.left
