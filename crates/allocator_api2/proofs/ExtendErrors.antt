-- What follows if an extension failed.
use Rattle.allocator_api2.proofs.Common.{Err, Extends, GrowsInSteps-rises, List, TryReserveError, Vector, ap, arith, length, length-append, ℕ, ◌+◌, ◌-◌, ◌∙◌, ◌≤◌}

module _ {T A : Type 0} (size : ℕ) (lower : ℕ → ℕ) (old : Vector T A) (xs added : List T)
    (error : TryReserveError) (new : Vector T A)
    (stop : Extends size lower old xs added (Err error) new) where
  -- the items did not fit
  pub stops-full : ¬ (length added ≤ old.capacity - length xs)
  stops-full room =
      let higher : old.capacity ≤ new.capacity = GrowsInSteps-rises size lower
      (length xs + length added) stop.in_steps in
      absurd (omega (
        arith,
        stop.error.0,
        stop.error.1,
        ap length stop.begins
            ∙ length-append stop.front stop.others,
        higher,
        room,
      ))
