-- A failed command is known by the kind of its error.
use Rattle.allocator_api2.proofs.Common.{Command, FailsWith, Fits, InRange, Performs, Refused, TryReserveError, TryReserveErrorKind, Vector, [], cost_of, subst, sym, ℕ, ◌+◌, ◌≡◌, ◌≤◌}

module _ {T A sure : Type 0} {size : ℕ} {main side main' side' : Vector T A} {command : Command T A}
    {kind : TryReserveErrorKind} where
  pub failed_by_kind : (error : TryReserveError) → kind ≡ error.kind → InRange main command
      → ¬ Fits main side command → FailsWith size sure main side command error main' → side' ≡ side
      → main'.written ≤ main.written + cost_of main side command [] (Refused kind) main'
      → Performs size sure main side command (Refused kind) main' side'
  failed_by_kind error is in_range misfits leaves stays writes =
      record {
        replies = (
          in_range,
          misfits,
          subst (λ k. FailsWith size sure main side command (record { kind = k }) main')
              (sym is) leaves,
          stays,
        );
        writes = writes;
      }

-- a failed call of the vector as a failed command
pub ruleset failed = (failed_by_kind)
