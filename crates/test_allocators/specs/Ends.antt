-- How a call ended, by what it returned.
use Rattle.std.specs.Prelude.{Result, Ok, Err}
use Rattle.aa_raw.specs.declared.collections.TryReserveError.{TryReserveError}
use Rattle.aa_raw.specs.declared.collections.TryReserveErrorKind.{TryReserveErrorKind}
use Rattle.aa_raw.specs.declared.collections.TryReserveErrorKind.TheVariants.{CapacityOverflow, AllocError}
use Rattle.test_allocators.specs.declared.ends.End.{End}
use Rattle.test_allocators.specs.declared.ends.End.TheVariants.{Done, NoMemory, TooLong}

-- how a call ended whose error is of this kind
abbrev pub end_of_kind : TryReserveErrorKind → End
end_of_kind CapacityOverflow = TooLong
end_of_kind (AllocError capacity) = NoMemory capacity

-- how a call ended that returned `r`
abbrev pub end_of_result : {T : Type 0} → Result T TryReserveError → End
end_of_result (Ok x) = Done
end_of_result (Err e) = end_of_kind e.kind
