-- The names from elsewhere that several proofs here cite, passed on.
pub use Rattle.aa_vec.specs.Vector.{Vector}
pub use Rattle.allocator_api2.specs.Machine.{Calls, State, state_of}
pub use Rattle.allocator_api2.specs.Run.{IsRun, Turn}
pub use Rattle.allocator_api2.specs.declared.runner.Command.{Command}
pub use Rattle.allocator_api2.specs.declared.runner.Command.TheVariants.{ExtractIf, Push, SplitOff}
pub use Rattle.allocator_api2.specs.declared.runner.Reply.{Reply}
pub use Rattle.std.proofs.Common.{Bool, List, [], ap, arith, drop, false, filter, get_or, inl, inr, length, length-drop, length-take, map, nat_lt, one-add, refl, ⊎_elim, rules, subst, sym, take, true, ℕ, ◌++◌, ◌+◌, ◌-◌, ◌<◌, ◌==◌, ◌^◌, ◌∙◌, ◌∷◌, ◌≡◌, ◌≢◌, ◌≤◌}
pub use Rattle.std.proofs.lemmas.Bool.{cases_Bool}
pub use Rattle.std.proofs.lemmas.Bool.Decides.{nat_tests}
pub use Rattle.std.proofs.lemmas.Int.Digits.{digits_value_more}
pub use Rattle.std.proofs.lemmas.List.{append-nil, append_assoc, length-append, map-append, take-append-drop, take_all, take_rest}
pub use Rattle.std.proofs.lemmas.List.Elements.{All-append}
pub use Rattle.std.proofs.lemmas.Option.{IfSome_then}
pub use Rattle.std.specs.Char.{is_ascii_digit}
pub use Rattle.std.specs.Global.{Global}
pub use Rattle.std.specs.Io.KnownBytes.{Appends}
pub use Rattle.std.specs.List.{AllZip, position_or_len, slice_split}
pub use Rattle.std.specs.Prelude.{Err, IfSome, None, Ok, Option, Result, Some, codes, decimal}
pub use Rattle.std.specs.Str.Lines.{lines}
pub use Rattle.std.specs.Str.Parse.{AllDigits, digits_value}
pub use Rattle.vecscript.specs.Faults.{ReadsAs}
pub use Rattle.vecscript.specs.Lines.{AreAfterBlank, HasNoBad, IsBad, Mean, Say, Denotes, command_lines, growth_in, is_blank, words_of}
pub use Rattle.vecscript.specs.Print.{AppendsBeginning, replies_text}
pub use Rattle.vecscript.specs.Runs.{IsTranscript, element_size}
pub use Rattle.vecscript.specs.declared.script.Fault.{Fault}
