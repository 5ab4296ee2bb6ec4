-- Bytes that are no UTF-8.
use Rattle.std.specs.Prelude.{◌≡◌, ℕ, List, drop}
use Rattle.std.specs.Str.{IsUtf8, valid_up_to, error_len}
use Rattle.std.specs.Str.Lossy.{utf8_valid_len, utf8_error_len}
use Rattle.std.specs.declared.str.Utf8Error.{Utf8Error}

-- `bytes` are no UTF-8, and `e` says how many of them are, and how long the fault after these is
pub record IsUtf8ErrorOf (bytes : List ℕ) (e : Utf8Error) : Type 0 where
  pub fault : ¬ (IsUtf8 bytes)
  pub valid : valid_up_to e ≡ utf8_valid_len bytes
  pub len : error_len e ≡ utf8_error_len (drop (utf8_valid_len bytes) bytes)
