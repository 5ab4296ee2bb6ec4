-- The model of a `BoxedText`, and of strings to which texts are appended.
use Rattle.std.specs.Prelude.{◌≡◌, ℕ, ◌+◌, ◌-◌, List, [], ◌∷◌, ◌++◌, length, flat_map, Option, String, if◌then◌else◌, nat_le}
use Rattle.std.specs.Iterator.{Yields}
use Rattle.std.specs.String.{string_bytes, string_capacity}
use Rattle.aa_raw.specs.Growth.{amortized, min_capacity}
use Rattle.aa_raw.specs.Growths.{Growths, of_new}
use Rattle.aa_raw.specs.Room.{LacksRoom}
use Rattle.aa_raw.specs.declared.collections.TryReserveError.{TryReserveError}
use Rattle.aa_raw.specs.declared.raw_vec.Growth.{Growth}
use Rattle.aa_raw.specs.declared.raw_vec.Growth.TheVariants.{Doubling}
use Rattle.aa_boxed.specs.Slice.{Slice}

-- the bytes of a text in UTF-8; their block keeps its growth policy for the vector that they may
-- become
pub record Text (A : Type 0) : Type 0 where
  pub bytes : List ℕ
  pub growth : Growth
  pub grown : Growths  -- what their memory has cost so far
  pub alloc : A

module _ {A : Type 0} where
  -- the text whose bytes are the boxed slice `s`
  abbrev pub text_of_slice : Slice ℕ A → Text A
  text_of_slice s =
      record { bytes = s.items; growth = s.growth; grown = s.grown; alloc = s.alloc }

  -- the text of these `bytes` in a new block of the allocator `a`
  abbrev pub new_text : List ℕ → A → Text A
  new_text bytes a =
      record { bytes = bytes; growth = Doubling; grown = of_new 1 (length bytes); alloc = a }

  -- the bytes of the text `t` as a boxed slice
  abbrev pub bytes_of : Text A → Slice ℕ A
  bytes_of t = record { items = t.bytes; growth = t.growth; grown = t.grown; alloc = t.alloc }

-- the capacity of a string of `len` bytes after it reserved `n` more: unchanged if they fit, and
-- else that of an amortized growth
abbrev pub reserved_capacity : (capacity len n : ℕ) → ℕ
reserved_capacity capacity len n =
    if nat_le n (capacity - len) then capacity else amortized Doubling capacity (len + n)
    (min_capacity 1)

-- the capacity of a string of `len` bytes after the texts `ts` were appended, one by one
abbrev pub appended_capacity : {A : Type 0} → (capacity len : ℕ) → List (Text A) → ℕ
appended_capacity capacity len [] = capacity
appended_capacity capacity len (t ∷ ts) =
    appended_capacity (reserved_capacity capacity len (length t.bytes)) (len + length t.bytes) ts

-- the string `text` has no spare capacity for `n` more bytes, and an amortized growth for them
-- failed with this error
abbrev pub StringReserveFails : {Z : Type 0} → String Z → (n : ℕ) → TryReserveError → Type 0
StringReserveFails text n =
    let capacity = string_capacity text in let len = length (string_bytes text) in
    LacksRoom 1 capacity len n (amortized Doubling capacity (len + n) (min_capacity 1))

-- the string `new` is `old` with the texts `ts` appended, with the capacity that they reserved one
-- by one
pub record AppendsTexts {A Z : Type 0} (ts : List (Text A)) (old new : String Z) : Type 0 where
  pub bytes : string_bytes new ≡ string_bytes old ++ flat_map (λ t. t.bytes) ts
  pub capacity : string_capacity new
      ≡ appended_capacity (string_capacity old) (length (string_bytes old)) ts

-- `iter` yielded the texts `placed` and then `failed`, and `after` is the rest of it. `new` is
-- `old` with `placed` appended, and its growth for `failed` returned `error`
pub record FailsAtText {S A Z : Type 0} (steps : S → Option (Text A) → S → Type 0) (iter : S)
    (old : String Z) (error : TryReserveError) (new : String Z) (after : S) : Type 0 where
  pub placed : List (Text A)
  pub failed : Text A
  pub yields : Yields steps iter (placed ++ failed ∷ []) after
  pub appended : AppendsTexts placed old new
  pub cause : StringReserveFails new (length failed.bytes) error
