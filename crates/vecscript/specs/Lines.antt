-- How lines are parsed: the words of a line, and the command that they say.
use Rattle.std.specs.Prelude.{◌≡◌, ◌≢◌, ℕ, ◌+◌, ◌^◌, ◌<◌, Bool, true, false, ◌==◌, ◌||◌, List, [], ◌∷◌, ◌++◌, length, filter, if◌then◌else◌, Option, None, Some, nat_lt, codes, All, map}
use Rattle.std.specs.Global.{Global}
use Rattle.std.specs.List.{AllByRecursion, AllZip, slice_split}
use Rattle.std.specs.Str.{bytes_eq}
use Rattle.std.specs.Str.Parse.{IsNumeral, digits_value}
use Rattle.allocator_api2.specs.declared.raw_vec.Growth.{Growth}
use Rattle.allocator_api2.specs.declared.raw_vec.Growth.TheVariants.{Doubling, Sparing}
use Rattle.allocator_api2.specs.declared.runner.Command.{Command}
use Rattle.allocator_api2.specs.declared.runner.Command.TheVariants.{Push, Within, Pop, Insert, Remove, SwapRemove, Truncate, Clear, Reserve, ReserveExact, ShrinkTo, SplitOff, Append, Extend, ExtendFromWithin, Resize, Retain, Dedup, Drain, ExtractIf, Splice}

-- the byte `b` is a space or a tab
abbrev pub is_blank : ℕ → Bool
is_blank b = (b == 32) || (b == 9)

-- the words of a line: its parts between blanks, without the empty ones
abbrev pub words_of : List ℕ → List (List ℕ)
words_of line = filter (λ word. nat_lt 0 (length word)) (slice_split is_blank line)

-- the word consists of decimal digits that denote the number `x`, which is below `limit`
abbrev pub Denotes : (limit : ℕ) → List ℕ → ℕ → Type 0
Denotes limit word x = IsNumeral 10 word × (digits_value 10 word ≡ x) × (x < limit)

-- the words are one, which denotes the element `x`
abbrev pub IsElement : List (List ℕ) → ℕ → Type 0
IsElement words x = (word : List ℕ) × (words ≡ word ∷ []) × Denotes (2 ^ 32) word x

-- the words are one, which denotes the number `n`
abbrev pub IsNumber : List (List ℕ) → ℕ → Type 0
IsNumber words n = (word : List ℕ) × (words ≡ word ∷ []) × Denotes (2 ^ 64) word n

-- the words are two, which denote a number and an element
abbrev pub AreNumberAndElement : List (List ℕ) → ℕ × ℕ → Type 0
AreNumberAndElement words p =
    (v : List ℕ) × (w : List ℕ) × (words ≡ v ∷ w ∷ []) × Denotes (2 ^ 64) v p.0
    × Denotes (2 ^ 32) w p.1

-- the words are two, which denote numbers
abbrev pub AreNumbers : List (List ℕ) → ℕ × ℕ → Type 0
AreNumbers words p =
    (v : List ℕ) × (w : List ℕ) × (words ≡ v ∷ w ∷ []) × Denotes (2 ^ 64) v p.0
    × Denotes (2 ^ 64) w p.1

-- the words are three, which denote numbers
abbrev pub AreThreeNumbers : List (List ℕ) → ℕ × ℕ × ℕ → Type 0
AreThreeNumbers words p =
    (u : List ℕ) × (v : List ℕ) × (w : List ℕ) × (words ≡ u ∷ v ∷ w ∷ [])
    × Denotes (2 ^ 64) u p.0 × Denotes (2 ^ 64) v p.1 × Denotes (2 ^ 64) w p.2

-- the word says whether the remaining elements of a range are kept
abbrev pub SaysKept : List ℕ → Bool → Type 0
SaysKept word true = word ≡ codes "keep"
SaysKept word false = word ≡ codes "drop"

-- the words are five, the arguments of a drain: where the range begins and ends, how many items are
-- taken from either end, and whether the others are kept
abbrev pub AreDrain : List (List ℕ) → ℕ × ℕ × ℕ × ℕ × Bool → Type 0
AreDrain words p =
    (s : List ℕ) × (t : List ℕ) × (u : List ℕ) × (v : List ℕ) × (w : List ℕ)
    × (words ≡ s ∷ t ∷ u ∷ v ∷ w ∷ []) × Denotes (2 ^ 64) s p.0 × Denotes (2 ^ 64) t p.1
    × Denotes (2 ^ 64) u p.2 × Denotes (2 ^ 64) v p.3 × SaysKept w p.4

-- the word denotes the hint: a hyphen for no hint, or else the number
abbrev pub IsHint : List ℕ → Option ℕ → Type 0
IsHint word None = word ≡ codes "-"
IsHint word (Some n) = Denotes (2 ^ 64) word n

-- the words are a hint, and then elements
abbrev pub AreExtend : List (List ℕ) → List ℕ → Option ℕ → Type 0
AreExtend [] items hint = ⊥
AreExtend (word ∷ words) items hint = IsHint word hint × AllZip (Denotes (2 ^ 32)) words items

-- the words are where a range begins and ends, a hint, and then elements
abbrev pub AreSplice : List (List ℕ) → ℕ → ℕ → List ℕ → Option ℕ → Type 0
AreSplice (v ∷ w ∷ words) start end items hint =
    Denotes (2 ^ 64) v start × Denotes (2 ^ 64) w end × AreExtend words items hint
AreSplice words start end items hint = ⊥

-- the words of a line, a name and what follows it, say the command
abbrev pub Say : List (List ℕ) → Command ℕ Global → Type 0
Say [] command = ⊥
Say (name ∷ rest) (Push x) = (name ≡ codes "push") × IsElement rest x
Say (name ∷ rest) (Within x) = (name ≡ codes "within") × IsElement rest x
Say (name ∷ rest) Pop = (name ≡ codes "pop") × (rest ≡ [])
Say (name ∷ rest) (Insert index x) =
    (name ≡ codes "insert") × AreNumberAndElement rest (index, x)
Say (name ∷ rest) (Remove index) = (name ≡ codes "remove") × IsNumber rest index
Say (name ∷ rest) (SwapRemove index) = (name ≡ codes "swap_remove") × IsNumber rest index
Say (name ∷ rest) (Truncate n) = (name ≡ codes "truncate") × IsNumber rest n
Say (name ∷ rest) Clear = (name ≡ codes "clear") × (rest ≡ [])
Say (name ∷ rest) (Reserve n) = (name ≡ codes "reserve") × IsNumber rest n
Say (name ∷ rest) (ReserveExact n) = (name ≡ codes "reserve_exact") × IsNumber rest n
Say (name ∷ rest) (ShrinkTo n) = (name ≡ codes "shrink_to") × IsNumber rest n
Say (name ∷ rest) (SplitOff index) = (name ≡ codes "split_off") × IsNumber rest index
Say (name ∷ rest) Append = (name ≡ codes "append") × (rest ≡ [])
Say (name ∷ rest) (Extend items hint) = (name ≡ codes "extend") × AreExtend rest items.items hint
Say (name ∷ rest) (ExtendFromWithin start end) =
    (name ≡ codes "extend_from_within") × AreNumbers rest (start, end)
Say (name ∷ rest) (Resize n x) = (name ≡ codes "resize") × AreNumberAndElement rest (n, x)
Say (name ∷ rest) Retain = (name ≡ codes "retain") × (rest ≡ [])
Say (name ∷ rest) Dedup = (name ≡ codes "dedup") × (rest ≡ [])
Say (name ∷ rest) (Drain start end front back keep) =
    (name ≡ codes "drain") × AreDrain rest (start, end, front, back, keep)
Say (name ∷ rest) (ExtractIf start end n) =
    (name ≡ codes "extract") × AreThreeNumbers rest (start, end, n)
Say (name ∷ rest) (Splice start end items hint) =
    (name ≡ codes "splice") × AreSplice rest start end items.items hint

-- the words of each line that has some, in order
abbrev pub said_in : List (List ℕ) → List (List (List ℕ))
said_in lines = filter (λ words. nat_lt 0 (length words)) (map words_of lines)

-- the words are `sparing` alone
abbrev pub are_sparing : List (List ℕ) → Bool
are_sparing (word ∷ []) = bytes_eq word (codes "sparing")
are_sparing words = false

-- the words of the first line that has words, if there is one, are `sparing` alone
abbrev pub begin_sparing : List (List (List ℕ)) → Bool
begin_sparing [] = false
begin_sparing (words ∷ others) = are_sparing words

-- the growth policy of the vectors of a script with these lines: sparing if the first line that has
-- words is `sparing` alone, and else doubling
abbrev pub growth_in : List (List ℕ) → Growth
growth_in lines = if begin_sparing (said_in lines) then Sparing else Doubling

-- the lines of commands: the line that chooses sparing growth is replaced with a blank one
abbrev pub command_lines : List (List ℕ) → List (List ℕ)
command_lines [] = []
command_lines (line ∷ lines) =
    if length (words_of line) == 0 then line ∷ command_lines lines
    else ((if are_sparing (words_of line) then [] else line) ∷ lines)

-- the lines `all` are blank ones, `count` of them, and then the lines `others`
abbrev pub AreAfterBlank : (count : ℕ) → (others all : List (List ℕ)) → Type 0
AreAfterBlank count others all =
    (before : List (List ℕ)) × AllByRecursion (λ line. words_of line ≡ []) before
    × (count ≡ length before) × (all ≡ before ++ others)

-- the lines that have words say these commands, one each, in order
abbrev pub Mean : List (List ℕ) → List (Command ℕ Global) → Type 0
Mean lines commands = AllZip Say (said_in lines) commands

-- the line has words, but they say no command
pub record IsBad (line : List ℕ) : Type 0 where
  pub has_words : words_of line ≢ []
  pub says_nothing : (command : Command ℕ Global) → ¬ (Say (words_of line) command)

-- no line is bad
pub record HasNoBad (lines : List (List ℕ)) : Type 0 where
  pub all_good : All (λ line. ¬ (IsBad line)) lines

-- the line of this number, counted from 1, is the first bad one
pub record IsFirstBad (lines : List (List ℕ)) (number : ℕ) : Type 0 where
  pub before : List (List ℕ)
  pub line : List ℕ
  pub after : List (List ℕ)
  pub place : lines ≡ before ++ (line ∷ after)
  pub counted : number ≡ length before + 1
  pub good_before : HasNoBad before
  pub bad : IsBad line
