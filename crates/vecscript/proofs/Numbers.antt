-- The number that the bytes before a line's first blank denote, taken from its front.
use Rattle.vecscript.proofs.Common.{◌≡◌, ℕ, ◌+◌, ◌-◌, ◌<◌, ◌≤◌, true, false, List, length, get_or, take, arith, length-take, length-drop, is_ascii_digit, position_or_len, AllDigits, digits_value, nat_tests, digits_value_more, take_all, take_rest, is_blank}
use Rattle.std.proofs.Common.{◌*◌}
use Rattle.std.specs.Char.{digit_value}
use Rattle.std.proofs.lemmas.Int.Digits.{digits_more}
use Rattle.std.proofs.lemmas.List.{take-take, get_or-take}
use Rattle.std.proofs.lemmas.List.Sums.{passes_at_first, position_or_len_is}
use Rattle.std.proofs.lemmas.Str.Parse.{digit_at, digits_value-take-le}

-- what a digit counts for
pub digit_is : (b : ℕ) → is_ascii_digit b ≡ true → (digit_value b ≡ b - 48) × (digit_value b < 10)
digit_is b passes = (grind (arith, nat_tests), grind (arith, nat_tests))

-- digits are no blanks
no_blank : (xs : List ℕ) (i k : ℕ) → AllDigits 10 (take i xs) → i ≤ length xs → k < i → is_blank (get_or xs k 0) ≡ false
no_blank xs i k digits within below = grind (arith, nat_tests, digit_at (take i xs) k digits, get_or-take i xs k 0, length-take i xs)

-- where the first bytes are digits, and a blank follows them or nothing does, they are the word
pub word_is : (xs : List ℕ) (i : ℕ) → AllDigits 10 (take i xs) → i ≤ length xs → (i < length xs → is_blank (get_or xs i 0) ≡ true)
    → (take i xs ≡ take (position_or_len is_blank xs) xs) × (position_or_len is_blank xs ≡ i)
word_is xs i digits within ends = grind (arith, position_or_len_is is_blank xs i 0 within, no_blank xs i)

-- and it is longer where a byte follows that is none
word_later : (xs : List ℕ) (i : ℕ) → AllDigits 10 (take i xs) → i < length xs → is_blank (get_or xs i 0) ≡ false
    → i < position_or_len is_blank xs
word_later xs i digits inside other = grind (arith, no_blank xs i (position_or_len is_blank xs) digits (omega arith), passes_at_first is_blank xs 0)

-- which is a digit where the word has no other bytes
pub digit_or_blank : (xs : List ℕ) (i : ℕ) → AllDigits 10 (take i xs) → i < length xs → AllDigits 10 (take (position_or_len is_blank xs) xs)
    → is_blank (get_or xs i 0) ≡ false → is_ascii_digit (get_or xs i 0) ≡ true
digit_or_blank xs i digits inside all other =
    let later = word_later xs i digits inside other in
    let word = take (position_or_len is_blank xs) xs in
    grind (arith, nat_tests, digit_at word i all (omega (arith, length-take (position_or_len is_blank xs) xs)), get_or-take (position_or_len is_blank xs) xs i 0 later)

-- and then the word denotes no smaller number
pub no_smaller : (xs : List ℕ) (i : ℕ) → AllDigits 10 (take i xs) → i < length xs → is_ascii_digit (get_or xs i 0) ≡ true
    → digits_value 10 (take i xs) * 10 + digit_value (get_or xs i 0) ≤ digits_value 10 (take (position_or_len is_blank xs) xs)
no_smaller xs i digits inside digit =
    let later = word_later xs i digits inside (grind (arith, nat_tests)) in
    let word = take (position_or_len is_blank xs) xs in
    let front = take-take (i + 1) (position_or_len is_blank xs) xs (omega arith) in
    grind (arith, digits_value_more 10 xs i inside, digits_value-take-le 10 word (i + 1), front)

-- what is known once the bytes so far are digits
pub ruleset digits = (word_is, digit_or_blank, no_smaller, digit_is, digits_more, digits_value_more, take_rest)

-- digits have no blank among them
pub digits_whole : (word : List ℕ) → AllDigits 10 word → position_or_len is_blank word ≡ length word
digits_whole word digits = grind (arith, word_is word (length word), take_all (length word) word)

-- what is known of a word by itself
pub ruleset whole_word = (digits_whole, take_all, length-drop)
