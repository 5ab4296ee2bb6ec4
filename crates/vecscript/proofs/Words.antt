-- The words of a line, taken from its front.
use Rattle.vecscript.proofs.Common.{◌≡◌, ℕ, ◌<◌, true, false, List, [], ◌∷◌, length, drop, filter, nat_lt, refl, inl, ⊎_elim, cases_Bool, arith, nat_tests, one-add, length-take, length-drop, is_blank, words_of}
use Rattle.std.specs.List.{prefix_len}
use Rattle.std.specs.Prelude.{◌⊎◌}
use Rattle.vecscript.proofs.Parts.{front, following, more_parts, slice_split-front}

-- what is left of a line after the blanks in front
abbrev pub unindented : List ℕ → List ℕ
unindented xs = drop (prefix_len is_blank xs) xs

-- the words among the parts after the first
abbrev later_words : List ℕ → List (List ℕ)
later_words xs = filter (λ word. nat_lt 0 (length word)) (more_parts is_blank (following is_blank xs))

-- the blank after a word is no part of the next
words_of-following : (xs : List ℕ) → words_of (following is_blank xs) ≡ later_words xs
words_of-following [] = refl
words_of-following (x ∷ xs) =
    ⊎_elim (λ (e : is_blank x ≡ true). rw (e, e) refl) (λ (e : is_blank x ≡ false). rw (e, one-add) (words_of-following xs)) (cases_Bool (is_blank x))

-- after the blanks in front the line is at its end, or at its first word
abbrev AtWord : (xs line : List ℕ) → Type 0
AtWord xs line =
    ((line ≡ []) × (words_of xs ≡ []))
    ⊎ ((0 < length line) × (0 < length (front is_blank line)) × (words_of xs ≡ front is_blank line ∷ words_of (following is_blank line)))

at_word : (x : ℕ) (xs : List ℕ) → AtWord xs (unindented xs) → AtWord (x ∷ xs) (unindented (x ∷ xs))
at_word x xs rest = grind (arith, nat_tests, one-add, slice_split-front is_blank (x ∷ xs), words_of-following (x ∷ xs))

pub word_or_end : (xs : List ℕ) → AtWord xs (unindented xs)
word_or_end [] = inl (refl, refl)
word_or_end (x ∷ xs) = at_word x xs (word_or_end xs)

-- what a step over a word relies on
pub ruleset first_word = (word_or_end, length-take, length-drop)
