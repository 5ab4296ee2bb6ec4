-- The lines of a text, taken from its front.
use Rattle.vecscript.proofs.Common.{get_or, ◌≡◌, ◌≢◌, ℕ, ◌+◌, ◌<◌, ◌≤◌, ◌==◌, Bool, List, [], ◌∷◌, ◌++◌, length, map, take, drop, refl, arith, length-take, length-drop, nat_tests, append-nil, take-append-drop, lines, position_or_len, slice_split}
use Rattle.std.proofs.lemmas.List.{drop_more, take_more, get_or-drop}
use Rattle.std.proofs.lemmas.List.Sums.{passes_at_first}
use Rattle.std.specs.Str.Lines.{lines_of_parts, strip_carriage_return}
use Rattle.vecscript.proofs.Parts.{front, following, slice_split-front}

abbrev pub is_line_feed : ℕ → Bool
is_line_feed b = b == 10

-- after its last line feed a text is a line, unless nothing is left
pub lines_last : (xs : List ℕ) → length xs ≢ 0 → length (following is_line_feed xs) ≡ 0
    → lines xs ≡ front is_line_feed xs ∷ lines (following is_line_feed xs)
lines_last xs some at_end =
    grind (arith, nat_tests, slice_split-front is_line_feed xs, length-take (position_or_len is_line_feed xs) xs, length-drop (position_or_len is_line_feed xs) xs)

-- before that a line ends at the first line feed
pub lines_first : (xs : List ℕ) → 0 < length (following is_line_feed xs)
    → lines xs ≡ strip_carriage_return (front is_line_feed xs) ∷ lines (drop 1 (following is_line_feed xs))
lines_first xs more = grind (arith, slice_split-front)

-- a line takes a byte or more of the text
pub length-lines : (xs : List ℕ) → length (lines xs) ≤ length xs
length-lines [] = omega arith
length-lines (x ∷ xs) = grind (arith, nat_tests, length-lines xs, slice_split-front is_line_feed xs)

-- cut after a line feed, a text is cut between its lines
slice_split-at : (xs ys : List ℕ) → slice_split is_line_feed (xs ++ 10 ∷ ys) ≡ slice_split is_line_feed xs ++ slice_split is_line_feed ys
slice_split-at [] ys = refl
slice_split-at (x ∷ xs) ys = grind (arith, slice_split-at xs ys, slice_split-front is_line_feed xs)

lines_of_parts-append : (parts : List (List ℕ)) (part : List ℕ) (more : List (List ℕ))
    → lines_of_parts (parts ++ part ∷ more) ≡ map strip_carriage_return parts ++ lines_of_parts (part ∷ more)
lines_of_parts-append [] part more = refl
lines_of_parts-append (x ∷ []) part more = refl
lines_of_parts-append (x ∷ y ∷ parts) part more = grind (arith, lines_of_parts-append (y ∷ parts) part more)

lines_at : (xs ys : List ℕ) → lines (xs ++ 10 ∷ ys) ≡ lines (xs ++ 10 ∷ []) ++ lines ys
lines_at xs ys =
    let parts = lines_of_parts-append (slice_split is_line_feed xs) in
    grind (arith, slice_split-at xs ys, slice_split-at xs [], slice_split-front is_line_feed ys, parts, append-nil {A = List ℕ})

-- the first line feed from an index on
pub lines_cut : (xs : List ℕ) (from end : ℕ) → end ≡ from + position_or_len is_line_feed (drop from xs) → end < length xs
    → lines xs ≡ lines (take (end + 1) xs) ++ lines (drop (end + 1) xs)
lines_cut xs from end is_end inside =
    let feed = passes_at_first is_line_feed (drop from xs) 0 (omega (arith, length-drop from xs)) in
    let here : get_or xs end 0 ≡ 10 = grind (arith, nat_tests, get_or-drop, feed) in
    grind (arith, here, take-append-drop end xs, drop_more xs end 0 inside, take_more xs end 0 inside, lines_at (take end xs) (drop (end + 1) xs))
