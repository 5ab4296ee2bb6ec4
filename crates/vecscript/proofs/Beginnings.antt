-- A text of which a beginning is written.
use Rattle.vecscript.proofs.Common.{◌≡◌, ◌∙◌, inl, inr, ℕ, Bool, true, false, sym, List, [], ◌∷◌, ◌++◌, take, drop, length, arith, append_assoc, append-nil, take-append-drop, Option, codes, Appends, nat_tests, take_rest}
use Rattle.std.proofs.Common.{true≢false}
use Rattle.std.proofs.KnownBytes.{Appends-kept, Appends-nil, Appends-trans}
use Rattle.std.specs.Fmt.Cut.{IsTextOrCut}
use Rattle.std.specs.Cmp.Lexicographic.{pointwise}
use Rattle.std.specs.List.{ends_with}

-- known bytes grew by what of the text is not left
pub record HasWritten (old new : Option (List ℕ)) (text rest : List ℕ) : Type 0 where
  pub front : List ℕ
  pub place : text ≡ front ++ rest
  pub grew : Appends old new front

-- more of the rest is written
pub HasWritten-next : (old mid new : Option (List ℕ)) (text rest : List ℕ) (n : ℕ) → HasWritten old mid text rest → Appends mid new (take n rest)
    → HasWritten old new text (drop n rest)
HasWritten-next old mid new text rest n had more =
    let place : text ≡ (had.front ++ take n rest) ++ drop n rest = rw (append_assoc, take-append-drop) had.place in
    search (place, Appends-trans old mid new had.front (take n rest) had.grew more)

-- nothing is left
pub HasWritten-all : (old new : Option (List ℕ)) (text rest : List ℕ) → HasWritten old new text rest → length rest ≡ 0 → Appends old new text
HasWritten-all old new text [] had none = rw (had.place, append-nil had.front) had.grew
HasWritten-all old new text (x ∷ xs) had none = absurd (omega arith)

-- a text that does not end in dots was not cut
pub whole-text : (E : ℕ → ℕ → Bool) (known kept : List ℕ) → pointwise E (codes "...") (codes "...") ≡ true → IsTextOrCut 64 known kept
    → false ≡ ends_with E kept (codes "...") → kept ≡ known
whole-text E known kept same (inl whole) ends = whole
whole-text E known kept same (inr dots) ends =
    absurd (true≢false (sym (rw dots at ends ∙ same)))

-- what each try to write relies on
pub ruleset written = (HasWritten-next, HasWritten-all, Appends-nil, Appends-kept, take_rest, nat_tests)
