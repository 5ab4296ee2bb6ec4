-- Bytes are the records of at most one list.
use Rattle.std.proofs.Common.{inl, inr, ◌≡◌, ℕ, ◌<◌, ◌≤◌, get_or, List, [], ◌∷◌, ◌++◌, length, take, drop, refl, sym, ◌∙◌, ap, arith, append_assoc, length-append}
use Rattle.std.proofs.lemmas.List.{get_or-take, length-take, take_at, drop_at, append-nil, length-take-le, take-append-drop}
use Rattle.std.proofs.lemmas.Bool.{cases_lt}
use lib.ListN.{get_or-eq_default}
use Rattle.std.proofs.lemmas.List.Concat.{flat_map-cons}
use Rattle.std.proofs.lemmas.Nat.{from_le_bytes-to_le_bytes_8, le_bytes_8}
use Rattle.std.specs.Int.{w64, to_le_bytes, from_le_bytes}
use Rattle.ex_small.specs.Records.{Fits, AllFit, encoded, encoding}

pub encoded_same : (r x s t : List ℕ) → Fits r → Fits x → encoded r ++ s ≡ encoded x ++ t → (r ≡ x) × (s ≡ t)
encoded_same r x s t fr fx e =
    let a : List ℕ = to_le_bytes w64 (length r) in
    let b : List ℕ = to_le_bytes w64 (length x) in
    let whole : a ++ (r ++ s) ≡ b ++ (x ++ t) = sym (append_assoc a r s) ∙ e ∙ append_assoc b x t in
    let first : a ≡ b = sym (take_at a (r ++ s) 8 refl) ∙ ap (take 8) whole ∙ take_at b (x ++ t) 8 refl in
    let count : length r ≡ length x = sym (from_le_bytes-to_le_bytes_8 (length r) fr) ∙ ap (from_le_bytes w64) first ∙ from_le_bytes-to_le_bytes_8 (length x) fx in
    let after : r ++ s ≡ x ++ t = sym (drop_at a (r ++ s) 8 refl) ∙ ap (drop 8) whole ∙ drop_at b (x ++ t) 8 refl in (
      sym (take_at r s (length r) refl) ∙ ap (take (length r)) after ∙ take_at x t (length r) (sym count),
      sym (drop_at r s (length r) refl) ∙ ap (drop (length r)) after ∙ drop_at x t (length r) (sym count),
    )

-- what begins with the bytes of some records begins with these records
pub split : (xs rs : List (List ℕ)) (rest : List ℕ) → AllFit xs → AllFit rs → encoding rs ≡ encoding xs ++ rest → (ts : List (List ℕ)) × (rs ≡ xs ++ ts) × (encoding ts ≡ rest) × AllFit ts
split [] rs rest fx fr e = (rs, refl, e, fr)
split (x ∷ xs) [] rest fx fr e =
    absurd (omega (arith, ap length e, length-append (encoding (x ∷ xs)) rest, ap length (flat_map-cons encoded x xs), length-append (encoded x) (encoding xs), length-append (to_le_bytes w64 (length x)) x))
split (x ∷ xs) (r ∷ rs) rest fx fr e =
    let whole : encoded r ++ encoding rs ≡ encoded x ++ (encoding xs ++ rest) =
    sym (flat_map-cons encoded r rs) ∙ e ∙ ap (λ ys. ys ++ rest) (flat_map-cons encoded x xs) ∙ append_assoc (encoded x) (encoding xs) rest in
    let same = encoded_same r x (encoding rs) (encoding xs ++ rest) fr.0 fx.0 whole in
    let more = split xs rs rest fx.1 fr.1 same.1 in
    (more.0, (λ i. same.0 i ∷ more.1 i), more.2, more.3)

-- the bytes so far are these records, and `rest` is to come
pub record IsDecoding (bytes rest : List ℕ) (rs : List (List ℕ)) : Type 0 where
  pub whole : encoding rs ++ rest ≡ bytes
  pub fit : AllFit rs

-- where no record is next, the bytes are no records
pub no_records : (bytes rest : List ℕ) (rs : List (List ℕ)) → IsDecoding bytes rest rs → 0 < length rest → ((r t : List ℕ) → Fits r → encoded r ++ t ≡ rest → ⊥) → (all : List (List ℕ)) → AllFit all → encoding all ≡ bytes → ⊥
no_records bytes rest rs d some none all fits e =
    let cut = split rs all rest d.fit fits (e ∙ sym d.whole) in
    let stops : (ts : List (List ℕ)) → encoding ts ≡ rest → AllFit ts → ⊥ = elim [
      | [] ↦ λ h a. omega (arith, ap length h)
      | t ∷ ts ↦ λ h a. none t (encoding ts) a.0 (sym (flat_map-cons encoded t ts) ∙ h)
    ] in
    stops cut.0 cut.2 cut.3

-- and if none remain, they are just the records so far
pub those_records : (bytes rest : List ℕ) (rs : List (List ℕ)) → IsDecoding bytes rest rs → length rest ≡ 0 → (all : List (List ℕ)) → AllFit all → encoding all ≡ bytes → rs ≡ all
those_records bytes rest rs d none all fits e =
    let cut = split rs all rest d.fit fits (e ∙ sym d.whole) in
    let empty : (ts : List (List ℕ)) → encoding ts ≡ rest → rs ++ ts ≡ rs = elim [
      | [] ↦ λ h. append-nil rs
      | t ∷ ts ↦ λ h. absurd (omega (arith, ap length h, ap length (flat_map-cons encoded t ts), length-append (encoded t) (encoding ts), length-append (to_le_bytes w64 (length t)) t))
    ] in
    sym (cut.1 ∙ empty cut.0 cut.2)

-- the bytes of a record that was cut off
pub cut_off : (bytes head tail a b : List ℕ) (n : ℕ) → ((i : ℕ) → get_or bytes i 0 < 256) → 8 ≤ length bytes → head ≡ take 8 bytes → tail ≡ drop 8 bytes → n ≡ from_le_bytes w64 head → length a ≡ n → tail ≡ a ++ b → encoded a ++ b ≡ bytes
cut_off bytes head tail a b n range enough first rest count long cut =
    let eight : length head ≡ 8 = ap length first ∙ length-take-le 8 bytes enough in
    let low : (i : ℕ) → get_or (take 8 bytes) i 0 < 256 = λ i.
    elim (cases_lt i 8) [ inl l ↦ rw (get_or-take 8 bytes i 0 l) (range i) | inr l ↦ rw (get_or-eq_default (take 8 bytes) 0 {n = i} (omega (arith, l, length-take 8 bytes))) (omega arith) ] in
    let front : to_le_bytes w64 (length a) ≡ head = le_bytes_8 head (length a) eight (rw first low) (long ∙ count) in
    append_assoc (to_le_bytes w64 (length a)) a b ∙ ap (λ xs. xs ++ (a ++ b)) (front ∙ first) ∙ ap (λ xs. take 8 bytes ++ xs) (sym cut ∙ rest) ∙ take-append-drop 8 bytes
