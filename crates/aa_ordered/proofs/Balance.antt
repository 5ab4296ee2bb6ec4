-- Lists of numbers in which neighbours are together at least 64.
use Rattle.std.proofs.Common.{◌≡◌, ◌+◌, ◌-◌, ◌*◌, ◌≤◌, ◌<◌, ◌++◌, ℕ, suc, zero, List, [], ◌∷◌, All, inl, inr, refl, arith, length, take, drop, get_or, ap, ◌∙◌, length-append}
use Rattle.std.proofs.lemmas.Bool.{cases_lt}
use Rattle.std.proofs.lemmas.List.{length-map}
use Rattle.std.proofs.lemmas.List.Elements.{All-head, All-tail}
use Rattle.aa_ordered.specs.Balance.{first, joined, last, lengths, IsBalanced}

pub balanced-append : (xs ys : List ℕ) → IsBalanced xs → IsBalanced ys → 64 ≤ last xs + first ys → IsBalanced (xs ++ ys)
balanced-append [] ys a b j = b
balanced-append (n ∷ []) [] a b j = a
balanced-append (n ∷ []) (m ∷ ys) a b j = (a, j, b)
balanced-append (n ∷ m ∷ xs) ys a b j = (a.0, a.1, balanced-append (m ∷ xs) ys a.2 b j)

pub balanced-left : (xs ys : List ℕ) → IsBalanced (xs ++ ys) → IsBalanced xs
balanced-left [] ys b = tt
balanced-left (n ∷ []) [] b = b
balanced-left (n ∷ []) (m ∷ ys) b = b.0
balanced-left (n ∷ m ∷ xs) ys b = (b.0, b.1, balanced-left (m ∷ xs) ys b.2)

pub balanced-tail : (n : ℕ) (ns : List ℕ) → IsBalanced (n ∷ ns) → IsBalanced ns
balanced-tail n [] b = tt
balanced-tail n (m ∷ ns) b = b.2

pub balanced-right : (xs ys : List ℕ) → IsBalanced (xs ++ ys) → IsBalanced ys
balanced-right [] ys b = b
balanced-right (n ∷ xs) ys b = balanced-right xs ys (balanced-tail n (xs ++ ys) b)

pub balanced-joint : (xs ys : List ℕ) → IsBalanced (xs ++ ys) → 64 ≤ last xs + first ys
balanced-joint [] ys b = omega arith
balanced-joint (n ∷ []) [] b = omega arith
balanced-joint (n ∷ []) (m ∷ ys) b = b.1
balanced-joint (n ∷ m ∷ xs) ys b = balanced-joint (m ∷ xs) ys b.2

pub balanced-head : (n : ℕ) (ns : List ℕ) → IsBalanced (n ∷ ns) → 0 < n
balanced-head n [] b = b
balanced-head n (m ∷ ns) b = b.0

-- one number among others
pub balanced-cons : (n : ℕ) (ns : List ℕ) → 0 < n → 64 ≤ n + first ns → IsBalanced ns → IsBalanced (n ∷ ns)
balanced-cons n [] a j b = a
balanced-cons n (m ∷ ns) a j b = (a, j, b)

pub balanced-first : (n : ℕ) (ns : List ℕ) → IsBalanced (n ∷ ns) → 64 ≤ n + first ns
balanced-first n [] b = omega arith
balanced-first n (m ∷ ns) b = b.1

abbrev pub total : List ℕ → ℕ
total [] = 0
total (n ∷ ns) = n + total ns

-- each is on average at least 32, if the first or the last is
half-first : (ns : List ℕ) → IsBalanced ns → 32 ≤ first ns → 32 * length ns ≤ total ns
half-first [] b h = omega arith
half-first (n ∷ []) b h = omega arith
half-first (n ∷ m ∷ ns) b h = elim (cases_lt m 32) [
  | inl l ↦ let f = balanced-first m ns b.2 in let r = half-first ns (balanced-tail m ns b.2) (omega (arith, f, l)) in omega (arith, r, b.1)
  | inr g ↦ let r = half-first (m ∷ ns) b.2 g in omega (arith, r, h)
]

half-last : (ns : List ℕ) → IsBalanced ns → 32 ≤ last ns → 32 * length ns ≤ total ns
half-last [] b h = omega arith
half-last (n ∷ []) b h = omega arith
half-last (n ∷ m ∷ []) b h = omega (arith, b.1)
half-last (n ∷ m ∷ k ∷ ns) b h = elim (cases_lt n 32) [
  | inl l ↦ let r = half-last (k ∷ ns) b.2.2 h in omega (arith, r, b.1)
  | inr g ↦ let r = half-last (m ∷ k ∷ ns) b.2 h in omega (arith, r, g)
]

-- each is on average at least 32, but for one of them
half-all : (ns : List ℕ) → IsBalanced ns → 32 * length ns ≤ total ns + 31
half-all [] b = omega arith
half-all (n ∷ []) b = omega (arith, b)
half-all (n ∷ m ∷ ns) b = let r = half-all ns (balanced-tail m ns b.2) in omega (arith, r, b.1)

total-append : (xs ys : List ℕ) → total (xs ++ ys) ≡ total xs + total ys
total-append [] ys = omega arith
total-append (n ∷ xs) ys = omega (arith, total-append xs ys)

-- a full list whose neighbours are at least half full
pub split-many : (xs ys : List ℕ) → IsBalanced (xs ++ 64 ∷ ys) → 32 ≤ last xs → 32 ≤ first ys → 32 * (length (xs ++ 64 ∷ ys) + 1) ≤ total (xs ++ 64 ∷ ys)
split-many xs ys b l f =
    let before = half-last xs (balanced-left xs (64 ∷ ys) b) l in
    let after = half-first ys (balanced-tail 64 ys (balanced-right xs (64 ∷ ys) b)) f in
    omega (arith, before, after, length-append xs (64 ∷ ys), total-append xs (64 ∷ ys))

-- the length of one list
pub first-drop : {T : Type 0} (ls : List (List T)) (i : ℕ) → i < length ls → first (drop i (lengths ls)) ≡ length (get_or ls i [])
first-drop [] i h = absurd (omega arith)
first-drop (l ∷ ls) zero h = refl
first-drop (l ∷ ls) (suc i) h = first-drop ls i (omega arith)

last-suc : {T : Type 0} (ls : List (List T)) (i : ℕ) → i < length ls → last (take (suc i) (lengths ls)) ≡ length (get_or ls i [])
last-suc [] i h = absurd (omega arith)
last-suc (l ∷ ls) zero h = refl
last-suc (l ∷ []) (suc i) h = absurd (omega arith)
last-suc (l ∷ m ∷ ls) (suc i) h = last-suc (m ∷ ls) i (omega arith)

pub last-take : {T : Type 0} (ls : List (List T)) (i : ℕ) → 0 < i → i < length ls → last (take i (lengths ls)) ≡ length (get_or ls (i - 1) [])
last-take ls zero z h = absurd (omega arith)
last-take ls (suc i) z h = let e : suc i - 1 ≡ i = omega arith in rw e (last-suc ls i (omega arith))

pub first-some : (ns : List ℕ) → IsBalanced ns → 0 < first ns
first-some [] b = omega arith
first-some (n ∷ ns) b = balanced-head n ns b

pub last-some : (ns : List ℕ) → IsBalanced ns → 0 < last ns
last-some [] b = omega arith
last-some (n ∷ []) b = b
last-some (n ∷ m ∷ ns) b = last-some (m ∷ ns) b.2

-- one number between others
module _ (xs ys : List ℕ) (n : ℕ) (b : IsBalanced (xs ++ n ∷ ys)) where
  pub one-before : IsBalanced xs
  one-before = balanced-left xs (n ∷ ys) b

  pub one-after : IsBalanced ys
  one-after = balanced-tail n ys (balanced-right xs (n ∷ ys) b)

  pub one-joint : 64 ≤ last xs + n
  one-joint = balanced-joint xs (n ∷ ys) b

  pub one-next : 64 ≤ n + first ys
  one-next = balanced-first n ys (balanced-right xs (n ∷ ys) b)

  pub one-some : 0 < n
  one-some = balanced-head n ys (balanced-right xs (n ∷ ys) b)

  pub set-one : (a : ℕ) → 0 < a → 64 ≤ last xs + a → 64 ≤ a + first ys → IsBalanced (xs ++ a ∷ ys)
  set-one a p q r = balanced-append xs (a ∷ ys) one-before (balanced-cons a ys p r one-after) q

  pub drop-one : 64 ≤ last xs + first ys → IsBalanced (xs ++ ys)
  drop-one q = balanced-append xs ys one-before one-after q

  pub split-one : (a c : ℕ) → 0 < a → 0 < c → 64 ≤ a + c → 64 ≤ last xs + a → 64 ≤ c + first ys → IsBalanced (xs ++ a ∷ c ∷ ys)
  split-one a c p q s r t = balanced-append xs (a ∷ c ∷ ys) one-before (p, s, balanced-cons c ys q t one-after) r

-- two numbers between others
module _ (xs ys : List ℕ) (n m : ℕ) (b : IsBalanced (xs ++ n ∷ m ∷ ys)) where
  two-rest : IsBalanced (n ∷ m ∷ ys)
  two-rest = balanced-right xs (n ∷ m ∷ ys) b

  pub two-sum : 64 ≤ n + m
  two-sum = two-rest.1

  pub two-joint : 64 ≤ last xs + n
  two-joint = balanced-joint xs (n ∷ m ∷ ys) b

  pub two-some : (0 < n) × (0 < m)
  two-some = (two-rest.0, balanced-head m ys two-rest.2)

  pub two-next : 64 ≤ m + first ys
  two-next = balanced-first m ys two-rest.2

  pub two-before : IsBalanced xs
  two-before = balanced-left xs (n ∷ m ∷ ys) b

  pub two-after : IsBalanced ys
  two-after = balanced-tail m ys two-rest.2

  pub set-two : (a c : ℕ) → 0 < a → 0 < c → 64 ≤ a + c → 64 ≤ last xs + a → 64 ≤ c + first ys → IsBalanced (xs ++ a ∷ c ∷ ys)
  set-two a c p q s r t = balanced-append xs (a ∷ c ∷ ys) two-before (p, s, balanced-cons c ys q t two-after) r

  pub join-two : (a : ℕ) → 0 < a → 64 ≤ last xs + a → 64 ≤ a + first ys → IsBalanced (xs ++ a ∷ ys)
  join-two a p q r = balanced-append xs (a ∷ ys) two-before (balanced-cons a ys p r two-after) q

-- how many items there are
pub total-joined : {T : Type 0} (ls : List (List T)) → length (joined ls) ≡ total (lengths ls)
total-joined [] = refl
total-joined (l ∷ ls) = length-append l (joined ls) ∙ ap (λ n. length l + n) (total-joined ls)

pub at-most : {T : Type 0} (ls : List (List T)) → All (λ l. length l ≤ 64) ls → length (joined ls) ≤ 64 * length ls
at-most [] h = omega arith
at-most (l ∷ ls) h = omega (arith, length-append l (joined ls), at-most ls (All-tail (λ l. length l ≤ 64) l ls h), All-head (λ l. length l ≤ 64) l ls h)

pub at-least : {T : Type 0} (ls : List (List T)) → IsBalanced (lengths ls) → 32 * length ls ≤ length (joined ls) + 31
at-least ls b = omega (arith, half-all (lengths ls) b, total-joined ls, length-map ls length)
