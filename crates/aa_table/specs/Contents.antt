-- The contents of a table as its users see them, and its growth policy.
use Rattle.std.specs.Prelude.{◌≡◌, ℕ, ◌+◌, ◌-◌, ◌*◌, ◌^◌, ◌≤◌, ◌==◌, ◌&&◌, max, nat_le, Bool, cond, if◌then◌else◌, List, [], ◌++◌, length, reverse, count_by, Option}
use Rattle.std.specs.List.{list_all, AllZip}
use Rattle.std.specs.Map.{lookup, lookup_entry}
use Rattle.std.specs.Option.{option_eq}
use Rattle.allocator_api2.specs.Growth.{amortized}
use Rattle.allocator_api2.specs.declared.raw_vec.Growth.TheVariants.{Doubling}

-- the view of a table: its entries in the order of `iter`, the number of keys that it can hold
-- without another allocation, the number of times that it moved to new blocks, and the builder of
-- its hashers
pub record TableView (K V S : Type 0) : Type 0 where
  pub entries : List (K × V)
  pub capacity : ℕ
  pub resizes : ℕ  -- each time to three: of the entries, of the tags and of the overflow bytes
  pub builder : S

-- the number of entries of `es` whose key passes the test
abbrev pub keys_with : {K V : Type 0} → (K → Bool) → List (K × V) → ℕ
keys_with {K} {V} test es = count_by (λ (e : K × V). test e.0) es

-- the capacity of a new table for `n` keys
abbrev pub fresh_capacity : (n : ℕ) → ℕ
fresh_capacity n = if n == 0 then 0 else max n 14

-- the number of resizes of a new table for `n` keys
abbrev pub fresh_resizes : (n : ℕ) → ℕ
fresh_resizes n = if n == 0 then 0 else 1

-- the least capacity to which a table with the capacity `c` grows
abbrev pub least_growth : (c : ℕ) → ℕ
least_growth c = max 14 (2 * c)

-- a table with the capacity `c` and `r` resizes has the capacity `d` and `s` resizes once keys were
-- inserted in turn and it has `n`
pub record GrowsInTurn (c r d s n : ℕ) : Type 0 where
  -- its capacity is no less, and the same if that is sufficient
  pub capacity : c ≤ d
  pub steady : n ≤ c → d ≡ c
  -- if it grew, then to 14, or to at most twice its keys
  pub most : d ≤ max c (max 14 (2 * n))
  -- and each time at least to twice its capacity
  pub resizes : r ≤ s
  pub few : 2 ^ (s - r) * least_growth c ≤ least_growth d

module _ {K V : Type 0} (eq : K → K → Bool) where
  -- the value of the key `k` in the entries `es`
  abbrev pub value : List (K × V) → K → Option V
  value es k = lookup (eq k) es

  -- the entry with a key equal to `k` in the entries `es`
  abbrev pub entry_of : List (K × V) → K → Option (K × V)
  entry_of es k = lookup_entry (eq k) es

  -- the number of entries of `es` with a key equal to `k`
  abbrev pub keys_like : K → List (K × V) → ℕ
  keys_like k es = keys_with (eq k) es

  -- the entries `new` have the value `o` for the key `k`, or none, and those of `es` for all others
  abbrev pub Sets : List (K × V) → K → Option V → List (K × V) → Type 0
  Sets es k o new = (q : K) → value new q ≡ cond (eq q k) o (value es q)

  -- the entries `new` have the value `o` for each key that passes the test, or none, and those of
  -- `es` for all others
  abbrev pub SetsBy : (K → Bool) → List (K × V) → Option V → List (K × V) → Type 0
  SetsBy test es o new = (q : K) → value new q ≡ cond (test q) o (value es q)

  -- the entries `new` have the values of `es` after each pair of `xs` was inserted in turn, so that
  -- the last of equal keys sets the value
  abbrev pub SetsAll : List (K × V) → List (K × V) → List (K × V) → Type 0
  SetsAll es xs new = (q : K) → value new q ≡ value (reverse xs ++ es) q

  -- no two of the entries `es` have equal keys
  abbrev pub IsMap : List (K × V) → Type 0
  IsMap es = (k : K) → keys_like k es ≤ 1

  -- the table `u` has the entries of `t` after each pair of `xs` was inserted in turn, and the builder
  -- of `t`
  pub record InsertsAll {S : Type 0} (t : TableView K V S) (xs : List (K × V))
      (u : TableView K V S) : Type 0 where
    pub entries : SetsAll t.entries xs u.entries
    pub growth : GrowsInTurn t.capacity t.resizes u.capacity u.resizes (length u.entries)
    pub builder : u.builder ≡ t.builder

  -- the table `u` has clones of the entries of `t`, inserted in turn, the blocks of a new table for
  -- as many, and a clone of its builder, where `C`, `D` and `B` relate a key, a value and a builder
  -- to its clone
  pub record IsCopy {S : Type 0} (C : K → K → Type 0) (D : V → V → Type 0) (B : S → S → Type 0)
      (t u : TableView K V S) : Type 0 where
    pub clones : List (K × V)
    pub each : AllZip (λ e f. C e.0 f.0 × D e.1 f.1) t.entries clones
    pub entries : SetsAll [] clones u.entries
    pub capacity : u.capacity ≡ fresh_capacity (length t.entries)
    pub resizes : u.resizes ≡ fresh_resizes (length t.entries)
    pub builder : B t.builder u.builder

  -- the entries `es` and `fs` have values that are equal by `like`, or none, for the key `k`
  abbrev pub agree : (V → V → Bool) → (es fs : List (K × V)) → K → Bool
  agree like es fs k = option_eq like (value es k) (value fs k)

  -- the entries `es` and `fs` have equal keys, each with values that are equal by `like`
  abbrev pub same_entries : (V → V → Bool) → (es fs : List (K × V)) → Bool
  same_entries like es fs =
      list_all (λ e. agree like es fs e.0) es && list_all (λ e. agree like es fs e.0) fs

-- the most keys for which a table allocates
abbrev pub max_keys : ℕ
max_keys = 2_000_000_000

-- an empty table with the builder `b`, which has not allocated
abbrev pub empty : {K V S : Type 0} → S → TableView K V S
empty b = record { entries = []; capacity = 0; resizes = 0; builder = b }

-- the capacity of a table with `n` keys and the capacity `c` after it reserved `k` new keys: `c` if
-- it is sufficient, else the greatest of twice `c`, the number of keys with `k` more, and 14
abbrev pub reserved_capacity : (c n k : ℕ) → ℕ
reserved_capacity c n k = if nat_le k (c - n) then c else amortized Doubling c (n + k) 14

-- the number of resizes of a table with `n` keys and the capacity `c` after it reserved `k` new
-- keys: the old number `r` if the capacity is sufficient, else one more
abbrev pub reserved_resizes : (r c n k : ℕ) → ℕ
reserved_resizes r c n k = if nat_le k (c - n) then r else r + 1

module _ {K V S : Type 0} where
  -- the table `f` has spare capacity for `k` new keys
  abbrev pub HasRoom : TableView K V S → (k : ℕ) → Type 0
  HasRoom f k = k ≤ f.capacity - length f.entries

  -- the capacity of the table `f` after it reserved `k` new keys
  abbrev pub capacity_for : TableView K V S → (k : ℕ) → ℕ
  capacity_for f k = reserved_capacity f.capacity (length f.entries) k

  -- the number of resizes of the table `f` after it reserved `k` new keys
  abbrev pub resizes_for : TableView K V S → (k : ℕ) → ℕ
  resizes_for f k = reserved_resizes f.resizes f.capacity (length f.entries) k

-- the capacity to which a table with `n` keys shrinks if it is to keep capacity for `least` keys
abbrev pub shrunk_capacity : (n least : ℕ) → ℕ
shrunk_capacity n least = fresh_capacity (max n least)
