-- The invariant of the fields of a slot map, and their view.
use Rattle.std.specs.Prelude.{◌≡◌, ℕ, ◌+◌, ◌-◌, ◌/◌, ◌%◌, ◌^◌, ◌<◌, ◌≤◌, ◌==◌, ◌≢◌, Bool, true, false, ⊤, List, [], ◌∷◌, length, take, drop, Option, None, Some, IfSome, min, nat_eq, slice_get, slice_index_or, get_or, if◌then◌else◌}
use Rattle.std.specs.List.{IsDistinct}
use Rattle.allocator_api2.specs.Block.{Block}
use Rattle.allocator_api2.specs.Places.{IsFilled}
use Rattle.allocator_api2.specs.Vector.{Vector}
use Rattle.allocator_api2.specs.declared.raw_vec.Growth.{Growth}
use Rattle.allocator_api2.specs.declared.raw_vec.Growth.TheVariants.{InPlace}
use Rattle.aa_slots.specs.declared.key.KeyData.{KeyData}
use Rattle.aa_slots.specs.declared.slots.Chain.{Chain}
use Rattle.aa_slots.specs.declared.slots.State.{State}
use Rattle.aa_slots.specs.declared.slots.State.TheVariants.{Free, Held}
use Rattle.aa_slots.specs.Slotted.{Slotted, count, entries_from}

-- the state of a slot with this word
abbrev pub state_of : (word : ℕ) → State
state_of word = if word % 2 == 0 then Free (word / 2) else Held (word / 2)

-- the number in a state: an index, or a serial
abbrev pub number_in : State → ℕ
number_in (Free next) = next
number_in (Held serial) = serial

-- the serial of the key whose value is in the slot, if there is one
abbrev pub serial_in : State → Option ℕ
serial_in (Free next) = None
serial_in (Held serial) = Some serial

-- the slot has the value of the key with this serial
abbrev pub is_held_by : (serial : ℕ) → State → Bool
is_held_by serial (Free next) = false
is_held_by serial (Held own) = nat_eq own serial

-- the slot has a value
abbrev pub is_held : State → Bool
is_held (Free next) = false
is_held (Held serial) = true

-- the state of the slot at index `i` of `ss`, free if there is no such slot
abbrev pub state_at : List State → (i : ℕ) → State
state_at ss i = slice_index_or ss i (Free 0)

-- the slots of a map, none if it has not allocated
abbrev pub states_of : {A : Type 0} → Option (Vector State A) → List State
states_of None = []
states_of (Some v) = v.items

-- the number of slots for which a map has memory
abbrev pub capacity_of : {A : Type 0} → Option (Vector State A) → ℕ
capacity_of None = 0
capacity_of (Some v) = v.capacity

-- the number of blocks that were allocated for the slots of a map
abbrev pub blocks_of : {A : Type 0} → Option (Vector State A) → ℕ
blocks_of None = 0
blocks_of (Some v) = v.grown.blocks

-- the block for the slots of a map, if it has allocated one, grows by the policy `g`
abbrev pub HasPolicy : {A : Type 0} → Option (Vector State A) → (g : Growth) → Type 0
HasPolicy slots g = IfSome slots (λ v. v.growth ≡ g)

-- how many growths the block of the values with `n` places may be ahead of that of `c` slots
abbrev pub ahead : (c n : ℕ) → ℕ
ahead c n = if c == n then 0 else 1

-- the slots from index `from` on and before `end` are free
abbrev pub AreFree : List State → (from end : ℕ) → Type 0
AreFree ss from end = (i : ℕ) → from ≤ i → i < end → is_held (state_at ss i) ≡ false

-- the slots with these indices are free: the first one has index `first`, and each slot has the
-- index of the next one
abbrev pub AreLinked : List State → (first : ℕ) → (slots : List ℕ) → Type 0
AreLinked ss first [] = Unit {0}
AreLinked ss first (i ∷ is) =
    (i ≡ first) × (next : ℕ) × (slice_get ss i ≡ Some (Free next)) × AreLinked ss next is

-- the list of free slots that begins at index `first` has `n` slots, and no slot twice
pub record IsChain (ss : List State) (first n : ℕ) : Type 0 where
  pub slots : List ℕ
  pub count : length slots ≡ n
  pub distinct : IsDistinct nat_eq slots
  pub linked : AreLinked ss first slots

-- the index of the slot into which the next value is written
abbrev pub next_index : List State → Chain → ℕ
next_index ss free = if nat_eq free.count 0 then length ss else free.first

module _ {T : Type 0} where
  -- the view of a slot with this state and place
  abbrev pub held : State → Option (⊤ × T) → Option (ℕ × T)
  held (Free next) c = None
  held (Held serial) None = None
  held (Held serial) (Some e) = Some (serial, e.1)

  -- the view of the slots `ss` with the places `cs`
  abbrev pub seen : List State → List (Option (⊤ × T)) → List (Option (ℕ × T))
  seen [] cs = []
  seen (s ∷ ss) [] = None ∷ seen ss []
  seen (s ∷ ss) (c ∷ cs) = held s c ∷ seen ss cs

  -- each slot with a value, from index `from` on and before `end`, has it in its place
  abbrev pub AreHeldBetween : List State → List (Option (⊤ × T)) → (from end : ℕ) → Type 0
  AreHeldBetween ss cs from end =
      (i : ℕ) → from ≤ i → i < end → is_held (state_at ss i) ≡ true → IsFilled cs i

  -- each slot with a value has it in its place
  abbrev pub AreHeld : List State → List (Option (⊤ × T)) → Type 0
  AreHeld ss cs = (i : ℕ) → is_held (state_at ss i) ≡ true → IsFilled cs i

  -- each slot of `ss` with a value has it in its place in `cs`, and a clone of it in that in `ds`
  abbrev pub AreClones : (clones : T → T → Type 0) → List State → (cs ds : List (Option (⊤ × T)))
      → Type 0
  AreClones clones ss cs ds =
      (i : ℕ) → is_held (state_at ss i) ≡ true
      → (x y : T) × (get_or cs i None ≡ Some (tt, x)) × (get_or ds i None ≡ Some (tt, y))
      × clones x y

  -- the free slots of `ss` are those of the list `free`, each other slot has its value in its
  -- place, and there are places for this capacity
  pub record IsSound (ss : List State) (cs : List (Option (⊤ × T))) (free : Chain)
      (capacity : ℕ) : Type 0 where
    pub chain : IsChain ss free.first free.count
    pub first : free.first < 2 ^ 63
    pub counted : free.count + count (seen ss cs) ≡ length ss
    pub held : AreHeld ss cs
    pub within : length ss ≤ capacity
    pub room : capacity ≤ length cs

  -- the map grew or shrank `moves` times, as often as the block of the slots; that of the values
  -- cost no more blocks, but for one if it has more places; unless the policy is `InPlace`, it did
  -- not grow since it was made; both blocks have the same policy
  pub record MoveTogether {A : Type 0} (slots : Option (Vector State A)) (values : Block (⊤ × T) A)
      (moves : ℕ) : Type 0 where
    pub moved : moves ≡ blocks_of slots
    pub each : values.grown.blocks ≤ moves + ahead (capacity_of slots) (length values.places)
    pub once : values.growth ≢ InPlace → values.grown.blocks ≤ min 1 (capacity_of slots)
    pub policy : HasPolicy slots values.growth

  -- the view of slots and the block of their values, after `issued` keys were issued
  abbrev pub view_of : {A : Type 0} → Option (Vector State A) → Block (⊤ × T) A
      → (issued : ℕ) → Slotted T
  view_of slots values issued =
      record {
        slots = seen (states_of slots) values.places;
        capacity = capacity_of slots;
        growth = values.growth;
        resizes = blocks_of slots;
        issued = issued;
      }

  -- the keys and values in the slots from index `from` on and before `end`
  abbrev pub rest_of : List (Option (ℕ × T)) → (from end : ℕ) → List (KeyData × T)
  rest_of ss from end = entries_from from (take (end - from) (drop from ss))

  -- an iterator over the slots from index `from` on and before `end` has `n` more values
  pub record IsRest (ss : List State) (cs : List (Option (⊤ × T))) (from end n : ℕ)
      : Type 0 where
    pub within : end ≤ length ss
    pub left : n ≡ length (rest_of (seen ss cs) from end)
    pub held : AreHeldBetween ss cs from end
