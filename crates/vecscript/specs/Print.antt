-- The bytes that a script prints.
use Rattle.std.specs.Prelude.{◌≡◌, ℕ, List, [], ◌∷◌, ◌++◌, length, Option, codes, decimal}
use Rattle.std.specs.Io.KnownBytes.{Appends}
use Rattle.std.specs.List.{flat_map}
use Rattle.allocator_api2.specs.declared.collections.TryReserveErrorKind.{TryReserveErrorKind}
use Rattle.allocator_api2.specs.declared.collections.TryReserveErrorKind.TheVariants.{CapacityOverflow, AllocError}
use Rattle.allocator_api2.specs.declared.runner.Reply.{Reply}
use Rattle.allocator_api2.specs.declared.runner.Reply.TheVariants.{Done, Item, Nothing, Back, Refused, Range}

-- the text and a line feed
abbrev pub line_of : List ℕ → List ℕ
line_of text = text ++ 10 ∷ []

-- the text that is printed for an error of this kind
abbrev pub error_text : TryReserveErrorKind → List ℕ
error_text CapacityOverflow = codes "refused capacity"
error_text (AllocError capacity) = codes "refused memory"

-- the text that is printed for a reply
abbrev pub reply_text : Reply ℕ → List ℕ
reply_text Done = codes "done"
reply_text (Item x) = codes "item " ++ decimal x
reply_text Nothing = codes "none"
reply_text (Back x) = codes "back " ++ decimal x
reply_text (Refused kind) = error_text kind
reply_text Range = codes "range"

-- the text of the replies, one line each
abbrev pub replies_text : List (Reply ℕ) → List ℕ
replies_text replies = flat_map (λ reply. line_of (reply_text reply)) replies

-- the text of the elements, each after a space
abbrev pub elements_text : List ℕ → List ℕ
elements_text elements = flat_map (λ x. 32 ∷ decimal x) elements

-- the text of a list: its name, its length, its capacity and its elements
abbrev pub list_text : List ℕ → ℕ → List ℕ → List ℕ
list_text name capacity elements =
    (name ++ (codes " len=" ++ (decimal (length elements)
    ++ (codes " cap=" ++ (decimal capacity ++ codes ":")))))
    ++ elements_text elements

-- the text that a script prints: one line for each reply, then the two lists with their capacities
abbrev pub printed : List (Reply ℕ) → (main : List ℕ) → (main_capacity : ℕ) → (side : List ℕ)
    → (side_capacity : ℕ)
    → List ℕ
printed replies main main_capacity side side_capacity =
    replies_text replies
    ++ (line_of (list_text (codes "main") main_capacity main)
    ++ line_of (list_text (codes "side") side_capacity side))

-- to the bytes `old`, if they are known, a beginning of the text is appended, which makes `new`
abbrev pub AppendsBeginning : (old new : Option (List ℕ)) → List ℕ → Type 0
AppendsBeginning old new text =
    (front : List ℕ) × (rest : List ℕ) × (text ≡ front ++ rest) × Appends old new front
