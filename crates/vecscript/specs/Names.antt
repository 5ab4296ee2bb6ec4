-- What a line says by its name, in the order in which the private functions of `lines` test it. The
-- public ones cite `Say`, which says the same.
use Rattle.std.specs.Prelude.{◌≡◌, ℕ, Bool, List, [], codes, MatchBool}
use Rattle.std.specs.Global.{Global}
use Rattle.std.specs.Str.{bytes_eq}
use Rattle.allocator_api2.specs.declared.runner.Command.{Command}
use Rattle.allocator_api2.specs.declared.runner.Command.TheVariants.{Push, Within, Pop, Insert, Remove, SwapRemove, Truncate, Clear, Reserve, ReserveExact, ShrinkTo, SplitOff, Append, Extend, ExtendFromWithin, Resize, Retain, Dedup, Drain, ExtractIf, Splice}
use Rattle.vecscript.specs.Lines.{IsElement, IsNumber, AreNumberAndElement, AreNumbers, AreThreeNumbers, AreDrain, AreExtend, AreSplice}

-- the words `rest` after one of the less common names say the command
abbrev pub SayAfterUncommon : List ℕ → List (List ℕ) → Command ℕ Global → Type 0
SayAfterUncommon name rest command =
    MatchBool (bytes_eq name (codes "shrink_to"))
    ((n : ℕ) × IsNumber rest n × (command ≡ ShrinkTo n))
    (MatchBool (bytes_eq name (codes "split_off"))
    ((n : ℕ) × IsNumber rest n × (command ≡ SplitOff n))
    (MatchBool (bytes_eq name (codes "append")) ((rest ≡ []) × (command ≡ Append))
    (MatchBool (bytes_eq name (codes "extend_from_within"))
    ((p : ℕ × ℕ) × AreNumbers rest p × (command ≡ ExtendFromWithin p.0 p.1))
    (MatchBool (bytes_eq name (codes "resize"))
    ((p : ℕ × ℕ) × AreNumberAndElement rest p × (command ≡ Resize p.0 p.1))
    (MatchBool (bytes_eq name (codes "retain")) ((rest ≡ []) × (command ≡ Retain))
    (MatchBool (bytes_eq name (codes "dedup")) ((rest ≡ []) × (command ≡ Dedup))
    (MatchBool (bytes_eq name (codes "drain"))
    ((p : ℕ × ℕ × ℕ × ℕ × Bool) × AreDrain rest p × (command ≡ Drain p.0 p.1 p.2 p.3 p.4))
    (MatchBool (bytes_eq name (codes "extract"))
    ((p : ℕ × ℕ × ℕ) × AreThreeNumbers rest p × (command ≡ ExtractIf p.0 p.1 p.2))
    ⊥))))))))

-- the words `rest` after this name say the command
abbrev pub SayAfter : List ℕ → List (List ℕ) → Command ℕ Global → Type 0
SayAfter name rest command =
    MatchBool (bytes_eq name (codes "push")) ((x : ℕ) × IsElement rest x × (command ≡ Push x))
    (MatchBool (bytes_eq name (codes "within")) ((x : ℕ) × IsElement rest x × (command ≡ Within x))
    (MatchBool (bytes_eq name (codes "pop")) ((rest ≡ []) × (command ≡ Pop))
    (MatchBool (bytes_eq name (codes "insert"))
    ((p : ℕ × ℕ) × AreNumberAndElement rest p × (command ≡ Insert p.0 p.1))
    (MatchBool (bytes_eq name (codes "remove")) ((n : ℕ) × IsNumber rest n × (command ≡ Remove n))
    (MatchBool (bytes_eq name (codes "swap_remove"))
    ((n : ℕ) × IsNumber rest n × (command ≡ SwapRemove n))
    (MatchBool (bytes_eq name (codes "truncate"))
    ((n : ℕ) × IsNumber rest n × (command ≡ Truncate n))
    (MatchBool (bytes_eq name (codes "clear")) ((rest ≡ []) × (command ≡ Clear))
    (MatchBool (bytes_eq name (codes "reserve")) ((n : ℕ) × IsNumber rest n × (command ≡ Reserve n))
    (MatchBool (bytes_eq name (codes "reserve_exact"))
    ((n : ℕ) × IsNumber rest n × (command ≡ ReserveExact n))
    (SayAfterUncommon name rest command))))))))))

-- the words say the command `Extend`
abbrev pub SaysExtend : List (List ℕ) → Command ℕ Global → Type 0
SaysExtend words (Extend items hint) = AreExtend words items.items hint
SaysExtend words command = ⊥

-- the words say the command `Splice`
abbrev pub SaysSplice : List (List ℕ) → Command ℕ Global → Type 0
SaysSplice words (Splice start end items hint) = AreSplice words start end items.items hint
SaysSplice words command = ⊥
