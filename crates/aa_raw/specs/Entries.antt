-- What borrowed entries own: the values in the filled places of a block of pairs.
use Rattle.std.specs.Prelude.{ℕ, ◌+◌, ◌*◌, List, [], ◌∷◌, length, Option, Some, None}
use Rattle.std.specs.Mem.{type_size}
use base.Fraction.{full_share}
use base.Fml.{Lft, GName, Fml, ftrue, ffalse, fsep, fobs, fbor}
use base.Stored.{coded_list}
use types.SemTy.{SemTy, Body}
use denote.RattleType.{RattleType}
use denote.Memory.{part_at}
use denote.RawPtr.{Ptr, block_ptr, null_ptr}
use denote.Struct.Tuple.{Tuple}
use Rattle.aa_raw.specs.Ownership.{each, fits_isize}

module _ {K V : Type 0} where
  -- the values of the entries in the places `cs`
  abbrev pub values_of : List (Option (K × V)) → List V
  values_of [] = []
  values_of (None ∷ cs) = values_of cs
  values_of (Some e ∷ cs) = e.1 ∷ values_of cs

  -- the places `cs` with the values `ws` for the keys, in order; a key without one keeps its value
  abbrev pub with_values : List (Option (K × V)) → List V → List (Option (K × V))
  with_values [] ws = []
  with_values (None ∷ cs) ws = None ∷ with_values cs ws
  with_values (Some e ∷ cs) [] = Some e ∷ with_values cs []
  with_values (Some e ∷ cs) (w ∷ ws) = Some (e.0, w) ∷ with_values cs ws

module _ (K V : RattleType) where
  -- the type of an entry
  abbrev pub Entry : RattleType
  Entry = Tuple (K ∷ V ∷ [])

  module _ (b o : ℕ) where
    -- the entry of place `i`, in a block of places that begins `o` bytes into the memory block `b`
    abbrev pub entry_owns : ℕ → Option (K.Denot × V.Denot) → Fml
    entry_owns i None = ftrue
    entry_owns i (Some e) = part_at Entry full_share e b (i * type_size Entry + o)

    -- the entries with the keys of the places `cs`, as a type whose value is the list of values
    abbrev pub Values : List (Option (K.Denot × V.Denot)) → SemTy
    Values cs = record {
      rep = List V.Denot;
      coded = coded_list V.coded;
      size = 0;
      own_at = λ ws _ _. each entry_owns 0 (with_values cs ws);
    }

  -- the entries in the places `cs` from `p` on are borrowed for `κ`, under the name `γ`
  abbrev pub entries_owned : Lft → Ptr → GName → List (Option (K.Denot × V.Denot)) → Fml
  entries_owned κ null_ptr γ cs = ffalse
  entries_owned κ (block_ptr b o) γ cs =
      fsep (fits_isize Entry (length cs))
      (fsep (fobs γ ((coded_list V.coded).code (values_of cs))) (fbor κ (Body (Values b o cs) 0 0 γ)))
