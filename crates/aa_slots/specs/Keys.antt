-- Keys of a kind, and what they consist of.
use Rattle.aa_slots.specs.declared.key.Key.{Key}
use Rattle.aa_slots.specs.declared.key.KeyData.{KeyData}

module _ {K : Type 0} where
  -- the key that consists of `d`
  abbrev pub key_of : (d : KeyData) → Key K
  key_of d = record { parts = d; kind = record {} }

  -- an item of an iterator by value as the data of its key, and its value
  abbrev pub data_pair : {T : Type 0} → Key K × T → KeyData × T
  data_pair item = (item.0.parts, item.1)
