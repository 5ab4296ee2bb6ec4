use Rattle.aa_boxed.proofs.{length, string_bytes, string_capacity, take, ◌++◌, ◌≡◌, ◌+◌, ◌≤◌}
use Rattle.aa_boxed.proofs.boxed.text.append_within_capacity.Given as goal

abbrev pub invariant-loop-byte : goal.invariant-loop-byte
invariant-loop-byte g l = record {
  items : l.bytes.items ≡ string_bytes l.fn.text ++ take l.byte-index l.byte-items;
  capacity : l.bytes.cap ≡ string_capacity l.fn.text;
  room : length (string_bytes l.fn.text) + length l.byte-items ≤ l.bytes.cap;
}
