use Rattle.aa_raw.proofs.{HoldsClones, length, take, ◌+◌, ◌≡◌}
use Rattle.aa_raw.proofs.vec.clones.put_clones.Given as goal

abbrev pub invariant-each : goal.invariant-each
invariant-each g l = record {
  clones : HoldsClones g.T.Clone.is_clone (take l.put l.source) l.block.places;
  long : length l.block.places ≡ length l.fn.block.places;
  grown : l.block.grown ≡ l.fn.block.grown;
  written : l.block.written ≡ l.fn.block.written + l.put;
  runs : l.block.runs ≡ l.fn.block.runs + l.put;
  alloc : l.block.alloc ≡ l.fn.block.alloc;
}
