use Rattle.aa_vec.proofs.Common.{◌≡◌, ◌≤◌, ◌+◌, ◌-◌, ◌*◌, ◌++◌, take, AreEmpty, IsRun, count_from, run, flattened, len, Becomes, run_count}
use Rattle.aa_vec.proofs.vec.convert.arrays.Vec+array+N+T+A.pour_into.Given as goal

abbrev pub invariant-each : goal.invariant-each
invariant-each g l = record {
  emptied : AreEmpty (take l.i l.block.places);
  filled : IsRun l.block.places l.i (l.len - l.i);
  items : l.flat.items ++ flattened (run l.block.places l.i (l.len - l.i)) ≡ l.fn.flat.items
      ++ flattened l.fn.self.items;
  long : len l.flat ≡ len l.fn.flat + l.i * g.row.N;
  few : count_from l.block.places l.len + l.settled.count ≤ l.apart.count;
  becomes : Becomes l.fn.flat l.flat.items (l.i * g.row.N) (l.i * run_count g.row.N) l.flat;
}
