use Rattle.allocator_api2.proofs.Common.{length, type_size, param, HasRoom, SameBlock, state_of, calls_of, MayRun}
use Rattle.allocator_api2.proofs.Runs.{HasRun}
use Rattle.allocator_api2.proofs.runner.run.Given as goal

abbrev pub invariant-loop-command : goal.invariant-loop-command
invariant-loop-command g l = record {
  run : HasRun (type_size (param 0 g.row.T))
      (calls_of g.A.Clone.is_clone g.A.Clone.is_infallible g.K.FnMut g.S.FnMut)
      (state_of l.fn.main l.fn.side l.fn.keep l.fn.same) l.fn.commands.items l.fn.replies.items
      l.command-iterator.items l.replies.items (state_of l.main l.side l.keep l.same);
  callable : MayRun (type_size (param 0 g.row.T))
      (calls_of g.A.Clone.is_clone g.A.Clone.is_infallible g.K.FnMut g.S.FnMut)
      (state_of l.main l.side l.keep l.same) l.command-iterator.items;
  room : HasRoom l.replies (length l.command-iterator.items);
  stay : SameBlock l.fn.replies l.replies;
}
