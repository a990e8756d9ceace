use Rattle.std.proofs.Common.{length}
use Rattle.nx_bounds.proofs.Pushed.{IsWritten, parts_said, bounds_said}
use Rattle.nx_bounds.proofs.text.write.write_plan.Given as goal

abbrev pub invariant-loop-interval : goal.invariant-loop-interval
invariant-loop-interval l = IsWritten l.text (parts_said (length l.yielded) l.plan)

abbrev pub invariant-loop-node : goal.invariant-loop-node
invariant-loop-node l = IsWritten l.text (bounds_said l.node l.plan)
