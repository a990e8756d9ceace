use Rattle.std.proofs.Common.{◌-◌, length}
use Rattle.nx_script.proofs.DocumentLines.{AreUndotted}
use Rattle.nx_script.proofs.body.before_dot.Given as goal

-- the lines so far have ended, and none begins with a dot
abbrev pub invariant-loop-start : goal.invariant-loop-start
invariant-loop-start l = AreUndotted l.bytes l.start

abbrev pub decreases-loop-start : goal.decreases-loop-start
decreases-loop-start l = length l.bytes - l.start
