use Rattle.std.proofs.Common.{length}
use Rattle.nx_front.specs.Generating.{generated_requests}
use Rattle.nx_front.proofs.GeneratingLemmas.{IsAmid}
use Rattle.nx_front.proofs.generate.carry_out.Given as goal

-- the commands that came were carried out, and the others remain
abbrev pub invariant-loop-command : goal.invariant-loop-command
invariant-loop-command g l = IsAmid g.D.Disk (generated_requests l.seed l.n) l.commands l.counts.commands l.counts.errors l.counts.bytes l.initial.store l.store l.initial.disk l.disk

abbrev pub decreases-loop-command : goal.decreases-loop-command
decreases-loop-command g l = length l.commands
