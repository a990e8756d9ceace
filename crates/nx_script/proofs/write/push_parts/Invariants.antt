use Rattle.std.proofs.Common.{length}
use Rattle.nx_script.proofs.ReplyLemmas.{HasParts}
use Rattle.nx_script.proofs.write.push_parts.Given as goal

abbrev pub invariant-loop-interval : goal.invariant-loop-interval
invariant-loop-interval l = HasParts l.parts l.weights l.initial.block l.block (length l.yielded)
