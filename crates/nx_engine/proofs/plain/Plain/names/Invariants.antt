use Rattle.std.proofs.Common.{◌≡◌}
use Rattle.nx_engine.proofs.ListedLemmas.{lines_of}
use Rattle.nx_engine.proofs.plain.Plain.names.Given as goal

abbrev pub invariant-loop-name : goal.invariant-loop-name
invariant-loop-name l = l.lines ≡ lines_of l.yielded
