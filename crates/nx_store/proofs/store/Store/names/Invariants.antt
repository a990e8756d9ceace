use Rattle.std.proofs.Common.{◌≡◌}
use Rattle.nx_store.proofs.ListedLemmas.{lines_of}
use Rattle.nx_store.proofs.store.Store.names.Given as goal

abbrev pub invariant-loop-name : goal.invariant-loop-name
invariant-loop-name l = l.lines ≡ lines_of l.yielded
