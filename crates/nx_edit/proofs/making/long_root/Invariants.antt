use Rattle.nx_edit.proofs.LongLemmas.{PassedRoots}
use Rattle.nx_edit.proofs.making.long_root.Given as goal

abbrev pub invariant-loop-index : goal.invariant-loop-index
invariant-loop-index l = PassedRoots l.roots l.index
