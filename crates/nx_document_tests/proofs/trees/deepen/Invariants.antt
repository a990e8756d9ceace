use Rattle.nx_tree.specs.Document.{IsDocument}
use Rattle.nx_document_tests.proofs.trees.deepen.Given as goal

abbrev pub invariant-loop-len : goal.invariant-loop-len
invariant-loop-len l = IsDocument l.tree
