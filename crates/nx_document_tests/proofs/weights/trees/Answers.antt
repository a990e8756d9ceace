use Rattle.std.proofs.Common.{[], ◌∷◌}
use Rattle.nx_weights.proofs.LimitLemmas.{document_within, at_within}
use Rattle.nx_document_tests.proofs.weights.trees.Goals as goal

pub check-requires : goal.check-requires
check-requires g c = document_within _ c.in_ok-tree.ensures

pub check-requires-2 : goal.check-requires-2
check-requires-2 g c = at_within (1 ∷ []) c.in_ok-tree.tree c.in_ok-element.element.now c.in_ok-element.ensures.ok (document_within _ c.in_ok-tree.ensures)
