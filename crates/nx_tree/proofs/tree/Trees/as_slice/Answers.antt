use Rattle.std.proofs.Common.{sym, ap, ◌∙◌}
use Rattle.nx_tree.specs.Forest.{trees_of}
use Rattle.nx_tree.proofs.ForestLemmas.{trees_of-forest_of}
use Rattle.nx_tree.proofs.tree.Trees.as_slice.Goals as goal

pub returns-clause-trees : goal.returns-clause-trees
returns-clause-trees c = c.as_slice.ensures.value ∙ sym (trees_of-forest_of _) ∙ ap trees_of c.self.view_is
