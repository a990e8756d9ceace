use Rattle.std.proofs.Common.{sym, ap, ◌∙◌, length, ◌==◌}
use Rattle.nx_tree.specs.Forest.{trees_of}
use Rattle.nx_tree.proofs.ForestLemmas.{trees_of-forest_of}
use Rattle.nx_tree.proofs.tree.Trees.is_empty.Goals as goal

pub returns : goal.returns
returns c =
    c.is_empty.ensures
    ∙ ap (λ ts. length ts == 0) (c.as_slice.ensures.value ∙ sym (trees_of-forest_of _) ∙ ap trees_of c.self.view_is)
