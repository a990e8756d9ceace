use Rattle.std.proofs.Common.{ap, ◌∙◌}
use Rattle.nx_tree.specs.Forest.{OrderedTree, trees_of}
use Rattle.nx_tree.proofs.TestLemmas.{root_at}
use Rattle.nx_tree.proofs.tree.edit.is_root_element.Goals as goal

pub returns-in-len1 : goal.returns-in-len1
returns-in-len1 c =
    c.is_element_at.ensures
    ∙ root_at c.args.path.now c.args.tree.now _ c.in-len1.len_at_least c.in-len1.len_below
    (c.as_slice.ensures.trees ∙ ap (λ (t : OrderedTree). trees_of t.below) c.tree.view_is)
