use Rattle.std.proofs.Common.{sym, ap, ◌∙◌}
use Rattle.nx_tree.specs.Forest.{forest_of, planted, nodes}
use Rattle.nx_tree.proofs.ForestLemmas.{forest_of-planted, nodes-planted}
use Rattle.nx_tree.proofs.tree.Trees.push.Goals as goal

pub returns-clause-ok : goal.returns-clause-ok
returns-clause-ok c =
    ap forest_of c.in_ok-push.ensures.items ∙ forest_of-planted _ _ ∙ ap (λ f. planted f c.args.item) c.self.view_is

pub invariant_of-self-2 : goal.invariant_of-self-2
invariant_of-self-2 c =
    (rw c.in_ok-node_count.ensures.ok_part at c.count_with.ensures)
    ∙ sym (nodes-planted c.args.self.now c.args.item)
    ∙ sym (ap nodes (ap forest_of c.in_ok-push.ensures.items ∙ forest_of-planted _ _ ∙ ap (λ f. planted f c.args.item) c.self.view_is))
