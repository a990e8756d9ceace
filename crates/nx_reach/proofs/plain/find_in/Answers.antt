use Rattle.std.proofs.Common.{[], ap, ◌∙◌, subst}
use Rattle.nx_tree.specs.Forest.{OrderedTree}
use Rattle.nx_reach.specs.Reach.{Found}
use Rattle.nx_reach.proofs.FoundLemmas.{walk_finds, same_walk}
use Rattle.nx_reach.proofs.plain.find_in.Goals as goal

pub returns : goal.returns
returns c = subst (Found c.args.tree.now c.args.steps.now)
    (same_walk c.new-state.result.steps.now c.args.steps.now c.new-path.result c.as_slice-below.result.now c.args.tree.now c.new-found.result c.walk.new.found
    c.new-state.ensures.steps c.new-path.ensures (c.as_slice-below.ensures.forest ∙ ap (λ (t : OrderedTree). t.below) c.tree.view_is) c.new-found.ensures
    (c.in_ok-walk.ensures.found [] c.new-state.ensures.stands))
    (walk_finds c.args.tree.now c.args.steps.now c.new-state.ensures.some)
