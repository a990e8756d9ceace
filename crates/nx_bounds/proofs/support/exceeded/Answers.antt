use Rattle.std.proofs.Common.{arith, ◌≡◌, ◌+◌, ◌≤◌, length, drop, sym, subst, ap, ◌∙◌}
use Rattle.std.proofs.lemmas.Option.{get_or_from_slice_get}
use Rattle.std.proofs.lemmas.Result.{IfOk-weaker}
use Rattle.nx_tree.specs.Forest.{OrderedTree, nodes}
use Rattle.nx_weights.specs.Weight.{weight}
use Rattle.nx_minima.specs.Seen.{as_child}
use Rattle.nx_bounds.specs.Claim.{claimed_children}
use Rattle.nx_choices.specs.Choice.{AreWeighed}
use Rattle.nx_bounds.proofs.WalkLemmas.{children_weighed, length-children, found_same}
use Rattle.nx_bounds.proofs.support.exceeded.Goals as goal

pub exceeded-requires : goal.exceeded-requires
exceeded-requires c =
    let kids = claimed_children c.args.k c.args.tree.now.below (drop (c.args.place + 1) c.args.bounds.now) in
    let same : c.as_slice.result.now ≡ kids = c.as_slice.ensures.value ∙ c.in_ok-claim_children.ensures in
    let size : length c.as_slice.result.now ≡ length kids = ap length same in
    let few : length kids ≤ nodes c.args.tree.now.below = length-children c.args.k c.args.tree.now.below (drop (c.args.place + 1) c.args.bounds.now) in
    record {
      some = c.requires.some;
      bound = c.requires.bound;
      number = omega arith;
      weights = subst (AreWeighed c.args.k) (sym same) (children_weighed c.args.k c.args.tree.now.below (drop (c.args.place + 1) c.args.bounds.now) c.requires.some);
    }

pub returns : goal.returns
returns c =
    let bounds = drop (c.args.place + 1) c.args.bounds.now in
    IfOk-weaker c.exceeded.result _ _
    (λ found h b at.
    found_same c.args.k c.weight-own.result c.args.tree.now bounds c.as_slice.result.now _ b found (c.weight-own.ensures ∙ ap (λ (x : OrderedTree). weight x.node) c.tree.view_is)
    (c.as_slice.ensures.value ∙ c.in_ok-claim_children.ensures)
    (c.as_child.ensures ∙ ap as_child (get_or_from_slice_get c.args.bounds.now c.args.place b _ at)) h)
    c.exceeded.ensures
