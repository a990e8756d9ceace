use Rattle.std.proofs.Common.{◌≡◌, arith, length, ap, ◌∙◌, subst, sym}
use Rattle.std.proofs.lemmas.List.{take_all}
use Rattle.nx_tree.specs.Forest.{OrderedTree}
use Rattle.nx_weights.specs.Weight.{weight}
use Rattle.nx_choices.specs.Choice.{leasts, AreWeighed}
use Rattle.nx_choices.specs.Least.{IsLeastChoice}
use Rattle.nx_minima.specs.Seen.{seen}
use Rattle.nx_minima.proofs.MinimaLemmas.{least_choices}
use Rattle.nx_partition.proofs.BoundsLemmas.{few_seen, few_leasts, weighed}
use Rattle.nx_partition.proofs.bounding.bound_of.Goals as goal

pub least-requires-clause-number : goal.least-requires-clause-number
least-requires-clause-number c =
    let all = take_all c.loop-bound.bound-index c.as_slice-bound-items.result.now c.loop-bound-test.false in
    let is : c.as_slice.result.now ≡ seen c.args.children.now = c.as_slice.ensures.value ∙ c.loop-bound.invariant ∙ ap seen (all ∙ c.as_slice-bound-items.ensures) in
    let n = few_seen c.args.k c.args.tree.now.below c.args.children.now c.requires.children in
    let few = c.requires.limits.few in
    let same = ap length is in
    omega arith

pub least-requires-clause-sum : goal.least-requires-clause-sum
least-requires-clause-sum c =
    let all = take_all c.loop-bound.bound-index c.as_slice-bound-items.result.now c.loop-bound-test.false in
    let is : c.as_slice.result.now ≡ seen c.args.children.now = c.as_slice.ensures.value ∙ c.loop-bound.invariant ∙ ap seen (all ∙ c.as_slice-bound-items.ensures) in
    let n = few_leasts c.args.k c.args.tree.now.below c.args.children.now c.requires.children in
    let few = c.requires.limits.few in
    let same = ap leasts is in
    omega arith

pub least-requires-clause-weights : goal.least-requires-clause-weights
least-requires-clause-weights c =
    let all = take_all c.loop-bound.bound-index c.as_slice-bound-items.result.now c.loop-bound-test.false in
    let is : c.as_slice.result.now ≡ seen c.args.children.now = c.as_slice.ensures.value ∙ c.loop-bound.invariant ∙ ap seen (all ∙ c.as_slice-bound-items.ensures) in
    subst (AreWeighed c.args.k) (sym is) (weighed c.args.k c.args.tree.now.below c.args.children.now c.requires.children)

pub returns : goal.returns
returns c =
    let all = take_all c.loop-bound.bound-index c.as_slice-bound-items.result.now c.loop-bound-test.false in
    let is : c.as_slice.result.now ≡ seen c.args.children.now = c.as_slice.ensures.value ∙ c.loop-bound.invariant ∙ ap seen (all ∙ c.as_slice-bound-items.ensures) in
    let own = c.weight.ensures ∙ ap (λ (t : OrderedTree). weight t.node) c.tree.view_is in
    (least_choices c.args.k c.args.tree.now c.as_bound.result c.args.children.now c.requires.children).1
    (subst (IsLeastChoice c.args.k (weight c.args.tree.now.node) (seen c.args.children.now)) c.as_bound.ensures
    (subst (λ cs. IsLeastChoice c.args.k (weight c.args.tree.now.node) cs c.in_ok-node.node) is (subst (λ w. IsLeastChoice c.args.k w c.as_slice.result.now c.in_ok-node.node) own c.in_ok-node.ensures)))
