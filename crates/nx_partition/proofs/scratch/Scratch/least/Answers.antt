use Rattle.std.proofs.Common.{◌≡◌, arith, length, ap, ◌∙◌, subst, sym}
use Rattle.nx_tree.specs.Forest.{OrderedTree}
use Rattle.nx_weights.specs.Weight.{weight}
use Rattle.nx_choices.specs.Choice.{leasts, AreWeighed}
use Rattle.nx_choices.specs.Least.{IsLeastChoice}
use Rattle.nx_minima.specs.Seen.{seen, tops}
use Rattle.nx_minima.proofs.MinimaLemmas.{least_choices, minima-tops}
use Rattle.nx_partition.proofs.BoundsLemmas.{enough, few_seen, few_leasts, weighed}
use Rattle.nx_partition.proofs.scratch.Scratch.least.Goals as goal

pub see-requires-clause-enough : goal.see-requires-clause-enough
see-requires-clause-enough c = enough c.args.k c.args.tree.now.below c.args.below.now c.requires.minima

pub least-requires-clause-number : goal.least-requires-clause-number
least-requires-clause-number c =
    let is : c.as_slice.result.now ≡ seen (tops c.args.tree.now.below c.args.below.now) = c.as_slice.ensures.value ∙ c.in_ok-see.ensures in
    let n = few_seen c.args.k c.args.tree.now.below (tops c.args.tree.now.below c.args.below.now) (minima-tops c.args.k c.args.tree.now.below c.args.below.now c.requires.minima) in
    let few = c.requires.limits.few in
    let same = ap length is in
    omega arith

pub least-requires-clause-sum : goal.least-requires-clause-sum
least-requires-clause-sum c =
    let is : c.as_slice.result.now ≡ seen (tops c.args.tree.now.below c.args.below.now) = c.as_slice.ensures.value ∙ c.in_ok-see.ensures in
    let n = few_leasts c.args.k c.args.tree.now.below (tops c.args.tree.now.below c.args.below.now) (minima-tops c.args.k c.args.tree.now.below c.args.below.now c.requires.minima) in
    let few = c.requires.limits.few in
    let same = ap leasts is in
    omega arith

pub least-requires-clause-weights : goal.least-requires-clause-weights
least-requires-clause-weights c =
    subst (AreWeighed c.args.k) (sym (c.as_slice.ensures.value ∙ c.in_ok-see.ensures))
    (weighed c.args.k c.args.tree.now.below (tops c.args.tree.now.below c.args.below.now) (minima-tops c.args.k c.args.tree.now.below c.args.below.now c.requires.minima))

pub returns : goal.returns
returns c =
    let bounds = tops c.args.tree.now.below c.args.below.now in
    let is : c.as_slice.result.now ≡ seen bounds = c.as_slice.ensures.value ∙ c.in_ok-see.ensures in
    let own = c.weight.ensures ∙ ap (λ (t : OrderedTree). weight t.node) c.tree.view_is in
    (least_choices c.args.k c.args.tree.now c.as_bound.result bounds (minima-tops c.args.k c.args.tree.now.below c.args.below.now c.requires.minima)).1
    (subst (IsLeastChoice c.args.k (weight c.args.tree.now.node) (seen bounds)) c.as_bound.ensures
    (subst (λ cs. IsLeastChoice c.args.k (weight c.args.tree.now.node) cs c.in_ok-node.node) is (subst (λ w. IsLeastChoice c.args.k w c.as_slice.result.now c.in_ok-node.node) own c.in_ok-node.ensures)))
