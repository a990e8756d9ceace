use Rattle.std.proofs.Common.{◌≡◌, arith, length, ap, ◌∙◌, subst, sym}
use Rattle.std.proofs.lemmas.List.{take_rest}
use Rattle.nx_tree.specs.Forest.{OrderedTree}
use Rattle.nx_weights.specs.Weight.{weight}
use Rattle.nx_parts.specs.declared.bounds.Bound.{Bound}
use Rattle.nx_choices.specs.Choice.{AreWeighed}
use Rattle.nx_minima.specs.Seen.{seen, tops}
use Rattle.nx_minima.proofs.BoundLemmas.{within_bounds}
use Rattle.nx_partition.specs.Planning.{first_bound, behind_first, number_in, weight_in}
use Rattle.nx_partition.proofs.BoundsLemmas.{enough, few_seen, weighed, first_is, behind_is, has_choice, choice_as, choice_added, own_minima, below_minima}
use Rattle.nx_partition.proofs.scratch.Scratch.choose.Goals as goal

pub see-requires-clause-enough : goal.see-requires-clause-enough
see-requires-clause-enough c =
    let n = enough c.args.k c.args.tree.now.below (behind_first c.args.bounds.now) (below_minima c.args.k c.args.tree.now c.args.bounds.now c.requires.minima) in
    let same = ap length (take_rest c.args.bounds.now 1 ∙ sym (behind_is c.args.bounds.now)) in
    omega arith

pub form_of-form-requires : goal.form_of-form-requires
form_of-form-requires c =
    let m = (own_minima c.args.k c.args.tree.now c.args.bounds.now c.requires.minima).1 in
    let w = (within_bounds c.args.k c.args.tree.now (first_bound c.args.bounds.now) m).few in
    let few = c.requires.limits.few in
    let same = ap (λ (b : Bound). b.least) (first_is c.args.bounds.now) in
    omega arith

pub choose-requires-clause-number : goal.choose-requires-clause-number
choose-requires-clause-number c =
    let below = take_rest c.args.bounds.now 1 ∙ sym (behind_is c.args.bounds.now) in
    let is : c.as_slice.result.now ≡ seen (tops c.args.tree.now.below (behind_first c.args.bounds.now)) = c.as_slice.ensures.value ∙ c.in_ok-see.ensures ∙ ap (λ bs. seen (tops c.args.tree.now.below bs)) below in
    let n = few_seen c.args.k c.args.tree.now.below (tops c.args.tree.now.below (behind_first c.args.bounds.now)) (own_minima c.args.k c.args.tree.now c.args.bounds.now c.requires.minima).0 in
    let few = c.requires.limits.few in
    let same = ap length is in
    omega arith

pub choose-requires-clause-weights : goal.choose-requires-clause-weights
choose-requires-clause-weights c =
    let below = take_rest c.args.bounds.now 1 ∙ sym (behind_is c.args.bounds.now) in
    let is : c.as_slice.result.now ≡ seen (tops c.args.tree.now.below (behind_first c.args.bounds.now)) = c.as_slice.ensures.value ∙ c.in_ok-see.ensures ∙ ap (λ bs. seen (tops c.args.tree.now.below bs)) below in
    subst (AreWeighed c.args.k) (sym is)
    (weighed c.args.k c.args.tree.now.below (tops c.args.tree.now.below (behind_first c.args.bounds.now)) (own_minima c.args.k c.args.tree.now c.args.bounds.now c.requires.minima).0)

pub choose-requires-clause-there : goal.choose-requires-clause-there
choose-requires-clause-there c =
    let below = take_rest c.args.bounds.now 1 ∙ sym (behind_is c.args.bounds.now) in
    let is : c.as_slice.result.now ≡ seen (tops c.args.tree.now.below (behind_first c.args.bounds.now)) = c.as_slice.ensures.value ∙ c.in_ok-see.ensures ∙ ap (λ bs. seen (tops c.args.tree.now.below bs)) below in
    let own = c.weight.ensures ∙ ap (λ (t : OrderedTree). weight t.node) c.tree.view_is in
    let first = first_is c.args.bounds.now in
    choice_as c.args.k (sym own) (ap (number_in c.args.second) first ∙ sym c.form_of-form.ensures.number) (ap (weight_in c.args.second) first ∙ sym c.form_of-form.ensures.weight) (sym is)
    (has_choice c.args.k c.args.tree.now c.args.second c.args.bounds.now c.requires.minima)

pub returns : goal.returns
returns c =
    let below = take_rest c.args.bounds.now 1 ∙ sym (behind_is c.args.bounds.now) in
    let is : c.as_slice.result.now ≡ seen (tops c.args.tree.now.below (behind_first c.args.bounds.now)) = c.as_slice.ensures.value ∙ c.in_ok-see.ensures ∙ ap (λ bs. seen (tops c.args.tree.now.below bs)) below in
    let own = c.weight.ensures ∙ ap (λ (t : OrderedTree). weight t.node) c.tree.view_is in
    let first = first_is c.args.bounds.now in
    choice_added c.args.k own (c.form_of-form.ensures.number ∙ sym (ap (number_in c.args.second) first)) (c.form_of-form.ensures.weight ∙ sym (ap (weight_in c.args.second) first)) is c.new-stands.ensures.items c.in_ok-choose.ensures
