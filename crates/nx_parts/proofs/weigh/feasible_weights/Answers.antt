use Rattle.std.proofs.Common.{◌∙◌, arith}
use Rattle.nx_parts.proofs.FeasibleLemmas.{length-weights, feasible, too_heavy}
use Rattle.nx_parts.proofs.weigh.feasible_weights.Goals as goal

pub first_above-requires : goal.first_above-requires
first_above-requires c =
    let n = length-weights c.args.tree.now c.args.parts.now c.as_slice.result.now (c.as_slice.ensures ∙ c.in_ok-weights.ensures.ok.1) in
    let few = c.requires.few in
    omega arith

pub returns-in-Some-clause-err : goal.returns-in-Some-clause-err
returns-in-Some-clause-err c =
    too_heavy c.args.tree.now c.args.parts.now c.as_slice.result.now (c.as_slice.ensures ∙ c.in_ok-weights.ensures.ok.1) c.args.k c.in-Some.index c.in-Some.weight c.in_ok-weights.ensures.ok.0 c.in-Some.ensures

pub returns-in-None-clause-ok : goal.returns-in-None-clause-ok
returns-in-None-clause-ok c = (
  feasible c.args.tree.now c.args.parts.now c.as_slice.result.now (c.as_slice.ensures ∙ c.in_ok-weights.ensures.ok.1) c.args.k c.in_ok-weights.ensures.ok.0 c.in-None.ensures,
  c.in_ok-weights.ensures.ok.1,
)
