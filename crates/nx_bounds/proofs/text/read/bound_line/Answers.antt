use Rattle.std.proofs.Common.{ℕ, Some, sym, ap, ◌∙◌}
use Rattle.nx_bounds.specs.declared.text.PlanLine.TheVariants.{Claim}
use Rattle.nx_bounds.proofs.PlanFields.{bound-not_node, bound-not_three, bound-all}
use Rattle.nx_bounds.proofs.text.read.bound_line.Goals as goal

pub returns-in_err-node : goal.returns-in_err-node
returns-in_err-node c = rw c.from_residual.ensures (sym (bound-not_node c.args.others.now c.in_err-node.ensures))

pub returns-in_err-numbers : goal.returns-in_err-numbers
returns-in_err-numbers c =
    rw c.from_residual-in_err-numbers.ensures (sym (bound-not_three c.args.others.now c.in_ok-node.numbers.now c.in_ok-node.ensures.0 (sym c.in_err-numbers.ensures)))

pub returns : goal.returns
returns c =
    let n = c.in_ok-numbers.numbers in
    ap (λ (node : ℕ). Some (Claim node (record { least = n.first; lean = n.second; nearly = n.third }))) c.in_ok-node.ensures.2
    ∙ sym (bound-all c.args.others.now c.in_ok-node.numbers.now n c.in_ok-node.ensures.0 c.in_ok-node.ensures.1 (sym c.in_ok-numbers.ensures))
